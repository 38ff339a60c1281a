-- What a call of a drawing comes to: the lines of a piece, and what is to be done behind them.
-- Assumes nothing.
use mathlib.Core.Path.{◌≡◌, refl, ap}
use mathlib.Core.Bool.{true, false}
use mathlib.Core.List.{List, [], ◌∷◌}
use mathlib.Core.Logic.{◌⊎◌, inl, inr}
use Prim.Native.Nat.{ℕ, ◌≤◌, ◌<◌}
use native.Mathlib.Omega.{arith}
use lib.ListN.{length}
use Rattle.tables.specs.Tables.{Tables}
use Rattle.tables.specs.Keeping.{KeptTables}
use Rattle.tables.proofs.Keeping.{tables_same}
use Rattle.record.specs.Text.{WroteAt}
use Rattle.record.specs.Splitting.{last_newlines}
use Rattle.record.proofs.Placing.{placed_length}
use Rattle.reader.specs.declared.Reader.{Reader}
use Rattle.reader.specs.declared.driver.Until.TheVariants.{End as UntilEnd}
use Rattle.reader.specs.declared.task.Task.TheVariants.{Read, End}
use Rattle.reader.specs.Opening.{reader_states}
use Rattle.reader.specs.Pieces.{piece_or}
use Rattle.reader.specs.Turning.{Answered}
use Rattle.reader.specs.Advancing.{Advances}
use Rattle.reader.proofs.Whole.{only_ended}
use Rattle.picture.specs.declared.drawer.Drawer.{Drawer}
use Rattle.picture.specs.Drawer.{picture_by, Draws, short, goes_on, stopped, ended}

-- The lines of a piece have been read,
module _ {d : Drawer} {piece output part : List ℕ} {t t' : Tables} {r : Reader} {left : List ℕ} {o : Answered} (q : part ≡ piece_or piece (last_newlines d.reader.splitter)) (a : Advances UntilEnd d.reader.splitter part d.reader.engine.graph t r.splitter left r.engine.graph t' o) where
  pub draws_on : (0 < length piece) × (r.splitter.stopped ≡ false) → Draws d piece output t (record { reader = r; end = 0; task = Read }) output t'
  draws_on h = by piece q h.0
    where
      by : (l : List ℕ) → part ≡ piece_or l (last_newlines d.reader.splitter) → 0 < length l → Draws d l output t (record { reader = r; end = 0; task = Read }) output t'
      by [] e z = absurd (omega arith)
      by (b ∷ l) e z = goes_on (rw e at a.follows) (only_ended a.stops) z h.1 refl refl refl

  -- and behind the last the newlines that lines lack.
  pub draws_out : {output' : List ℕ} {end : ℕ} → (piece ≡ []) ⊎ (r.splitter.stopped ≡ true) → WroteAt 0 (picture_by r t') output output' end → end ≤ length output → Draws d piece output t (record { reader = r; end = end; task = End }) output' t'
  draws_out {output'} {end} s w h = by piece q s
    where
      by : (l : List ℕ) → part ≡ piece_or l (last_newlines d.reader.splitter) → (l ≡ []) ⊎ (r.splitter.stopped ≡ true) → Draws d l output t (record { reader = r; end = end; task = End }) output' t'
      by [] e z = ended refl e a.follows (only_ended a.stops) refl w h
      by (b ∷ l) e (inl z) = absurd (let y = ap length z in omega arith)
      by (b ∷ l) e (inr z) = stopped (rw e at a.follows) z refl w h

-- What a call keeps of the tables and the output.
pub draws_kept : {d : Drawer} {piece output : List ℕ} {t : Tables} {d' : Drawer} {output' : List ℕ} {t' : Tables} → Draws d piece output t d' output' t' → KeptTables reader_states reader_states d.reader.engine.graph.limit t t'
draws_kept {d} {t = t} (short h q z w) = rw w (tables_same reader_states reader_states d.reader.engine.graph.limit t)
draws_kept (goes_on f l i s k e z) = f.kept
draws_kept (stopped f s k w h) = f.kept
draws_kept (ended e n f o k w h) = f.kept

placed_within : {r : ℕ} {text output output' : List ℕ} → WroteAt 0 text output output' r → r ≤ length output → length output' ≡ length output
placed_within {r} {text} {output} {output'} w h = placed_length 0 text output output' r w (omega (arith, w.after))

pub draws_within : {d : Drawer} {piece output : List ℕ} {t : Tables} {d' : Drawer} {output' : List ℕ} {t' : Tables} → Draws d piece output t d' output' t' → length output' ≡ length output
draws_within (short h q z w) = ap length z
draws_within (goes_on f l i s k e z) = ap length z
draws_within (stopped f s k w h) = placed_within w h
draws_within (ended e n f o k w h) = placed_within w h
