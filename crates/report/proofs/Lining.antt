-- The loop over the lines of a part: what holds at its test, and what it leaves.
-- Assumes nothing.
use mathlib.Core.Path.{◌≡◌, refl}
use mathlib.Core.Logic.{◌⊎◌, inl, inr}
use mathlib.Core.List.{List}
use Prim.Native.Nat.{ℕ, ◌+◌, ◌*◌, ◌-◌, ◌≤◌, ◌<◌}
use native.Mathlib.Omega.{arith}
use lib.ListN.{length, drop}
use Rattle.tables.specs.declared.Graph.{Graph}
use Rattle.tables.specs.Tables.{Tables}
use Rattle.record.specs.declared.splitter.Splitter.{Splitter}
use Rattle.record.specs.Text.{WroteAt}
use Rattle.record.proofs.Placing.{placed_none, placed_on, placed_length}
use Rattle.reader.specs.declared.Reader.{Reader}
use Rattle.reader.specs.declared.driver.Until.TheVariants.{News}
use Rattle.reader.specs.Turning.{Answered}
use Rattle.reader.specs.Advancing.{Follows, Advances}
use Rattle.reader.proofs.Following.{follows_none, follows_then}
use Rattle.report.specs.Printing.{line_room, answer_text, passed_text, Lines}
use Rattle.report.proofs.Saying.{passed_then, stops_text}

-- From the reader r at an index of a part to the reader r' at another.
pub record Lining (part : List ℕ) (index : ℕ) (r : Reader) (t : Tables) (r' : Reader) (t' : Tables) (next at : ℕ) (d e : List ℕ) (end : ℕ) : Type 0 where
  pub inside : next ≤ length part
  pub onward : index ≤ next
  pub still : next ≡ index → end ≡ at
  pub within : end ≤ length d
  pub each : end + line_room * index ≤ at + line_room * next
  pub follows : Follows r.splitter (drop index part) r.engine.graph t r'.splitter (drop next part) r'.engine.graph t'
  pub wrote : WroteAt at (passed_text follows.passed) d e end

pub lining_none : (part : List ℕ) (index : ℕ) (r : Reader) (t : Tables) (at : ℕ) (d : List ℕ) → index ≤ length part → at ≤ length d → Lining part index r t r t index at d d at
unfolding passed_text
lining_none part index r t at d h k =
    record { inside = h; onward = omega arith; still = λ e. refl; within = k; each = omega arith; follows = follows_none r.splitter (drop index part) r.engine.graph t; wrote = placed_none at d }

module _ {part : List ℕ} {index : ℕ} {r : Reader} {t : Tables} {r' : Reader} {t' : Tables} {next at : ℕ} {d e : List ℕ} {end : ℕ} (g : Lining part index r t r' t' next at d e end) where
  pub lining_length : length e ≡ length d
  lining_length = placed_length at (passed_text g.follows.passed) d e end g.wrote (omega (arith, g.wrote.after, g.within))

  pub lining_more :
      {r'' : Reader} {t'' : Tables} {n k : ℕ} {f : List ℕ} {o : Answered} → next < length part → line_room ≤ length e - end →
      (next ≤ length part → n ≤ length part) → (next < length part → next < n) → Advances News r'.splitter (drop next part) r'.engine.graph t' r''.splitter (drop n part) r''.engine.graph t'' o →
      WroteAt end (answer_text o t''.news t''.status) e f k → k ≤ end + line_room →
      Lining part index r t r'' t'' n at d f k
  lining_more {r''} {t''} {n} {k} {f} {o} h room inside onward a w fits =
      let m = onward h in
      let v : k ≤ length d = omega (arith, lining_length) in
      record {
        inside = inside g.inside;
        onward = omega (arith, g.onward);
        still = λ z. absurd (omega (arith, g.onward));
        within = v;
        each = omega (arith, g.each);
        follows = follows_then g.follows a.follows;
        wrote = rw (passed_then g.follows.passed a.follows.passed, stops_text a.follows.applied a.stops) (placed_on g.wrote w v);
      }

  pub lining_lines : {f : List ℕ} → f ≡ e → (length part ≤ next) ⊎ (length e - end < line_room) → Lines r.splitter part index r.engine.graph t r'.splitter next r'.engine.graph t' at d f end
  lining_lines z q = record { inside = g.inside; onward = λ i room. forward q i room; within = g.within; short = early q; each = g.each; follows = g.follows; wrote = rw z g.wrote }
    where
      early : (length part ≤ next) ⊎ (length e - end < line_room) → next < length part → length d < end + line_room
      early (inl z) h = absurd (omega arith)
      early (inr z) h = omega (arith, lining_length, g.within)

      forward : (length part ≤ next) ⊎ (length e - end < line_room) → index < length part → at + line_room ≤ length d → index < next
      forward (inl z) i room = omega arith
      forward (inr z) i room = by (Prim.Native.Nat.suc index - next) refl
        where
          by : (x : ℕ) → Prim.Native.Nat.suc index - next ≡ x → index < next
          by Prim.Native.Nat.zero y = omega arith
          by (Prim.Native.Nat.suc x) y = let e : next ≡ index = omega (arith, g.onward) in absurd (omega (arith, g.still e, lining_length))

-- the buffer's length stays
pub lines_length : {s s' : Splitter} {part : List ℕ} {index next : ℕ} {g g' : Graph} {t t' : Tables} {at : ℕ} {d e : List ℕ} {r : ℕ} → Lines s part index g t s' next g' t' at d e r → length e ≡ length d
lines_length {at = at} {d = d} {e = e} {r = r} k = placed_length at (passed_text k.follows.passed) d e r k.wrote (omega (arith, k.wrote.after, k.within))
