-- What a call of a listing comes to: the lines of a piece, and what is to be done behind them.
-- Assumes nothing.
use mathlib.Core.Path.{◌≡◌, refl, sym, ◌∙◌, ap, subst}
use mathlib.Core.Logic.{◌⊎◌, inl, inr}
use mathlib.Core.List.{List, [], ◌∷◌, ◌++◌}
use Prim.Native.Nat.{ℕ, zero, suc, ◌+◌, ◌≤◌, ◌<◌}
use native.Mathlib.Omega.{arith}
use native.Mathlib.Decide.{dec_lt}
use lib.ListN.{length, drop, length-drop, drop_of_length-le}
use Rattle.tables.specs.Tables.{Tables}
use Rattle.record.specs.Text.{WroteAt}
use Rattle.record.specs.Splitting.{last_newlines, tells}
use Rattle.record.proofs.Placing.{placed_on}
use Rattle.record.proofs.Splitting.{last_short, both_lack}
use Rattle.reader.specs.Pieces.{piece_or}
use Rattle.reader.specs.Advancing.{Follows}
use Rattle.reader.proofs.Following.{follows_all}
use Rattle.reader.proofs.Ending.{Silent, first_silent}
use Rattle.report.specs.declared.lister.Lister.{Lister}
use Rattle.reader.specs.declared.task.Task.{Task}
use Rattle.reader.specs.declared.task.Task.TheVariants.{Read, Write, End}
use Rattle.tables.proofs.Numbers.{lesser}
use Rattle.report.specs.Printing.{line_room, passed_text, Lines}
use Rattle.report.specs.Lister.{lister_room, place_by, start_by, resumed, AfterLines, waits, continues, short, totals, Lists, pauses, goes_on, stopped, ended}
use Rattle.report.proofs.Lining.{lines_length}
use Rattle.report.proofs.Saying.{silent_text, lacks_room}

-- a piece is read from an index within it
start_within : (task : Task) (next len : ℕ) → start_by task next len ≤ len
start_within Read next len = omega arith
start_within Write next len = (lesser next len).right
start_within End next len = (lesser next len).right

-- from none of an empty one
start_empty : (task : Task) (next : ℕ) → start_by task next 0 ≡ 0
start_empty task next = omega (arith, start_within task next 0)

-- The lines of a part have been listed, from an index on and behind a place.
module _
    (l : Lister) (piece output : List ℕ) (t : Tables) (d : Lister) (e : List ℕ) (t' : Tables) {part : List ℕ} {index at : ℕ} (room : at + lister_room ≤ length output) (place : at ≡ place_by l.task l.end)
    (k : Lines l.reader.splitter part index l.reader.engine.graph t d.reader.splitter d.next d.reader.engine.graph t' at output e d.end) where
  -- What they leave, by where they stop.
  abbrev Left : List ℕ → List ℕ → ℕ → Type 0
  Left bytes left at = (f : Follows l.reader.splitter bytes l.reader.engine.graph t d.reader.splitter left d.reader.engine.graph t') × WroteAt at (passed_text f.passed) output e d.end

  size : length e ≡ length output
  size = lines_length k

  -- a piece
  module _ (some : part ≡ piece) (from : index ≡ start_by l.task l.next (length piece)) where
    done : Left (drop (start_by l.task l.next (length piece)) piece) (drop d.next piece) (place_by l.task l.end)
    done =
        subst (λ (x : List ℕ). Left (drop (start_by l.task l.next (length piece)) x) (drop d.next x) (place_by l.task l.end)) some
        (subst (λ (i : ℕ). Left (drop i part) (drop d.next part) (place_by l.task l.end)) from
        (subst (λ (i : ℕ). Left (drop index part) (drop d.next part) i) place (k.follows, k.wrote)))

    pub lists_piece : {l' : Lister} {output' : List ℕ} → 0 < length piece → AfterLines d (length part) piece t'.status e l' output' → Lists l piece output t l' output' t'
    lists_piece z (waits h q y) = rw (q, y) (pauses done.0 refl (omega (arith, k.short h)) done.1 k.within)
    lists_piece z (continues h g s q y) = rw (q, y) (goes_on done.0 (drop_of_length-le piece (omega (arith, ap length some))) refl g s done.1 k.within)
    lists_piece z (short h (inl g) r q y) = absurd (omega (arith, ap length g))
    lists_piece z (short h (inr g) r q y) = rw (q, y) (pauses done.0 refl (omega (arith, size)) done.1 k.within)
    lists_piece z (totals h (inl g) q r w) = absurd (omega (arith, ap length g))
    lists_piece z (totals {r = n} h (inr g) q r w) =
        let v : n ≤ length output = omega (arith, size) in
        rw q (stopped done.0 refl g (placed_on done.1 w v) v)

  -- the end of the input
  module _ (none : piece ≡ []) (last : part ≡ last_newlines l.reader.splitter) (from : index ≡ start_by l.task l.next 0) where
    none_before : index ≡ 0
    none_before = from ∙ start_empty l.task l.next

    two : length part ≤ 2
    two = rw last (last_short l.reader.splitter)

    here : Left part (drop d.next part) at
    here = subst (λ (i : ℕ). Left (drop i part) (drop d.next part) at) none_before (k.follows, k.wrote)

    -- all of it has been read
    over : drop d.next part ≡ []
    over = by (first_silent last here.0)
      where
        unread : (n : ℕ) → length part ≡ n → length part ≡ length (drop d.next part) → drop d.next part ≡ []
        unread zero z m = let h : length part ≤ d.next = omega arith in drop_of_length-le part h
        unread (suc n) z m = absurd (omega (arith, k.onward (omega (arith, none_before)) (omega arith), length-drop d.next part))

        quiet : passed_text here.0.passed ≡ [] → Dec (d.next < length part) → drop d.next part ≡ []
        quiet q (yes h) = absurd (omega (arith, k.short h, here.1.after, ap length q))
        quiet q (no h) = let a : length part ≤ d.next = omega arith in drop_of_length-le part a

        by : (drop d.next part ≡ []) ⊎ ((here.0.read ≡ []) ⊎ Silent here.0.passed) → drop d.next part ≡ []
        by (inl q) = q
        by (inr (inl q)) = unread (length part) refl (ap length (here.0.split ∙ ap (λ (x : List ℕ). x ++ drop d.next part) q))
        by (inr (inr q)) = quiet (silent_text here.0.passed q) (dec_lt d.next (length part))

    -- and has printed one line at most
    one_line : d.end ≤ at + line_room
    one_line = by (dec_lt (length part) 2)
      where
        by : Dec (length part < 2) → d.end ≤ at + line_room
        by (yes h) = omega (arith, k.each, k.inside, none_before)
        by (no h) =
            let n : length (last_newlines l.reader.splitter) ≡ 2 = omega (arith, two, ap length last) in
            let r : here.0.read ≡ last_newlines l.reader.splitter = follows_all here.0 over ∙ last in
            omega (arith, here.1.after, lacks_room (both_lack l.reader.splitter n) (ap (tells l.reader.splitter) (sym r) ∙ here.0.told) here.0.applied)

    done_last : Left part (drop d.next part) (place_by l.task l.end)
    done_last = subst (λ (i : ℕ). Left part (drop d.next part) i) place here

    pub lists_end : {l' : Lister} {output' : List ℕ} → AfterLines d (length part) piece t'.status e l' output' → Lists l piece output t l' output' t'
    lists_end (waits h q y) = absurd (omega (arith, ap length over, length-drop d.next part))
    lists_end (continues h g s q y) = absurd (omega (arith, ap length none))
    lists_end (short h g r q y) = absurd (omega (arith, size, one_line))
    lists_end (totals {r = n} h g q r w) =
        let v : n ≤ length output = omega (arith, size) in
        rw q (ended none last done_last.0 over refl (placed_on done_last.1 w v) v)

-- Either, by what the piece is.
by_piece :
    (l : Lister) (piece output : List ℕ) (t : Tables) (d : Lister) (e : List ℕ) (t' : Tables) {part : List ℕ} → part ≡ piece_or piece (last_newlines l.reader.splitter) → (resumed l (length piece)).end + lister_room ≤ length output →
    Lines l.reader.splitter part (resumed l (length piece)).next l.reader.engine.graph t d.reader.splitter d.next d.reader.engine.graph t' (resumed l (length piece)).end output e d.end →
    {l' : Lister} {output' : List ℕ} → AfterLines d (length part) piece t'.status e l' output' → Lists l piece output t l' output' t'
by_piece l [] output t d e t' q room k f = lists_end l [] output t d e t' room refl k refl q refl f
by_piece l (b ∷ piece) output t d e t' q room k f = lists_piece l (b ∷ piece) output t d e t' room refl k q refl (omega arith) f

pub lists_by :
    (l : Lister) (piece output : List ℕ) (t : Tables) {l₁ : Lister} (d : Lister) (e : List ℕ) (t' : Tables) {part : List ℕ} → l₁ ≡ resumed l (length piece) → l₁.end + lister_room ≤ length output → part ≡ piece_or piece (last_newlines l₁.reader.splitter) →
    Lines l₁.reader.splitter part l₁.next l₁.reader.engine.graph t d.reader.splitter d.next d.reader.engine.graph t' l₁.end output e d.end →
    {l' : Lister} {output' : List ℕ} → AfterLines d (length part) piece t'.status e l' output' → Lists l piece output t l' output' t'
lists_by l piece output t d e t' r room p k f = by_piece l piece output t d e t' (rw r at p) (rw r at room) (rw r at k) f
