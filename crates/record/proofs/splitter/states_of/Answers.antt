-- `states_of` meets its contract.
-- Assumes nothing.
use Rattle.std.proofs.Common.{◌≡◌, ℕ, ◌+◌, ◌-◌, Bool, not, List, length, take, drop, eqb, refl, sym, ◌∙◌, arith, length-drop, length-take-le}
use Rattle.std.specs.Cmp.Lexicographic.{pointwise}
use Rattle.record.specs.Lines.{before}
use Rattle.record.specs.Items.{same}
use Rattle.record.proofs.Sameness.{same_bytes}
use Rattle.record.proofs.Splitting.{before_length}
use Rattle.record.proofs.Heading.{before_front, no_states, missing_count, has_count}
use Rattle.record.proofs.splitter.states_of.Goals as goal
use mathlib.Core.Bool.{not-not}
use lib.Seq.{take_all}

-- what the test of the first line says
tested : (s t : List ℕ) (n : ℕ) {b : Bool} → n ≡ length (before s) → b ≡ not (pointwise eqb (take n s) t) → same (before s) t ≡ not b
tested s t n p q = rw (← before_front s n p, ← same_bytes (take n s) t, q, not-not) refl

pub slice_bounds-ne-end : goal.slice_bounds-ne-end
slice_bounds-ne-end c = let s = c.args.bytes.now in sym (length-take-le c.line_end-end.result s (omega (arith, c.line_end-end.ensures, before_length s)))

pub returns-then-ne : goal.returns-then-ne
returns-then-ne c =
    let s = c.args.bytes.now in
    no_states s (rw c.as_slice.ensures at (tested s _ _ c.line_end-end.ensures c.if-ne.ensures))

pub returns-then-end-bytes : goal.returns-then-end-bytes
returns-then-end-bytes c =
    let s = c.args.bytes.now in
    let end = c.line_end-end.result in
    let rest = drop (end + 1) s in
    let all_rest : take (length s - (end + 1)) rest ≡ rest = take_all (length s - (end + 1)) rest (omega (arith, length-drop (end + 1) s)) in
    c.count_item.ensures ∙ rw all_rest (rw c.line_end-end.ensures (has_count s (rw c.as_slice.ensures at (tested s _ _ c.line_end-end.ensures c.if-ne.ensures)) (omega arith)))

pub returns-else-end-bytes : goal.returns-else-end-bytes
returns-else-end-bytes c =
    let s = c.args.bytes.now in
    missing_count s (rw c.as_slice.ensures at (tested s _ _ c.line_end-end.ensures c.if-ne.ensures)) (omega arith)
