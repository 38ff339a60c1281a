-- `count_item` meets its contract.
-- Assumes nothing.
use mathlib.Core.Path.{sym, ◌∙◌, ap}
use native.Mathlib.Omega.{arith}
use Prim.Native.Nat.{ℕ}
use mathlib.Core.List.{List}
use lib.Seq.{length-take-le}
use Rattle.record.specs.Lines.{before}
use Rattle.record.specs.Grammar.{count_of}
use Rattle.record.specs.Parsing.{parsed}
use Rattle.record.proofs.Splitting.{a_count, no_count, before_length}
use Rattle.record.proofs.Heading.{before_front}
use Rattle.record.proofs.splitter.count_item.Goals as goal

pub slice_bounds-count_bytes-end : goal.slice_bounds-count_bytes-end
slice_bounds-count_bytes-end c = let s = c.args.rest.now in sym (length-take-le c.line_end-end.result s (omega (arith, c.line_end-end.ensures, before_length s)))

pub returns-in-Some : goal.returns-in-Some
returns-in-Some c = let s = c.args.rest.now in rw (a_count (count_of (before s)) (ap (λ (x : List ℕ). parsed (count_of x)) (sym (before_front s c.line_end-end.result c.line_end-end.ensures)) ∙ sym c.count_bytes.ensures ∙ c.in-Some.is))

pub returns-in-None : goal.returns-in-None
returns-in-None c = let s = c.args.rest.now in rw (no_count (count_of (before s)) (ap (λ (x : List ℕ). parsed (count_of x)) (sym (before_front s c.line_end-end.result c.line_end-end.ensures)) ∙ sym c.count_bytes.ensures ∙ c.in-None.is))
