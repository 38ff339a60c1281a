-- `near_repeat` answers yes only where an equal step is listed. The loop's invariant: the walk stands at a listed step or at its end.
-- Assumes nothing.
use Rattle.std.proofs.Common.{◌<◌, sym, ◌∙◌, arith}
use Rattle.tables.specs.Listing.{is_equal_at}
use Rattle.steplist.proofs.Places.{found_by}
use Rattle.steplist.proofs.near_repeat.Goals as goal

pub returns-then-is_equal_at : goal.returns-then-is_equal_at
returns-then-is_equal_at c =
    let s = c.args.steps in
    let h : c.in-Some.p < s.len = omega (arith, c.in-Some.ensures.steps) in
    λ _. found_by (is_equal_at s.from.now s.to.now s.key.now c.args.edge) s.len c.in-Some.p h (sym c.is_equal_at.ensures ∙ c.if-is_equal_at.true)
