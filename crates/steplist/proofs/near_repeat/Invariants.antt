-- `near_repeat` answers yes only where an equal step is listed. The loop's invariant: the walk stands at a listed step or at its end.
-- Assumes nothing.
use Rattle.std.proofs.Common.{◌≤◌}
use Rattle.steplist.proofs.near_repeat.Given as goal

abbrev pub invariant-loop : goal.invariant-loop
invariant-loop l = l.walk.at ≤ l.steps.len
