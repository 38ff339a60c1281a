-- `escape_within` answers a step out of u. The invariant: the walk stands at a step out of u.
-- Assumes nothing.
use mathlib.Core.Path.{sym}
use Rattle.search.proofs.Walking.{walk_here, walk_next}
use Rattle.search.proofs.near.Successors.escape_within.Goals as goal

pub returns-then-meets_open : goal.returns-then-meets_open
returns-then-meets_open c = (c.from.result, (walk_here c.loop-p.invariant.walk c.in-Some.p c.in-Some.ensures.steps, sym c.from.ensures), c.meets_open.ensures c.if-meets_open.true)

pub loop-p-preserved : goal.loop-p-preserved
loop-p-preserved c = record { can_next = tt; is_finite = tt; walk = walk_next c.loop-p.invariant.walk c.in-Some.p c.in-Some.ensures.steps tt }
