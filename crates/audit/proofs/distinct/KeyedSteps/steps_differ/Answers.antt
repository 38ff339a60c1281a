-- `steps_differ` takes the low keys, then the high ones.
-- Assumes nothing.
use Rattle.audit.proofs.Chaining.{filled_front, emptied}
use Rattle.audit.proofs.Differing.{both_differ}
use Rattle.audit.proofs.distinct.KeyedSteps.steps_differ.Goals as goal

pub returns-then-range_differs : goal.returns-then-range_differs
returns-then-range_differs c =
    let long = c.requires in
    both_differ (emptied long (filled_front c.args.self.arcs.n 0 c.args.seen.now long (c.fill.ensures.after (λ y h. h)))) c.range_differs.ensures c.if-range_differs.true c.range_differs-then-range_differs.ensures
