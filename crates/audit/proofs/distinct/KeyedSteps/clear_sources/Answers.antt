-- `clear_sources` clears the sources of the steps into v.
-- Assumes nothing.
use Rattle.audit.proofs.Differing.{clearing_next}
use Rattle.audit.proofs.distinct.KeyedSteps.clear_sources.Goals as goal

pub loop-p-preserved : goal.loop-p-preserved
loop-p-preserved c = record { can_next = tt; is_finite = tt; clearing = clearing_next c.loop-p.invariant.clearing c.in-Some.p c.in-Some.ensures.steps c.args.self.ends_below c.requires.seen_in_bounds c.from.ensures }
