-- `nexts_fit` answers yes exactly where each next entry is right.
-- Assumes nothing.
use Rattle.audit.proofs.Chaining.{chaining_first, chaining_next}
use Rattle.audit.proofs.lists.nexts_fit.Goals as goal

pub loop-p-init : goal.loop-p-init
loop-p-init c = chaining_first c.requires.blank

pub loop-p-preserved : goal.loop-p-preserved
loop-p-preserved c = chaining_next c.loop-p.invariant c.loop-p-test.true c.from-v.ensures (c.requires.ends_below c.loop-p.p c.loop-p-test.true) c.requires.last_in_bounds c.if-arcs-p.false
