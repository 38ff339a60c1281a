-- `rescue` leaves no visited source of a released node. The invariant: so for the first nodes of the queue. The measure is what is left up to n, which the queue never passes.
-- Assumes nothing.
use mathlib.Core.Path.{sym}
use Rattle.std.proofs.Common.{rules}
use Rattle.search.proofs.Releasing.{saving_more}
use Rattle.search.proofs.worklist.Worklist.rescue.Goals as goal

pub loop-at-preserved : goal.loop-at-preserved
loop-at-preserved c =
    let i = c.loop-at.invariant in
    let e = c.rescue_sources.ensures in
    record {
      same = search rules;
      bounds = search rules;
      saving = saving_more i.saving c.loop-at-test.true (sym c.from-x.ensures) e.releases e.no_source;
    }
