-- `rescue_sources` leaves x no visited source. The invariant: so for the steps that the walk has passed.
-- Assumes nothing.
use mathlib.Core.Path.{◌∙◌}
use Rattle.std.proofs.Common.{rules}
use Rattle.search.proofs.Releasing.{pulling_more, pulling_end}
use Rattle.search.proofs.worklist.Worklist.rescue_sources.Goals as goal

pub loop-p-preserved : goal.loop-p-preserved
loop-p-preserved c =
    let w = c.args.self.now in
    let r = c.requires in
    let i = c.loop-p.invariant in
    let e = c.rescue_source.ensures in
    record {
      can_next = tt;
      is_finite = tt;
      same = search rules;
      bounds = search rules;
      pulling = pulling_more i.pulling r.queued (rw (← r.same_nodes) w.visited_in_bounds) r.successor_in_bounds (rw (← r.same_nodes) w.queue_in_bounds) c.in-Some.p c.in-Some.ensures.steps (rw (c.from.ensures, i.same.n ∙ r.same_nodes) at e.pulled);
    }

pub returns-clause-no_source : goal.returns-clause-no_source
returns-clause-no_source c = pulling_end c.loop-p.invariant.pulling c.in-None.ensures.steps
