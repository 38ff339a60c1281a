-- `offer_sources` offers the source of each step into x. The loop's invariant: each such step is still to be met, or its source has been offered.
-- Assumes nothing.
use mathlib.Core.Path.{◌∙◌}
use native.Mathlib.Omega.{arith}
use Rattle.search.proofs.Offering.{offer_next, offer_last}
use Rattle.std.proofs.Common.{rules}
use Rattle.search.proofs.worklist.Worklist.offer_sources.Goals as goal

pub loop-p-preserved : goal.loop-p-preserved
loop-p-preserved g c =
    let w = c.args.self.now in
    let s = c.loop-p.invariant.same in
    let n = c.requires.same_nodes in
    let m = s.n ∙ n in
    let e = c.offer.ensures in
    record {
      can_next = tt;
      is_finite = tt;
      same = search rules;
      offering = λ ok t. offer_next c.in-Some.p (c.loop-p.invariant.offering ok t) c.in-Some.ensures.steps (rw n at w.visited_in_bounds) (rw n at w.queue_in_bounds) (rw (m, c.from.ensures) at (e.offered ok (λ y p r h k. t y p r (omega (arith, m)) k)));
    }

pub returns-clause-offers : goal.returns-clause-offers
returns-clause-offers g c = λ ok t. (c.loop-p.invariant.offering ok t).offers

pub returns-clause-sources_visited : goal.returns-clause-sources_visited
returns-clause-sources_visited g c = λ ok t. offer_last (c.loop-p.invariant.offering ok t) c.in-None.ensures.steps
