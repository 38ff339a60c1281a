-- `offer_sources` offers the source of each step into x. The loop's invariant: each such step is still to be met, or its source has been offered.
-- Assumes nothing.
use Rattle.std.proofs.Common.{ℕ, Bool}
use Rattle.adjacency.specs.Adjacencies.{chains_of}
use Rattle.search.specs.Spreading.{Tells}
use Rattle.search.specs.Working.{SameWorklist}
use Rattle.search.proofs.Offering.{OfferWalk}
use Rattle.search.proofs.worklist.Worklist.offer_sources.Given as goal

abbrev pub invariant-loop-p : goal.invariant-loop-p
invariant-loop-p g l =
    record {
      can_next : (goal.iterator-loop-p g).can_next l.p-iterator;
      is_finite : (goal.iterator-loop-p g).is_finite l.p-iterator;
      same : SameWorklist l.initial.self l.self;
      offering : (ok : ℕ → ℕ → Bool) → Tells l.arcs.n (goal.F-post g l.allows) ok → OfferWalk (chains_of l.arcs) ok l.x l.initial.self.visited.now l.initial.self.queue.now l.initial.self.span l.self.visited.now l.self.queue.now l.self.span l.p-iterator;
    }
