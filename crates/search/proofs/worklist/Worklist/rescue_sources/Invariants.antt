-- `rescue_sources` leaves x no visited source. The invariant: so for the steps that the walk has passed.
-- Assumes nothing.
use Rattle.adjacency.specs.Adjacencies.{chains_of}
use Rattle.search.specs.Working.{SameWorklist, SameBounds}
use Rattle.search.proofs.Releasing.{Pulling}
use Rattle.search.proofs.worklist.Worklist.rescue_sources.Given as goal

abbrev pub invariant-loop-p : goal.invariant-loop-p
invariant-loop-p l =
    record {
      can_next : (goal.iterator-loop-p).can_next l.p-iterator;
      is_finite : (goal.iterator-loop-p).is_finite l.p-iterator;
      same : SameWorklist l.initial.self l.self;
      bounds : SameBounds l.initial.self.span l.self.span;
      pulling : Pulling (chains_of l.arcs) l.x l.initial.self.visited.now l.initial.successor l.initial.self.queue.now l.self.visited.now l.successor l.self.queue.now l.initial.self.span.len l.self.span.len l.p-iterator;
    }
