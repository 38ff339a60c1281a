-- `rescue` leaves no visited source of a released node. The invariant: so for the first nodes of the queue. The measure is what is left up to n, which the queue never passes.
-- Assumes nothing.
use Prim.Native.Nat.{◌-◌}
use Rattle.adjacency.specs.Adjacencies.{chains_of}
use Rattle.search.specs.Spreading.{into}
use Rattle.search.specs.Working.{SameWorklist, SameBounds}
use Rattle.search.proofs.Releasing.{Saving}
use Rattle.search.proofs.worklist.Worklist.rescue.Given as goal

abbrev pub invariant-loop-at : goal.invariant-loop-at
invariant-loop-at l =
    record {
      same : SameWorklist l.initial.self l.self;
      bounds : SameBounds l.initial.self.span l.self.span;
      saving : Saving l.arcs.n (into (chains_of l.arcs)) l.initial.self.visited.now l.initial.successor l.initial.self.queue.now l.self.visited.now l.successor l.self.queue.now l.initial.self.span.len l.self.span.len l.at;
    }

abbrev pub decreases-loop-at : goal.decreases-loop-at
decreases-loop-at l = l.arcs.n - l.at
