-- `spread` visits exactly the reached nodes. The loop's invariant: the sources of the nodes in front of `at` in the queue have been offered. The measure is what is left of n.
-- Assumes nothing.
use Rattle.std.proofs.Common.{ℕ, Bool, ◌-◌}
use Rattle.adjacency.specs.Adjacencies.{chains_of}
use Rattle.search.specs.Spreading.{into, Tells}
use Rattle.search.specs.Working.{SameWorklist}
use Rattle.search.proofs.Spreading.{Rounds}
use Rattle.search.proofs.worklist.Worklist.spread.Given as goal

abbrev pub invariant-loop-at : goal.invariant-loop-at
invariant-loop-at g l =
    record {
      same : SameWorklist l.initial.self l.self;
      rounds : (ok : ℕ → ℕ → Bool) → Tells l.arcs.n (goal.F-post g l.allows) ok → Rounds l.arcs.n (into (chains_of l.arcs)) ok l.initial.self.visited.now l.initial.self.queue.now l.initial.self.span l.self.visited.now l.self.queue.now l.self.span l.at;
    }

abbrev pub decreases-loop-at : goal.decreases-loop-at
decreases-loop-at g l = l.arcs.n - l.at
