-- `range_differs` takes one state after the other. The loop's invariant: the steps into those below v differ, and nothing is left noted.
-- Assumes nothing.
use Rattle.adjacency.specs.Adjacencies.{chains_of}
use Rattle.search.specs.Spreading.{into}
use Rattle.audit.specs.Parts.{Apart}
use Rattle.audit.proofs.Differing.{Comparing}
use Rattle.audit.proofs.distinct.KeyedSteps.range_differs.Given as goal

abbrev pub invariant-loop-v : goal.invariant-loop-v
invariant-loop-v l = Comparing l.self.arcs.n (Apart l.base (into (chains_of l.self.arcs)) l.self.key.now) l.initial.seen l.seen l.v
