-- `clear_sources` clears the sources of the steps into v. The loop's invariant: those of the steps met are clear, and no other state's entry is marked.
-- Assumes nothing.
use Rattle.adjacency.specs.Adjacencies.{chains_of}
use Rattle.audit.proofs.Differing.{Clearing}
use Rattle.audit.proofs.distinct.KeyedSteps.clear_sources.Given as goal

abbrev pub invariant-loop-p : goal.invariant-loop-p
invariant-loop-p l =
    record {
      can_next : (goal.iterator-loop-p).can_next l.p-iterator;
      is_finite : (goal.iterator-loop-p).is_finite l.p-iterator;
      clearing : Clearing (chains_of l.self.arcs) l.v l.initial.seen l.seen l.p-iterator;
    }
