-- `note_sources` notes the steps into v. The loop's invariant: exactly those met are noted, and no two of them are alike.
-- Assumes nothing.
use Rattle.adjacency.specs.Adjacencies.{chains_of}
use Rattle.audit.proofs.Differing.{Noting}
use Rattle.audit.proofs.distinct.KeyedSteps.note_sources.Given as goal

abbrev pub invariant-loop-p : goal.invariant-loop-p
invariant-loop-p l =
    record {
      can_next : (goal.iterator-loop-p).can_next l.p-iterator;
      is_finite : (goal.iterator-loop-p).is_finite l.p-iterator;
      noting : Noting l.base (chains_of l.self.arcs) l.self.key.now l.v l.initial.seen l.seen l.p-iterator;
    }
