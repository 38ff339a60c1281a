-- `escape_within` answers a step out of u. The invariant: the walk stands at a step out of u.
-- Assumes nothing.
use Rattle.search.proofs.Walking.{Walking}
use Rattle.search.proofs.near.Successors.escape_within.Given as goal

abbrev pub invariant-loop-p : goal.invariant-loop-p
invariant-loop-p l =
    record {
      can_next : (goal.iterator-loop-p).can_next l.p-iterator;
      is_finite : (goal.iterator-loop-p).is_finite l.p-iterator;
      walk : Walking l.self.out.head.now l.self.out.next.now l.self.out.steps l.u (λ _. Unit {0}) l.p-iterator;
    }
