-- `way_out` answers a step that leads out, or none does. The invariant: none that the walk has passed.
-- Assumes nothing.
use mathlib.Core.Path.{◌≡◌}
use mathlib.Core.Bool.{false}
use lib.ListN.{get_or}
use Rattle.search.specs.Releasing.{outside}
use Rattle.search.proofs.Walking.{Walking}
use Rattle.search.proofs.worklist.Worklist.way_out.Given as goal

abbrev pub invariant-loop-p : goal.invariant-loop-p
invariant-loop-p l =
    record {
      can_next : (goal.iterator-loop-p).can_next l.p-iterator;
      is_finite : (goal.iterator-loop-p).is_finite l.p-iterator;
      walk : Walking l.out.head.now l.out.next.now l.out.steps l.x (λ i. outside l.out.n l.status l.self.visited.now (get_or l.out.ends.now i 0) ≡ false) l.p-iterator;
    }
