-- `settle` settles the visited nodes of the span. The loop's invariant: the nodes below s have been seen. The measure is how many are left.
-- Assumes nothing.
use mathlib.Core.Path.{◌≡◌}
use Prim.Native.Nat.{◌+◌, ◌-◌}
use Rattle.search.proofs.Settling.{Settling}
use Rattle.search.proofs.settle.settle.Given as goal

abbrev pub invariant-loop-s : goal.invariant-loop-s
invariant-loop-s l =
    record {
      same : l.told.list.ghost_name ≡ l.initial.told.list.ghost_name;
      settling : Settling l.initial.s l.span.high l.verdict l.initial.status l.initial.successor l.initial.told.list.now l.initial.visited l.status l.successor l.told.list.now l.visited l.s l.told.count;
    }

abbrev pub decreases-loop-s : goal.decreases-loop-s
decreases-loop-s l = l.span.high + 1 - l.s
