-- `nexts_fit` answers yes exactly where each next entry is right. The loop's invariant: those below p are, and the table holds the last step met at each state.
-- Assumes nothing.
use Rattle.audit.proofs.Chaining.{Chaining}
use Rattle.audit.proofs.lists.nexts_fit.Given as goal

abbrev pub invariant-loop-p : goal.invariant-loop-p
invariant-loop-p l = Chaining l.arcs.n l.arcs.steps l.ends l.arcs.next.now l.initial.last l.last l.p
