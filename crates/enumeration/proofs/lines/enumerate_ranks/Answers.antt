-- `enumerate_ranks` meets its contract.
-- Assumes nothing.
use mathlib.Core.Path.{sym, ◌∙◌}
use native.Mathlib.Omega.{arith}
use Rattle.enumeration.proofs.Progress.{ranks_few, lists_none, lists_legal, lists_passed}
use Rattle.enumeration.proofs.lines.enumerate_ranks.Goals as goal
use Rattle.enumeration.proofs.lines.enumerate_ranks.Goals.{then-is_legal, else-is_legal}

pub loop-rank-init : goal.loop-rank-init
loop-rank-init c = lists_none c.args.lines.now (omega (arith, c.requires))

pub overflow_add-count : goal.overflow_add-count
overflow_add-count c = omega (arith, c.loop-rank.invariant.counted, ranks_few c.loop-rank.rank)

pub loop-rank-preserved : goal.loop-rank-preserved
loop-rank-preserved c =
    let v = c.loop-rank.invariant in
    elim c.if-is_legal.branch [
      | then-is_legal w ↦ rw (w.lines-is, w.count-is) (lists_legal c.loop-rank.rank v (sym c.is_legal.ensures ∙ w.if-is_legal.true) w.put_history.ensures.puts w.put_history.ensures.within)
      | else-is_legal w ↦ rw (w.lines-is, w.count-is) (lists_passed c.loop-rank.rank v (sym c.is_legal.ensures ∙ w.if-is_legal.false))
    ]
