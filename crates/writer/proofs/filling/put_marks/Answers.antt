-- `put_marks` meets its contract.
-- Assumes nothing.
use Rattle.writer.proofs.Bytes.{order_more}
use Rattle.writer.specs.Order.{marking, is_marked}
use Rattle.record.proofs.Putting.{puts_then}
use Rattle.writer.proofs.filling.put_marks.Goals as goal

pub loop-state-preserved : goal.loop-state-preserved
loop-state-preserved c =
    let a = c.args in
    rw (order_more (is_marked a.mark a.marks.now) (marking a.mark) c.loop-state.state) (puts_then c.loop-state.invariant c.put_marked.ensures)
