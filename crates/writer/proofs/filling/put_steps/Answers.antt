-- `put_steps` meets its contract.
-- Assumes nothing.
use Rattle.writer.proofs.Bytes.{bytes_one, order_more}
use Rattle.writer.specs.Order.{step_at}
use Rattle.record.proofs.Putting.{puts_then}
use mathlib.Core.Bool.{true}
use Rattle.writer.proofs.filling.put_steps.Goals as goal

pub loop-p-preserved : goal.loop-p-preserved
loop-p-preserved c =
    let s = c.args.source in
    let line = rw c.step.ensures.right at c.put_line.ensures in
    rw (order_more (λ p. true) (step_at s.from.now s.to.now s.key.now) c.loop-p.p, bytes_one) (puts_then c.loop-p.invariant line)
