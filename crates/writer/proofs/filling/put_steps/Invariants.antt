-- The loop's invariant: the lines of the steps passed were put.
-- Assumes nothing.
use Rattle.record.specs.Putting.{Puts}
use Rattle.writer.specs.Order.{step_lines, bytes_of}
use Rattle.writer.proofs.filling.put_steps.Given as goal

abbrev pub invariant-loop-p : goal.invariant-loop-p
invariant-loop-p l = Puts (bytes_of (step_lines l.p l.source.from.now l.source.to.now l.source.key.now)) l.initial.text l.text
