-- The loop's invariant: the lines of the states passed were put.
-- Assumes nothing.
use Rattle.record.specs.Putting.{Puts}
use Rattle.writer.specs.Order.{marked_lines, bytes_of}
use Rattle.writer.proofs.filling.put_marks.Given as goal

abbrev pub invariant-loop-state : goal.invariant-loop-state
invariant-loop-state l = Puts (bytes_of (marked_lines l.mark l.state l.marks)) l.initial.text l.text
