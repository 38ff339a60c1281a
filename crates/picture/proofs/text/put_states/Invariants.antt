-- The loop's invariant: the lines of the states passed were put.
-- Assumes nothing.
use lib.ListN.{get_or}
use Rattle.tables.specs.Marks.{has_terminal}
use Rattle.record.specs.Putting.{Puts}
use Rattle.picture.specs.Picture.{states_text}
use Rattle.picture.proofs.text.put_states.Given as goal

abbrev pub invariant-loop-s : goal.invariant-loop-s
invariant-loop-s l = Puts (states_text l.s (λ i. get_or l.shown.status.now i 0) (λ i. has_terminal (get_or l.shown.marks.now i 0))) l.initial.text l.text
