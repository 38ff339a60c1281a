-- The loop's invariant: the lines of the steps passed were put.
-- Assumes nothing.
use Rattle.std.proofs.Common.{get_or, ◌≤◌, ◌+◌, ◌*◌}
use Rattle.record.specs.Putting.{Puts}
use Rattle.picture.specs.Picture.{steps_text}
use Rattle.picture.proofs.text.put_steps.Given as goal

abbrev pub invariant-loop-p : goal.invariant-loop-p
invariant-loop-p l =
    let s = l.shown in
    record {
      puts : Puts (steps_text l.p (λ i. get_or s.from.now i 0) (λ i. get_or s.to.now i 0) (λ i. get_or s.key.now i 0) (λ i. get_or s.successor.now i 65535)) l.initial.text l.text;
      within : l.text.end ≤ l.initial.text.end + 48 * l.p;
    }
