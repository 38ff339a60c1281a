-- `put_step` meets its contract.
-- Assumes nothing.
use mathlib.Core.Path.{◌≡◌, refl}
use mathlib.Core.Bool.{cond}
use Rattle.record.proofs.Putting.{puts_then}
use Rattle.picture.specs.Picture.{bold_end, plain_end}
use Rattle.picture.proofs.text.put_step.Goals as goal
use Rattle.picture.proofs.text.put_step.Goals.{Joined-bold, then-bold, else-bold}

-- What stands behind the key.
style_is : (c : Joined-bold) → c.if-bold.style.now ≡ cond c.args.bold bold_end plain_end
style_is c =
    elim c.if-bold.branch [
      | then-bold w ↦ rw (w.if-bold.true, w.style-is) refl
      | else-bold w ↦ rw (w.if-bold.false, w.style-is) refl
    ]

pub returns : goal.returns
returns c = puts_then (puts_then c.put_line.ensures c.put_number.ensures) (rw (style_is (goal.at.returns c).Joined-bold) at c.put_bytes.ensures)
