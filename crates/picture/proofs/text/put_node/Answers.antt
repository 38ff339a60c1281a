-- `put_node` meets its contract.
-- Assumes nothing.
use mathlib.Core.Path.{◌≡◌, refl}
use mathlib.Core.Bool.{cond}
use Rattle.record.proofs.Putting.{puts_then}
use Rattle.picture.specs.Picture.{double_end, single_end}
use Rattle.picture.proofs.text.put_node.Goals as goal
use Rattle.picture.proofs.text.put_node.Goals.{Joined-terminal, then-terminal, else-terminal}

-- What stands behind the look.
end_is : (c : Joined-terminal) → c.if-terminal.end.now ≡ cond c.args.terminal double_end single_end
end_is c =
    elim c.if-terminal.branch [
      | then-terminal w ↦ rw (w.if-terminal.true, w.end-is) refl
      | else-terminal w ↦ rw (w.if-terminal.false, w.end-is) refl
    ]

pub returns : goal.returns
returns c = puts_then c.put_line.ensures (rw (end_is (goal.at.returns c).Joined-terminal) at c.put_bytes.ensures)
