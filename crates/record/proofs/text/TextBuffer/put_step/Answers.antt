-- `put_step` meets its contract.
-- Assumes nothing.
use mathlib.Core.List.{[], ◌∷◌, ◌++◌}
use Rattle.std.proofs.Common.{append_assoc}
use Rattle.record.specs.Text.{decimal, head}
use Rattle.record.proofs.Putting.{puts_then}
use Rattle.record.proofs.text.TextBuffer.put_step.Goals as goal

pub returns : goal.returns
returns c =
    let e = c.args.edge in
    let t = head 69 e.from ++ decimal e.to in
    let w = puts_then (puts_then (puts_then c.put_head.ensures c.put_number.ensures) c.put_byte.ensures) c.put_number-2.ensures in
    puts_then (rw (append_assoc t (32 ∷ []) (decimal e.key)) at w) c.put_byte-2.ensures
