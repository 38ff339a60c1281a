-- `put_mark` meets its contract.
-- Assumes nothing.
use mathlib.Core.List.{[], ◌∷◌, ◌++◌}
use Rattle.std.proofs.Common.{append_assoc}
use Rattle.record.specs.Text.{head}
use Rattle.record.proofs.Putting.{puts_then}
use Rattle.record.proofs.text.TextBuffer.put_mark.Goals as goal

pub returns : goal.returns
returns c =
    let t = head c.args.kind c.args.state in
    rw (append_assoc (t ++ (45 ∷ [])) (32 ∷ 45 ∷ []) (10 ∷ []), append_assoc t (45 ∷ []) (32 ∷ 45 ∷ 10 ∷ [])) (puts_then c.put_head.ensures c.put_bytes.ensures)
