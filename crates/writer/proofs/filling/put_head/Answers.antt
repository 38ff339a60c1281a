-- `put_head` meets its contract.
-- Assumes nothing.
use Rattle.record.proofs.Putting.{puts_then}
use Rattle.writer.proofs.filling.put_head.Goals as goal

pub returns : goal.returns
returns c = puts_then (puts_then c.put_bytes.ensures c.put_number.ensures) c.put_bytes-2.ensures
