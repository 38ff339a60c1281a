-- `put_head` meets its contract: its four texts one behind another.
-- Assumes nothing.
use Rattle.record.proofs.Putting.{puts_then}
use Rattle.record.proofs.text.TextBuffer.put_head.Goals as goal

pub returns : goal.returns
returns c = puts_then (puts_then (puts_then c.put_byte.ensures c.put_byte-2.ensures) c.put_number.ensures) c.put_byte-3.ensures
