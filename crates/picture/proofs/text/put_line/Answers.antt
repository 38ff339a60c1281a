-- `put_line` meets its contract.
-- Assumes nothing.
use Rattle.record.proofs.Putting.{puts_then}
use Rattle.picture.specs.Picture.{line}
use Rattle.picture.proofs.text.put_line.Goals as goal

pub returns : goal.returns
unfolding line
returns c = puts_then (puts_then (puts_then (puts_then c.put_bytes.ensures c.put_number.ensures) c.put_bytes-2.ensures) c.put_number-2.ensures) c.put_bytes-3.ensures
