-- `put_picture` meets its contract.
-- Assumes nothing.
use Rattle.record.proofs.Putting.{puts_then}
use Rattle.picture.specs.Picture.{drawing}
use Rattle.picture.proofs.text.put_picture.Goals as goal

pub returns : goal.returns
unfolding drawing
returns c = puts_then (puts_then (puts_then c.put_bytes.ensures c.put_states.ensures) c.put_steps.ensures.puts) c.put_bytes-2.ensures
