-- `draw_input` begins a drawing, and goes on with it to its end.
-- Assumes nothing.
use Rattle.picture.proofs.Session.{progress_begun}
use Rattle.draw.proofs.draw_input.Goals as goal

pub drive-over-requires : goal.drive-over-requires
drive-over-requires g c = record { room = c.requires.room; progress = progress_begun c.begin-drawer.ensures.begins c.requires.opens }
