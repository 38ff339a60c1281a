-- How a drawing stands that a program drives.
-- Assumes nothing.
use Rattle.std.specs.Prelude.{List, ℕ, ◌≤◌, length}
use Rattle.tables.specs.Tables.{Tables}
use Rattle.picture.specs.declared.drawer.Drawer.{Drawer}
use Rattle.picture.specs.Picture.{picture_room}
use Rattle.picture.specs.Progress.{DrawingProgress}

-- The output has room for the picture, and the drawing has its progress.
pub record DrawingStands (got : List ℕ) (d : Drawer) (piece output : List ℕ) (t : Tables) : Type 0 where
  pub room : picture_room ≤ length output
  pub progress : DrawingProgress got d piece output t
