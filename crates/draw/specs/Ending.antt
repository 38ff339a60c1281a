-- How the drawing program ends.
-- Assumes nothing.
use Rattle.std.specs.Prelude.{◌≡◌, true, List, ℕ}
use Rattle.tables.specs.Tables.{Tables}
use Rattle.reader.specs.declared.task.Task.TheVariants.{End}
use Rattle.picture.specs.Progress.{DrawingBegun}
use Rattle.draw.specs.declared.DrawingEnd.{DrawingEnd}

-- The calls followed one another as they ask for, so that the output holds the picture at the end; and the program is over only where the library says that it is.
pub record EndsDrawing (r : DrawingEnd) (output : List ℕ) (t : Tables) : Type 0 where
  pub over : r.over ≡ true → r.drawer.task ≡ End
  pub progress : DrawingBegun r.drawer output t
