-- `apply` makes a line's update, if it is one, and else answers by the rule that the line breaks.
-- Assumes nothing.
use mathlib.Core.Path.{refl}
use Rattle.reader.proofs.Following.{came_sent}
use Rattle.reader.proofs.Reader.apply.Goals as goal

pub returns-in-Update-clause-came : goal.returns-in-Update-clause-came
returns-in-Update-clause-came c = rw c.in-Update.is (came_sent c.update-updated.ensures.promise refl)
