-- A step of a drawing keeps where it stands. That nothing is to be written before the end the check finds.
-- Assumes nothing.
use Rattle.std.proofs.Common.{arith}
use Rattle.picture.proofs.Session.{progress_read}
use Rattle.picture.proofs.Tasks.{draws_within}
use Rattle.picture.proofs.drawer.DrawerDrive.go_on.Goals as goal

pub returns-clause-read : goal.returns-clause-read
returns-clause-read c = λ got put before e s. record { room = omega (arith, draws_within c.draw.ensures.draws, s.room); progress = progress_read s.progress e s.room c.draw.ensures.draws }
