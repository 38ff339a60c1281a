-- A step of a listing keeps where it stands.
-- Assumes nothing.
use Rattle.report.proofs.Session.{progress_read, progress_written}
use Rattle.report.proofs.lister.ListerDrive.go_on.Goals as goal

pub returns-clause-read : goal.returns-clause-read
returns-clause-read c = λ got put before e p. progress_read p e c.list.ensures.lists

pub returns-clause-written : goal.returns-clause-written
returns-clause-written c = λ got put e p. progress_written p e c.list.ensures.lists
