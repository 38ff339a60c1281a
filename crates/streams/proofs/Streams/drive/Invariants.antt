-- `drive` goes on turn by turn. The invariant: the tables are still those that were lent, and some bytes have been read and written.
-- Assumes nothing.
use Rattle.tables.specs.Lending.{contents, StillLent}
use Rattle.streams.proofs.Driving.{Turns}
use Rattle.streams.proofs.Streams.drive.Given as goal

abbrev pub invariant-loop : goal.invariant-loop
invariant-loop g l =
    record {
      still_lent : StillLent l.initial.tables l.tables;
      turns : Turns g.D.Drive.stands l.work l.count l.input l.output (contents l.tables);
    }
