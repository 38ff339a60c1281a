-- The invariant: the tables are still those that were lent, and the rounds so far met no refusal.
-- Assumes nothing.
use Rattle.tables.specs.Lending.{contents, StillLent}
use Rattle.query.proofs.Rounds.{Asked}
use Rattle.query.proofs.status_after.Given as goal

abbrev pub invariant-loop-round : goal.invariant-loop-round
invariant-loop-round l =
    record {
      still_lent : StillLent l.initial.tables l.tables;
      asked : Asked l.bytes l.initial.reader.splitter l.initial.reader.engine.graph (contents l.initial.tables) l.round l.part l.reader.splitter l.reader.engine.graph (contents l.tables);
    }
