-- `advance` reads line after line. The invariant: the tables are still those that were lent, the lines passed are the next of the record, and none is waited for. The measure is what is left of the part.
-- Assumes nothing.
use Prim.Native.Nat.{◌-◌}
use lib.ListN.{length}
use Rattle.tables.specs.Lending.{contents, StillLent}
use Rattle.reader.proofs.Going.{Going}
use Rattle.reader.proofs.Reader.advance.Given as goal

abbrev pub invariant-loop-next : goal.invariant-loop-next
invariant-loop-next l =
    record {
      still_lent : StillLent l.initial.tables l.tables;
      going : Going l.until l.part l.at l.initial.self (contents l.initial.tables) l.self (contents l.tables) l.next;
    }

abbrev pub decreases-loop-next : goal.decreases-loop-next
decreases-loop-next l = length l.part - l.next
