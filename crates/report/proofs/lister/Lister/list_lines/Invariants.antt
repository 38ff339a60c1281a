-- `list_lines` lists line after line. The invariant: the tables and the buffer are still the lenders', and what was put is the text of the lines passed. The measure is what is left of the part.
-- Assumes nothing.
use Prim.Native.Nat.{◌-◌}
use mathlib.Core.Path.{◌≡◌}
use lib.ListN.{length}
use Rattle.tables.specs.Lending.{contents, StillLent}
use Rattle.report.proofs.Lining.{Lining}
use Rattle.report.proofs.lister.Lister.list_lines.Given as goal

abbrev pub invariant-loop-self : goal.invariant-loop-self
invariant-loop-self l =
    record {
      still_lent : StillLent l.initial.tables l.tables;
      same : l.text.buf.ghost_name ≡ l.initial.text.buf.ghost_name;
      lining : Lining l.part l.initial.self.next l.initial.self.reader (contents l.initial.tables) l.self.reader (contents l.tables) l.self.next l.initial.text.end l.initial.text.buf.now l.text.buf.now l.text.end;
    }

abbrev pub decreases-loop-self : goal.decreases-loop-self
decreases-loop-self l = length l.part - l.self.next
