-- `list_lines` lists line after line.
-- Assumes nothing.
use Prim.Native.Nat.{◌-◌, ◌≤◌, ◌<◌}
use mathlib.Core.Path.{refl}
use mathlib.Core.Logic.{◌⊎◌, inl, inr}
use native.Mathlib.Omega.{arith}
use lib.ListN.{length}
use Rattle.std.proofs.Common.{rules}
use Rattle.record.proofs.Placing.{placed_none}
use Rattle.report.specs.Printing.{line_room}
use Rattle.report.proofs.Lining.{lining_none, lining_more, lining_lines}
use Rattle.report.proofs.lister.Lister.list_lines.Goals as goal
use Rattle.report.proofs.lister.Lister.list_lines.Goals.{then-loop-self-test+else-text-ge-LINE_ROOM, else-loop-self-test}

pub loop-self-init : goal.loop-self-init
loop-self-init c = record { still_lent = search rules; same = refl; lining = lining_none c.args.part.now c.args.self.now.next c.args.self.now.reader _ c.args.self.now.end c.args.buf.now c.requires.index c.requires.at }

pub loop-self-preserved-in-Some : goal.loop-self-preserved-in-Some
loop-self-preserved-in-Some c =
    let a = c.advance-turn.ensures in
    let put = c.put_answer.ensures.puts in
    record {
      still_lent = search rules;
      same = search rules;
      lining = lining_more c.loop-self.invariant.lining c.loop-self-test.true c.if-text-ge-LINE_ROOM.true a.within a.onward a.advances (rw c.in-Some.is put.wrote) c.put_answer.ensures.within;
    }

pub loop-self-preserved : goal.loop-self-preserved
loop-self-preserved c =
    let a = c.advance-turn.ensures in
    record {
      still_lent = search rules;
      same = c.loop-self.invariant.same;
      lining = lining_more c.loop-self.invariant.lining c.loop-self-test.true c.if-text-ge-LINE_ROOM.true a.within a.onward a.advances (rw c.in_default.is (placed_none _ _)) (omega arith);
    }

pub returns-clause-lines : goal.returns-clause-lines
returns-clause-lines c =
    let over : (length c.args.part.now ≤ c.loop-self.self.next) ⊎ (length c.loop-self.text.buf.now - c.loop-self.text.end < line_room) =
    elim c.loop-self-test.branch [
      | then-loop-self-test+else-text-ge-LINE_ROOM w ↦ inr w.if-text-ge-LINE_ROOM.false
      | else-loop-self-test w ↦ inl w.loop-self-test.false
    ] in
    let same = c.loop-self.invariant.same in
    lining_lines c.loop-self.invariant.lining (search rules) over
