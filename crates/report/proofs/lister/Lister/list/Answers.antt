-- `list` lists lines behind the text in the output, where there is room, and what is to be done then.
-- Assumes nothing.
use native.Mathlib.Omega.{arith}
use Rattle.tables.specs.Lending.{contents}
use Rattle.report.proofs.Tasks.{lists_by}
use Rattle.report.proofs.lister.Lister.list.Goals as goal

pub returns-clause-lists : goal.returns-clause-lists
returns-clause-lists c =
    let a = c.args in
    lists_by a.self.now a.piece.now a.output.now (contents a.tables.now) c.list_lines.new.self c.list_lines.new.buf _ c.resume.ensures (omega (arith, c.if-saturating_sub-lt-LISTER_ROOM.false, c.saturating_sub.ensures)) c.part_of-part.ensures c.list_lines.ensures.lines c.finish.ensures
