-- `read` opens the tables, reads the record to its first refusal, then what is left of it, and the lines that lack their newline.
-- Assumes nothing.
use Rattle.std.proofs.Common.{rules, Err}
use mathlib.Core.Path.{◌≡◌}
use Rattle.reader.proofs.Ending.{last_all}
use Rattle.reader.proofs.Whole.{reads_refused, reads_whole}
use Rattle.reader.proofs.read.Goals as goal

pub returns-in_err-open-clause-reads : goal.returns-in_err-open-clause-reads
returns-in_err-open-clause-reads c =
    let e : c.from_residual.result ≡ Err c.in_err-open.field-0.0 = search rules in
    rw e (reads_refused c.args.limit c.args.bytes.now c.in_err-open.field-0.0 c.in_err-open.ensures.opens)

pub returns-clause-reads : goal.returns-clause-reads
returns-clause-reads c =
    let ends = c.part_of-newlines.ensures in
    let last = c.advance-last.ensures.advances in
    rw (c.or.ensures, c.refused_line.ensures, c.refused_line-2.ensures)
    (reads_whole c.open.ensures.opens c.in_ok-open.was c.start-reader.ensures.splitter c.start-reader.ensures.engine c.advance-first.ensures.advances c.advance.ensures.advances ends last (last_all ends last))
