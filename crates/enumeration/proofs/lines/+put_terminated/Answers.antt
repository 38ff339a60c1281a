-- `put_terminated` meets its contract.
-- Assumes nothing.
use native.Mathlib.Omega.{arith}
use Rattle.record.proofs.Putting.{puts_none}
use Rattle.enumeration.proofs.Texts.{terminated_none, terminated_placed}
use Rattle.enumeration.proofs.lines.+put_terminated.Goals as goal

pub returns-then-rank-eq0 : goal.returns-then-rank-eq0
returns-then-rank-eq0 t c = rw (terminated_none c.args.rank c.if-rank-eq0.true) (puts_none c.args.line.now (omega (arith, c.requires)))

pub returns : goal.returns
returns t c = terminated_placed c.args.rank c.older.result c.newest.result (omega (arith, c.if-rank-eq0.false)) c.older.ensures c.newest.ensures c.put_terminated.ensures c.put_ended.ensures
