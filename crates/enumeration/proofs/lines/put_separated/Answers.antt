-- `put_separated` meets its contract.
-- Assumes nothing.
use native.Mathlib.Omega.{arith}
use Rattle.enumeration.proofs.Texts.{separated_placed}
use Rattle.enumeration.proofs.lines.put_separated.Goals as goal

pub returns : goal.returns
returns c = separated_placed c.args.rank c.older.result c.newest.result (omega (arith, c.if-rank-eq0.false)) c.older.ensures c.newest.ensures c.put_terminated.ensures c.put_ended.ensures
