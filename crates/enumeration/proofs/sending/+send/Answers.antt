-- `send` meets its contract.
-- Assumes nothing.
use native.Mathlib.Omega.{arith}
use Rattle.enumeration.proofs.Accepting.{sent_none, sent_ranked}
use Rattle.enumeration.proofs.sending.+send.Goals as goal

pub returns-then-rank-eq0-clause-sends : goal.returns-then-rank-eq0-clause-sends
returns-then-rank-eq0-clause-sends t c = sent_none c.args.rank c.if-rank-eq0.true

pub returns-clause-sends : goal.returns-clause-sends
returns-clause-sends t c =
    sent_ranked c.args.rank c.older.result c.newest.result (omega (arith, c.if-rank-eq0.false))
    c.older.ensures c.newest.ensures c.send.ensures.sends c.update-updated.ensures.promise
