-- `statuses_after` meets its contract.
-- Assumes nothing.
use Rattle.std.proofs.Common.{rules}
use Rattle.enumeration.proofs.Accepting.{sent_statuses}
use Rattle.enumeration.proofs.sending.statuses_after.Goals as goal

pub returns : goal.returns
returns c = sent_statuses c.send.ensures.sends (search rules)
