-- `radvoinis_audit` meets its contract.
-- Assumes nothing.
use Rattle.std.proofs.Common.{rules}
use Rattle.capi.proofs.radvoinis_audit.Goals as goal

pub returns : goal.returns
returns c = λ news. record { answer = c.audit-answer.result; audited = c.audit-answer.ensures news; code = search rules }
