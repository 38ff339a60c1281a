-- `claims_fit` asks for the live states, then for the unknown ones.
-- Assumes nothing.
use Rattle.std.proofs.Common.{rules}
use Rattle.search.specs.Spreading.{Tree, Claimed}
use Rattle.audit.proofs.Gathering.{both_answered, first_denied, answered_lent}
use Rattle.audit.proofs.claims.claims_fit.Goals as goal

pub claimed-requires-then-claimed-clause-none_visited : goal.claimed-requires-then-claimed-clause-none_visited
claimed-requires-then-claimed-clause-none_visited c = (c.claimed.ensures.answered Claimed (λ y p r h k. search rules)).none

pub returns-then-claimed : goal.returns-then-claimed
returns-then-claimed c = answered_lent (both_answered (c.claimed.ensures.answered Claimed (λ y p r h k. search rules)) c.if-claimed.true (c.claimed-then-claimed.ensures.answered Tree (λ y p r h k. search rules))) (search rules) (search rules)

pub returns-else-claimed : goal.returns-else-claimed
returns-else-claimed c = answered_lent (first_denied (c.claimed.ensures.answered Claimed (λ y p r h k. search rules)) c.if-claimed.false) (search rules) (search rules)
