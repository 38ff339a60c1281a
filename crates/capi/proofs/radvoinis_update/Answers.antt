-- `radvoinis_update` meets its contract.
-- Assumes nothing.
use Rattle.std.proofs.Common.{rules, arith, ◌≤◌, sym, ◌∙◌, refl}
use Rattle.gid.specs.Refusals.{max_states}
use Rattle.engine.specs.Answers.{news_count}
use Rattle.capi.specs.Calls.{unknown}
use Rattle.capi.proofs.Few.{few_news, answered_by}
use Rattle.capi.proofs.radvoinis_update.Goals as goal

pub map-requires : goal.map-requires
map-requires c = λ x e p q. let k : news_count c.update-updated.result.answer ≤ max_states = few_news _ c.update-updated.ensures.promise in let few : x ≤ max_states = rw e at k in omega (arith, few)

pub returns-in_default : goal.returns-in_default
returns-in_default c = rw (sym c.update_of.ensures ∙ c.in_default.is) (unknown (rw c.lengths.ensures at c.refused_kind.ensures) c.code.ensures)

pub returns : goal.returns
returns c =
    rw (sym c.update_of.ensures ∙ c.in-Some.is)
    (answered_by c.update-updated.new.tables c.update-updated.ensures.promise refl (search rules)
    (search rules) (search rules) (search rules) (search rules) (search rules) (search rules) (search rules) (search rules) (search rules) (search rules) (search rules) (search rules) (search rules))
