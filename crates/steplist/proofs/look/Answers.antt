-- `look` answers the first place before end: none is before start, and it takes the first from there that passes.
-- Assumes nothing.
use Rattle.std.proofs.Common.{rules}
use Rattle.std.proofs.lemmas.Iterator.{first_from_Range}
use Rattle.tables.specs.Listing.{is_equal_at}
use Rattle.steplist.proofs.Places.{first_between}
use Rattle.steplist.proofs.look.Goals as goal

pub returns : goal.returns
returns c =
    first_between (is_equal_at c.args.steps.from.now c.args.steps.to.now c.args.steps.key.now c.args.edge) c.args.start c.args.end c.find.result c.requires.none_before
    (first_from_Range _ _ _ _ _ _ c.find.ensures.ran (λ p q k. search rules) (λ p q k. (search rules, search rules)))
