-- The marked examples hold of the definitions: each case, computed, is what document 01 says.
-- Assumes nothing.
use mathlib.Core.Path.{◌≡◌, refl}
use mathlib.Core.List.{map}
use Rattle.gid.specs.Histories.{is_in, listed}
use Rattle.gid.specs.Statuses.{is_named, is_terminal, is_closed, reaches, reaches_mark, is_live, is_stuck, reaches_stuck, is_dead, status}
use Rattle.gid.specs.News.{settles, below, news}
use Rattle.gid.specs.Refusals.{refusal}
use Rattle.gid.specs.Outcomes.{given_after, outcome, after, after_all}
use Rattle.gid.specs.Examples.{Case, seen, cases}

pub examples : map seen cases ≡ map (λ (c : Case). c.expected) cases
unfolding is_in listed is_named is_terminal is_closed reaches reaches_mark is_live is_stuck reaches_stuck is_dead status settles below news refusal given_after outcome after after_all seen cases
examples = refl
