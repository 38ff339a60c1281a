-- The number of the small histories, computed: as many are listed as the definition that lists none counts.
-- Assumes nothing.
use mathlib.Core.Path.{◌≡◌, refl, ◌∙◌}
use lib.ListN.{length, length-map}
use Rattle.gid.specs.Statuses.{is_closed}
use Rattle.gid.specs.News.{below}
use Rattle.enumeration.specs.Ranking.{update_at, unranked_in, unranked, is_legal, legal_ranks, rank_count, histories}
use Rattle.enumeration.specs.Counting.{ways, count_up_to, history_count}

pub ranks_counted : length (legal_ranks rank_count) ≡ history_count
unfolding is_closed below update_at unranked_in unranked is_legal ways count_up_to history_count
ranks_counted = refl

-- "The count printed at the end equals the count given by a definition that does not run the listing."
pub histories_counted : length histories ≡ history_count
unfolding histories
histories_counted = length-map (legal_ranks rank_count) unranked ∙ ranks_counted
