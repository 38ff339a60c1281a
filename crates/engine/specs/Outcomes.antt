-- What is to hold of the tables that a search writes, after an update on tables that fit.
-- Assumes nothing.
use Rattle.std.specs.Prelude.{◌≡◌, ◌∷◌, ℕ, ◌<◌, get_or, take}
use Rattle.gid.specs.declared.Update.{Update}
use Rattle.gid.specs.Histories.{History}
use Rattle.gid.specs.Statuses.{status}
use Rattle.gid.specs.News.{news}
use Rattle.gid.specs.Successors.{SuccessorRule}
use Rattle.gid.specs.Systems.{ListedAt}
use Rattle.tables.specs.Visits.{NoneVisited}
use Rattle.search.specs.Searches.{SearchTables}

-- The statuses and the successors are those of the history with the update, over n states, no state is visited, and the first k entries of the news list are its news.
pub record Right (h : History) (x : Update) (n : ℕ) (a : SearchTables) (k : ℕ) : Type 0 where
  pub statuses : (s : ℕ) → s < n → get_or a.status s 0 ≡ status (x ∷ h) s
  pub successors : SuccessorRule n (ListedAt (x ∷ h)) (λ s. get_or a.status s 0) (λ s. get_or a.successor s 0)
  pub unvisited : NoneVisited n a.visited
  pub named : take k a.news ≡ news n h x
