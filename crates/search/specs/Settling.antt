-- Settling a verdict: each visited node from the least to the greatest of a span gets it, has no successor, is told in the news by a rule of its own, in rising order, and is visited no more.
-- Assumes nothing.
use Rattle.std.specs.Prelude.{◌≡◌, Bool, true, false, cond, not, ◌&&◌, List, [], ◌∷◌, ◌++◌, ℕ, suc, ◌+◌, ◌≤◌, leb, length, get_or, set, take}
use Rattle.std.proofs.lemmas.List.Edits.{sets}
use Rattle.gid.specs.News.{below}
use Rattle.gid.specs.Successors.{no_successor}
use Rattle.tables.specs.Visits.{marked, unmark}
use Rattle.tables.specs.Keeping.{KeptVisited}

-- The news of a settled node: the state that it names.
abbrev pub told : ℕ → List ℕ
told node = node ∷ []

abbrev pub told_all : List ℕ → List ℕ
told_all [] = []
told_all (x ∷ l) = told x ++ told_all l

-- The nodes that are settled: visited, and from low to high.
abbrev pub settled_from : ℕ → ℕ → List ℕ → ℕ → Bool
settled_from low high visited s = leb low s && leb s high && marked visited s

pub record Settled (low high verdict : ℕ) (st su ne vi st' su' ne' vi' : List ℕ) (k : ℕ) : Type 0 where
  pub status : (s : ℕ) → get_or st' s 0 ≡ cond (settled_from low high vi s) verdict (get_or st s 0)
  pub successor : (s : ℕ) → get_or su' s 0 ≡ cond (settled_from low high vi s) no_successor (get_or su s 0)
  pub visited : (s : ℕ) → marked vi' s ≡ (marked vi s && not (settled_from low high vi s))
  -- "The news comes back as the filled front part"; "entries behind that front keep their contents"
  pub front : take k ne' ≡ told_all (below (suc high) (settled_from low high vi))
  pub behind : (i : ℕ) → k ≤ i → get_or ne' i 0 ≡ get_or ne i 0
  pub few : k ≤ suc high
  pub statuses : length st' ≡ length st
  pub successors : length su' ≡ length su
  pub names : length ne' ≡ length ne
  pub visits : KeptVisited (suc high) vi vi'

-- The news of one node are put behind `count` others, k in all.
pub record Told (node count : ℕ) (ne ne' : List ℕ) (k : ℕ) : Type 0 where
  pub names : ne' ≡ sets ne count (told node)
  pub number : k ≡ count + length (told node)

-- The node s alone: it is visited and gets the verdict, or nothing is written.
pub data SettledOne (s verdict count : ℕ) (st su ne vi st' su' ne' vi' : List ℕ) (k : ℕ) : Type 0 where
  passed : marked vi s ≡ false → st' ≡ st → su' ≡ su → ne' ≡ ne → vi' ≡ vi → k ≡ count → SettledOne s verdict count st su ne vi st' su' ne' vi' k
  settled : marked vi s ≡ true → st' ≡ set st s verdict → su' ≡ set su s no_successor → Told s count ne ne' k → vi' ≡ unmark vi s → SettledOne s verdict count st su ne vi st' su' ne' vi' k
