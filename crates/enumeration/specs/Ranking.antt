-- The list of the small histories, by their ranks: the place of a history among all of two states, legal or not. proofs/Listing.antt proves that the list has exactly the small histories, in their order (`histories_exact`, `histories_ordered`, `histories_once`).
-- Assumes nothing.
use Rattle.std.specs.Prelude.{Bool, true, not, cond, ◌&&◌, List, [], ◌∷◌, map, ℕ, zero, suc, ◌-◌, ◌/◌, ◌%◌, ltb}
use Rattle.gid.specs.declared.Update.{Update}
use Rattle.gid.specs.declared.Update.TheVariants.{Step, Terminal, Close}
use Rattle.gid.specs.Updates.{edge}
use Rattle.gid.specs.Histories.{History}
use Rattle.gid.specs.Statuses.{is_closed}
use Rattle.gid.specs.News.{below}

-- The eight updates over two states by the key 0, `E 0 0 0`, `E 0 1 0`, `E 1 0 0`, `E 1 1 0`, `T 0 - -`, `T 1 - -`, `C 0 - -`, `C 1 - -`, by their places, from 0: "steps before terminal marks before closes, lower from first, lower to next".
unfoldable pub update_at : ℕ → Update
update_at i = cond (ltb i 4) (Step (edge (i / 2) (i % 2) 0)) (cond (ltb i 6) (Terminal (i - 4)) (Close (i - 6)))

-- The history of a rank. The empty one has rank 0, and one that has an update behind it 8 times its rank, plus the update's place, plus 1. The first argument bounds its length.
unfoldable pub unranked_in : ℕ → ℕ → History
unranked_in zero i = []
unranked_in (suc k) zero = []
unranked_in (suc k) (suc i) = update_at (i % 8) ∷ unranked_in k (i / 8)

unfoldable pub unranked : ℕ → History
unranked i = unranked_in i i

-- The tests of `MayFollow` and `Legal` (gid/specs/Histories.antt), computed.
abbrev pub may_follow : History → Update → Bool
may_follow h (Step e) = not (is_closed h e.from)
may_follow h (Terminal u) = not (is_closed h u)
may_follow h (Close u) = true

unfoldable pub is_legal : History → Bool
is_legal [] = true
is_legal (x ∷ h) = may_follow h x && is_legal h

-- The ranks of the legal histories, of those below some number.
abbrev pub legal_ranks : ℕ → List ℕ
legal_ranks m = below m (λ i. is_legal (unranked i))

-- There are 1 + 8 + 64 + 512 histories of at most three updates over two states, legal or not.
abbrev pub rank_count : ℕ
rank_count = 585

unfoldable pub histories : List History
histories = map unranked (legal_ranks rank_count)
