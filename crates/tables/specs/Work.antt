-- The work rule: what the work tables hold between updates. For each state v, the steps into v are chained by falling index, and so are the steps out of v.
-- Assumes nothing.
use Rattle.std.specs.Prelude.{◌≡◌, cond, List, ℕ, zero, suc, ◌<◌, eqb, get_or}

-- 1 + the largest index below b at which the list has v; 0 where there is none.
unfoldable pub last_before : List ℕ → ℕ → ℕ → ℕ
last_before ends zero v = 0
last_before ends (suc b) v = cond (eqb (get_or ends b 0) v) (suc b) (last_before ends b v)

-- Over one end of the m listed steps, of n states: a head leads to the last step with that end, a next entry to the last one before it.
pub record ListRule (n m : ℕ) (ends head next : List ℕ) : Type 0 where
  pub heads : (v : ℕ) → v < n → get_or head v 0 ≡ last_before ends m v
  pub nexts : (p : ℕ) → p < m → get_or next p 0 ≡ last_before ends p (get_or ends p 0)
