-- The listed steps, chained at one end.
-- Assumes nothing.
use Rattle.std.specs.Prelude.{List, ℕ, ◌≤◌, ◌<◌, length}

-- The first m steps over n states, chained at one end, with the list of their other ends.
pub record Chains : Type 0 where
  pub n : ℕ
  pub m : ℕ
  pub ends : List ℕ
  pub head : List ℕ
  pub next : List ℕ

abbrev pub chains : ℕ → ℕ → List ℕ → List ℕ → List ℕ → Chains
chains n m ends head next = record { n = n; m = m; ends = ends; head = head; next = next }

-- The tables are long enough for a walk.
pub record Walkable (c : Chains) : Type 0 where
  pub few : c.m < 65535
  pub heads : c.n ≤ length c.head
  pub nexts : c.m ≤ length c.next
  pub ends' : c.m ≤ length c.ends
