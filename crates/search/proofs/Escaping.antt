-- The laws of a near escape: an open node is near by itself, or by where a successor leads.
-- Assumes nothing.
use mathlib.Core.Path.{◌≡◌}
use mathlib.Core.List.{List}
use Prim.Native.Nat.{ℕ, suc, ◌<◌}
use lib.ListN.{get_or}
use Rattle.std.specs.Prelude.{Some}
use Rattle.gid.specs.Statuses.{status_open}
use Rattle.gid.specs.Successors.{ends, follows}
use Rattle.gid.specs.Systems.{Arcs}
use Rattle.search.specs.Escaping.{Near, Followed}

module _ (n : ℕ) (Arc : Arcs) (status successor : List ℕ) where
  pub near_here : (s : ℕ) → s < n → get_or status s 0 ≡ status_open → Near n Arc status successor s
  near_here s h e = (0, ends (h, e))

  pub near_before : (s t : ℕ) → Followed n Arc status successor s (Some t) → Near n Arc status successor t → Near n Arc status successor s
  near_before s t (u, a) (k, c) = (suc k, follows u a c)
