-- The near escape: an arc out of a node from whose target a few successors lead to an open node.
-- Assumes nothing.
use Rattle.std.specs.Prelude.{◌≡◌, List, ℕ, ◌<◌, get_or, Option, IfSome}
use Rattle.gid.specs.Statuses.{status_open, status_unknown}
use Rattle.gid.specs.Successors.{Chain, Having}
use Rattle.gid.specs.Systems.{Arcs}

-- The first m steps by their targets alone, whatever their sources: what following a successor looks at.
abbrev pub toward : ℕ → List ℕ → Arcs
toward m to s p t = (p < m) × (get_or to p 0 ≡ t)

-- Following successors from s, through unknown nodes, reaches an open one.
abbrev pub Near : ℕ → Arcs → List ℕ → List ℕ → ℕ → Type 0
Near n Arc status successor s =
    (k : ℕ) × Chain (Having n (λ r. get_or status r 0) status_unknown) (Having n (λ r. get_or status r 0) status_open) (λ r t. Arc r (get_or successor r 0) t) s k

-- What the near escape answers: the number of an arc out of u from whose target an open node is near, or nothing.
abbrev pub Escape : ℕ → Arcs → Arcs → List ℕ → List ℕ → ℕ → Option ℕ → Type 0
Escape n Out Arc status successor u r =
    IfSome r (λ p. (t : ℕ) × Out u p t × Near n Arc status successor t)

-- Where the successor of s leads: to a target, or nowhere.
abbrev pub Followed : ℕ → Arcs → List ℕ → List ℕ → ℕ → Option ℕ → Type 0
Followed n Arc status successor s r =
    IfSome r (λ t. Having n (λ q. get_or status q 0) status_unknown s × Arc s (get_or successor s 0) t)
