-- The parts of a spread: how it begins, what one offer of a source does, and what offering all sources of a node leaves.
-- Assumes nothing.
use Rattle.std.specs.Prelude.{◌≡◌, ◌⊎◌, Bool, true, false, List, ℕ, ◌+◌, ◌≤◌, ◌<◌, length, get_or, set}
use Rattle.gid.specs.Systems.{Arcs}
use Rattle.tables.specs.Visits.{marked, mark}
use Rattle.tables.specs.Keeping.{Kept, KeptVisited}
use Rattle.search.specs.declared.spread.Span.{Span}
use Rattle.search.specs.Spreading.{Reached, unless, Before, unvisited}

-- The span of no node, of n.
abbrev pub no_span : ℕ → Span
no_span n = record { len = 0; low = n; high = 0 }

-- The node u is visited, and alone in the queue.
pub record Begun (u : ℕ) (visited queue visited' queue' : List ℕ) (r : Span) : Type 0 where
  pub marks : visited' ≡ mark visited u
  pub front : queue' ≡ set queue 0 u
  pub one : r.len ≡ 1
  pub least : r.low ≡ u
  pub greatest : r.high ≡ u

-- The node y is visited and queued at the end, and the span holds it.
pub record Admitted (y : ℕ) (visited queue : List ℕ) (span : Span) (visited' queue' : List ℕ) (span' : Span) : Type 0 where
  pub marks : visited' ≡ mark visited y
  pub last : queue' ≡ set queue span.len y
  pub more : span'.len ≡ span.len + 1
  pub low : (span'.low ≤ span.low) × (span'.low ≤ y)
  pub high : (span.high ≤ span'.high) × (y ≤ span'.high)
  pub top : (n : ℕ) → span.high < n → y < n → span'.high < n

-- The offer of y: it is passed over, or it is a node, not visited yet, passes the test, and is admitted.
pub data Offered (n : ℕ) (ok : Bool) (y : ℕ) (visited queue : List ℕ) (span : Span) (visited' queue' : List ℕ) (span' : Span) : Type 0 where
  passed : (y < n → ok ≡ true → marked visited y ≡ true) → visited' ≡ visited → queue' ≡ queue → span' ≡ span → Offered n ok y visited queue span visited' queue' span'
  taken : y < n → ok ≡ true → marked visited y ≡ false → Admitted y visited queue span visited' queue' span' → Offered n ok y visited queue span visited' queue' span'

-- A spread so far, since the marks, the queue and the span were `visited`, `queue` and `span`.
pub record Spreading (n : ℕ) (Arc : Arcs) (ok : ℕ → ℕ → Bool) (visited queue : List ℕ) (span : Span) (visited' queue' : List ℕ) (span' : Span) : Type 0 where
  pub begins : (s : ℕ) → Before queue span.len s → Before queue' span'.len s
  pub only : (j : ℕ) → j < span'.len → Reached n Arc (unless visited ok) (Before queue span.len) (get_or queue' j 0) × (get_or queue' j 0 < n)
  pub seen : (j : ℕ) → j < span'.len → marked visited' (get_or queue' j 0) ≡ true
  pub within : (j : ℕ) → j < span'.len → (span'.low ≤ get_or queue' j 0) × (get_or queue' j 0 ≤ span'.high)
  pub listed : (s : ℕ) → s < n → marked visited' s ≡ true → (marked visited s ≡ true) ⊎ Before queue' span'.len s
  pub grows : (s : ℕ) → marked visited s ≡ true → marked visited' s ≡ true
  pub top : span'.high < n
  pub visits : KeptVisited n visited visited'
  pub queues : Kept n queue queue'

-- After offers of sources of x: what was marked or queued stays so, the queue has room, and a spread that queued x goes on.
pub record Offers (n : ℕ) (Arc : Arcs) (ok : ℕ → ℕ → Bool) (x : ℕ) (visited queue : List ℕ) (span : Span) (visited' queue' : List ℕ) (span' : Span) : Type 0 where
  pub grows : (s : ℕ) → marked visited s ≡ true → marked visited' s ≡ true
  pub longer : span.len ≤ span'.len
  pub older : (j : ℕ) → j < span.len → get_or queue' j 0 ≡ get_or queue j 0
  pub room : span'.len + unvisited n visited' ≤ n
  pub visits : length visited' ≡ length visited
  pub queues : length queue' ≡ length queue
  pub spreads : (visited₀ queue₀ : List ℕ) (span₀ : Span) →
      Before queue span.len x →
      Spreading n Arc ok visited₀ queue₀ span₀ visited queue span →
      Spreading n Arc ok visited₀ queue₀ span₀ visited' queue' span'

-- Where s, the source of the arc i, is a node that passes the test, it is visited.
abbrev pub SourceVisited : ℕ → (ℕ → ℕ → Bool) → List ℕ → ℕ → ℕ → Type 0
SourceVisited n ok visited s i = s < n → ok s i ≡ true → marked visited s ≡ true

-- So is the source of each arc into x.
abbrev pub SourcesVisited : ℕ → Arcs → (ℕ → ℕ → Bool) → List ℕ → ℕ → Type 0
SourcesVisited n Arc ok visited x = (s i : ℕ) → Arc s i x → SourceVisited n ok visited s i
