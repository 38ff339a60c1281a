-- Spreading backwards along arcs: which nodes a search visits.
-- Assumes nothing.
use Rattle.std.specs.Prelude.{◌≡◌, ◌↔◌, ◌⊎◌, Bool, true, not, ◌&&◌, List, ℕ, ◌+◌, ◌≤◌, ◌<◌, eqb, get_or}
use Rattle.gid.specs.Statuses.{status_unknown, status_live}
use Rattle.gid.specs.Systems.{Arcs}
use Rattle.tables.specs.Visits.{marked}
use Rattle.tables.specs.Keeping.{Kept, KeptVisited}
use Rattle.adjacency.specs.Walks.{Linked}
pub use Rattle.adjacency.specs.Chains.{Chains, chains, Walkable}
use Rattle.search.specs.declared.spread.Span.{Span}
use Rattle.search.specs.Counting.{count}

-- The steps that walks meet, as arcs: where they are chained at their targets, and where at their sources. Everything below speaks of any arcs.
abbrev pub into : Chains → Arcs
into c s i t = Linked c.head c.next c.m t i × (get_or c.ends i 0 ≡ s)

abbrev pub out_of : Chains → Arcs
out_of c s i t = Linked c.head c.next c.m s i × (get_or c.ends i 0 ≡ t)

-- Which sources of a visited node are allowed.
pub data Mode : Type 0 where
  Live Tree Claimed : Mode

-- Whether the source y of the arc i is allowed. Live: it is not live. Tree: it is unknown, and this very arc is its successor. Claimed: its status is live.
abbrev pub allowed : Mode → List ℕ → List ℕ → ℕ → ℕ → Bool
allowed Live status successor y i = not (eqb (get_or status y 0) status_live)
allowed Tree status successor y i = eqb (get_or status y 0) status_unknown && eqb (get_or successor y 0) i
allowed Claimed status successor y i = eqb (get_or status y 0) status_live

-- What calls answer at a node below n and an arc is what the test ok says of them.
abbrev pub Tells : ℕ → (ℕ → ℕ → Bool → Type 0) → (ℕ → ℕ → Bool) → Type 0
Tells n answers ok = (y i : ℕ) (r : Bool) → y < n → answers y i r → r ≡ ok y i

-- The nodes below n that are reached backwards from the starts, by sources that pass a test.
pub data Reached (n : ℕ) (Arc : Arcs) (ok : ℕ → ℕ → Bool) (Start : ℕ → Type 0) : ℕ → Type 0 where
  start : {s : ℕ} → Start s → Reached n Arc ok Start s
  back : {v i s : ℕ} → Reached n Arc ok Start v → Arc s i v → s < n → ok s i ≡ true → Reached n Arc ok Start s

-- The test of a search that finds the marks `visited`: not visited yet, and allowed.
abbrev pub unless : List ℕ → (ℕ → ℕ → Bool) → ℕ → ℕ → Bool
unless visited ok y i = not (marked visited y) && ok y i

-- One of the first j of the queue is w.
abbrev pub Before : List ℕ → ℕ → ℕ → Type 0
Before queue j w = (i : ℕ) × (i < j) × (get_or queue i 0 ≡ w)

-- How many of the first n nodes are not visited.
abbrev pub unvisited : ℕ → List ℕ → ℕ
unvisited n visited = count n (λ s. not (marked visited s))

-- Nodes that are queued and visited, within a span: what a spread starts from, and what it leaves. The queue has room for all others.
pub record Queued (n : ℕ) (visited queue : List ℕ) (span : Span) : Type 0 where
  pub inside : (j : ℕ) → j < span.len → get_or queue j 0 < n
  pub seen : (j : ℕ) → j < span.len → marked visited (get_or queue j 0) ≡ true
  pub within : (j : ℕ) → j < span.len → (span.low ≤ get_or queue j 0) × (get_or queue j 0 ≤ span.high)
  pub top : span.high < n
  pub room : span.len + unvisited n visited ≤ n

-- What a spread from the queued nodes leaves: exactly the reached ones are visited besides, and each of them is queued.
pub record Spread (n : ℕ) (Arc : Arcs) (ok : ℕ → ℕ → Bool) (visited queue : List ℕ) (span : Span) (visited' queue' : List ℕ) (r : Span) : Type 0 where
  pub exact : (s : ℕ) → s < n → (marked visited' s ≡ true) ↔ ((marked visited s ≡ true) ⊎ Reached n Arc (unless visited ok) (Before queue span.len) s)
  pub reached : (s : ℕ) → Reached n Arc (unless visited ok) (Before queue span.len) s → Before queue' r.len s
  pub only : (j : ℕ) → j < r.len → Reached n Arc (unless visited ok) (Before queue span.len) (get_or queue' j 0)
  pub queued : Queued n visited' queue' r
  pub visits : KeptVisited n visited visited'
  pub queues : Kept n queue queue'
