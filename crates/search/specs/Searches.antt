-- The two searches: life spreads and is settled; and nodes that keep no way to an open one are found and settled dead.
-- Assumes nothing.
use Rattle.std.specs.Prelude.{List, ℕ}
use Rattle.gid.specs.Statuses.{status_live, status_dead}
use Rattle.gid.specs.Systems.{Arcs}
use Rattle.search.specs.declared.spread.Span.{Span}
use Rattle.search.specs.Spreading.{Live, Tree, allowed, Spread}
use Rattle.search.specs.Releasing.{Escapes, Rescues}
use Rattle.search.specs.Settling.{Settled}

-- The tables that a search writes.
pub record SearchTables : Type 0 where
  pub status : List ℕ
  pub successor : List ℕ
  pub news : List ℕ
  pub visited : List ℕ
  pub queue : List ℕ

-- Life spreads from the queued nodes, and is settled: k news.
pub record Revives (n : ℕ) (Into : Arcs) (starts : Span) (b a : SearchTables) (k : ℕ) : Type 0 where
  pub visits : List ℕ
  pub span : Span
  pub spread : Spread n Into (allowed Live b.status b.successor) b.visited b.queue starts visits a.queue span
  pub settle : Settled span.low span.high status_live b.status b.successor b.news visits a.status a.successor a.news a.visited k

-- The unknown nodes whose successors lead to the queued ones are visited, those that keep another way are released, and the rest are settled.
pub record Sweeps (n : ℕ) (Into Out : Arcs) (starts : Span) (b a : SearchTables) (k : ℕ) : Type 0 where
  pub visits : List ℕ
  pub queue : List ℕ
  pub span : Span
  pub spread : Spread n Into (allowed Tree b.status b.successor) b.visited b.queue starts visits queue span
  pub escaped : ℕ
  pub visits₁ : List ℕ
  pub successor₁ : List ℕ
  pub queue₁ : List ℕ
  pub escapes : Escapes n Out b.status visits b.successor queue visits₁ successor₁ queue₁ span.len escaped
  pub rescued : ℕ
  pub visits₂ : List ℕ
  pub successor₂ : List ℕ
  pub rescues : Rescues n Into visits₁ successor₁ queue₁ visits₂ successor₂ a.queue escaped rescued
  pub settle : Settled span.low span.high status_dead b.status successor₂ b.news visits₂ a.status a.successor a.news a.visited k
