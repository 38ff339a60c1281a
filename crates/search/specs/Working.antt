-- What a search does to the work tables that it is lent.
-- Assumes nothing.
use Rattle.std.specs.Prelude.{◌≡◌, List, ℕ}
use Rattle.search.specs.declared.spread.Span.{Span}
use Rattle.search.specs.declared.worklist.Worklist.{Worklist}
use Rattle.search.specs.Searches.{SearchTables}

-- The slices are the same ones, so that what is written to them is the lender's, over as many nodes.
pub record SameWorklist (w w' : Worklist) : Type 0 where
  pub n : w'.n ≡ w.n
  pub queue : w'.queue.ghost_name ≡ w.queue.ghost_name
  pub visited : w'.visited.ghost_name ≡ w.visited.ghost_name

-- The bounds of the nodes that were admitted are as they were, however many are queued.
pub record SameBounds (span span' : Span) : Type 0 where
  pub low : span'.low ≡ span.low
  pub high : span'.high ≡ span.high

-- The tables that a search writes, the work tables among them.
abbrev pub written : (status successor news : List ℕ) → Worklist → SearchTables
written status successor news w = record { status = status; successor = successor; news = news; visited = w.visited.now; queue = w.queue.now }
