-- A history that is sent to the engine: "Before each release we run the engine over everything short" (document 02, #114).
-- Assumes nothing.
use Rattle.std.specs.Prelude.{◌≡◌, true, List, ℕ, get_or}
use Rattle.gid.specs.Histories.{History}
use Rattle.tables.specs.declared.Graph.{Graph}
use Rattle.tables.specs.Tables.{Tables, long_enough}
use Rattle.tables.specs.Fitting.{Fresh}
use Rattle.engine.specs.Runs.{Run}

-- The updates of h were sent in order, from the state value g and the tables t: those of `accepted` were accepted.
abbrev pub Sends : History → (g : Graph) (t : Tables) (g' : Graph) (t' : Tables) → Type 0
Sends h g t g' t' = (accepted : History) × Run g t h accepted g' t'

-- Two states, and a step limit of three, so that no history of at most three updates meets it.
abbrev pub start : Graph
start = record { n = 2; limit = 3; steps = 0 }

-- The statuses are those that the status table has after a run of the history's updates from fresh tables that are long enough.
pub record StatusesAfter (h : History) (r : List ℕ) : Type 0 where
  pub lent : Tables
  pub fresh : Fresh start lent
  pub long : long_enough start lent ≡ true
  pub graph : Graph
  pub tables : Tables
  pub sent : Sends h start lent graph tables
  pub first : get_or r 0 0 ≡ get_or tables.status 0 0
  pub second : get_or r 1 0 ≡ get_or tables.status 1 0
