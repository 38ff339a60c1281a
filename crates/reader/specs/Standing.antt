-- Where a reader stands in a record: the tables of a run over the lines accepted so far.
-- Assumes nothing.
use Rattle.std.specs.Prelude.{◌≡◌, true, ◌≤◌}
use Rattle.gid.specs.Histories.{History, Legal}
use Rattle.tables.specs.declared.Graph.{Graph}
use Rattle.tables.specs.Tables.{Tables, long_enough}
use Rattle.tables.specs.Fitting.{Consistent}

-- The state value and the tables of a reader that started with the state value `start`: long enough, they fit for the legal history h.
pub record Standing (start : Graph) (h : History) (g : Graph) (t : Tables) : Type 0 where
  pub legal : Legal h
  pub fits : Consistent h g t
  pub states : g.n ≡ start.n
  pub limits : g.limit ≡ start.limit
  pub room : g.steps ≤ start.limit
  pub long : long_enough start t ≡ true
