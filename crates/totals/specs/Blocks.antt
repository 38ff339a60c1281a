-- What a block of states adds to the totals of those before it.
-- Assumes nothing.
use Rattle.std.specs.Prelude.{◌≡◌, ℕ, ◌+◌}
use Rattle.gid.specs.Statuses.{status_open, status_unknown, status_live, status_dead}
use Rattle.totals.specs.declared.Totals.{Totals}
use Rattle.totals.specs.Counting.{having}

-- The states from start up to end bring each count below start to the count below end.
pub record Adds (start end : ℕ) (status : ℕ → ℕ) (t : Totals) : Type 0 where
  pub opens : having end status status_open ≡ having start status status_open + t.«open»
  pub unknowns : having end status status_unknown ≡ having start status status_unknown + t.unknown
  pub lives : having end status status_live ≡ having start status status_live + t.live
  pub deads : having end status status_dead ≡ having start status status_dead + t.dead
