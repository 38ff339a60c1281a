-- What an accepted update is prepared by: its states and its key are in range, and a step has a place.
-- Assumes nothing.
use Rattle.std.specs.Prelude.{List, ℕ, ◌<◌, ◌≤◌, length}
use Rattle.gid.specs.declared.Update.{Update}
use Rattle.gid.specs.declared.Update.TheVariants.{Step, Terminal, Close}
use Rattle.gid.specs.Refusals.{max_key}
use Rattle.engine.specs.Effects.{set_marks, names_after}

-- The states of an update are below n.
abbrev pub InRange : ℕ → Update → Type 0
InRange n (Step e) = (e.from < n) × (e.to < n)
InRange n (Terminal u) = u < n
InRange n (Close u) = u < n

-- Where the update is a step, its key is below n.
abbrev pub KeyBelow : ℕ → Update → Type 0
KeyBelow n (Step e) = e.key < n
KeyBelow n (Terminal u) = Unit {0}
KeyBelow n (Close u) = Unit {0}

-- Where the update is a step, a table has a place m.
abbrev pub Free : ℕ → Update → List ℕ → Type 0
Free m (Step e) l = m < length l
Free m (Terminal u) l = Unit {0}
Free m (Close u) l = Unit {0}

-- The update can be stored: its states are below n, and a step has a free place and a key of 0 to 31.
abbrev pub Storable : ℕ → ℕ → ℕ → Update → Type 0
Storable n limit m (Step e) = (e.from < n) × (e.to < n) × (m < limit) × (e.key ≤ max_key)
Storable n limit m (Terminal u) = u < n
Storable n limit m (Close u) = u < n

-- What an update that comes again does: a step names its states, a close nothing.
unfoldable pub status_again : Update → List ℕ → List ℕ
status_again (Step e) status = names_after (Step e) status
status_again (Terminal u) status = status
status_again (Close u) status = status

unfoldable pub marks_again : Update → List ℕ → List ℕ
marks_again (Step e) marks = set_marks (Step e) marks
marks_again (Terminal u) marks = marks
marks_again (Close u) marks = marks
