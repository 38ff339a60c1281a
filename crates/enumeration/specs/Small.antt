-- Which histories are small, and their order. Document 02, #114: "every legal history of at most three updates over two states, key 0, no ranges: shorter ones first, then update by update with steps before terminal marks before closes, lower from first, lower to next."
-- Assumes nothing.
use Rattle.std.specs.Prelude.{◌≡◌, ◌⊎◌, ◌<◌, ◌≤◌, length}
use mathlib.Core.List.{List, [], ◌∷◌, Memᴰ}
use Rattle.gid.specs.declared.Update.{Update}
use Rattle.gid.specs.declared.Update.TheVariants.{Step, Terminal, Close}
use Rattle.gid.specs.Histories.{History, Has, Legal}

-- "over two states, key 0"
abbrev pub SmallUpdate : Update → Type 0
SmallUpdate (Step e) = (e.from < 2) × (e.to < 2) × (e.key ≡ 0)
SmallUpdate (Terminal u) = u < 2
SmallUpdate (Close u) = u < 2

-- "every legal history of at most three updates over two states", "repeats of an update included"
pub record SmallHistory (h : History) : Type 0 where
  pub legal : Legal h
  pub short : length h ≤ 3
  pub small : (x : Update) → Has h x → SmallUpdate x

-- "steps before terminal marks before closes, lower from first, lower to next"
abbrev pub Sooner : Update → Update → Type 0
Sooner (Step d) (Step e) = (d.from < e.from) ⊎ ((d.from ≡ e.from) × (d.to < e.to))
Sooner (Step d) (Terminal v) = Unit {0}
Sooner (Step d) (Close v) = Unit {0}
Sooner (Terminal u) (Step e) = ⊥
Sooner (Terminal u) (Terminal v) = u < v
Sooner (Terminal u) (Close v) = Unit {0}
Sooner (Close u) (Step e) = ⊥
Sooner (Close u) (Terminal v) = ⊥
Sooner (Close u) (Close v) = u < v

-- "update by update": of two histories of one length, by the first update in which they differ. A history has its newest update first, so that is one before the newest, or the newest.
abbrev pub UpdateByUpdate : History → History → Type 0
UpdateByUpdate [] g = ⊥
UpdateByUpdate (x ∷ h) [] = ⊥
UpdateByUpdate (x ∷ h) (y ∷ g) = UpdateByUpdate h g ⊎ ((h ≡ g) × Sooner x y)

-- "shorter ones first, then update by update"
abbrev pub Before : History → History → Type 0
Before h g = (length h < length g) ⊎ ((length h ≡ length g) × UpdateByUpdate h g)

-- Each history of a list stands before all that follow it.
abbrev pub Ordered : List History → Type 0
Ordered [] = Unit {0}
Ordered (h ∷ l) = ((g : History) → Memᴰ g l → Before h g) × Ordered l

-- "Each .. appears exactly one time": none is among those that follow it.
abbrev pub EachOnce : List History → Type 0
EachOnce [] = Unit {0}
EachOnce (h ∷ l) = (Memᴰ h l → ⊥) × EachOnce l
