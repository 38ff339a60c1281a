-- Histories: the updates that were accepted, and which of them are legal. Document 000, section 2.1, calls a legal history a valid GID, and lets a close come again.
-- Assumes nothing.
use Rattle.std.specs.Prelude.{◌≡◌, Bool, false, cond, ◌&&◌, ◌||◌, ℕ, eqb}
use mathlib.Core.List.{List, [], ◌∷◌, ◌++◌, Memᴰ}
use Rattle.gid.specs.declared.Edge.{Edge}
use Rattle.gid.specs.declared.Update.{Update}
use Rattle.gid.specs.declared.Update.TheVariants.{Step, Terminal, Close}
use Rattle.gid.specs.Updates.{edge, Mentions}

-- A history is the list of its updates, the newest first: `x ∷ h` is the history h followed by the update x.
abbrev pub History : Type 0
History = List Update

-- The history of updates that are listed in the order of their arrival.
abbrev pub following : History → List Update → History
following h [] = h
following h (x ∷ xs) = following (x ∷ h) xs

-- The update x is one of the history's.
abbrev pub Has : History → Update → Type 0
Has h x = Memᴰ x h

-- The history has a step from u to v, by some key.
abbrev pub IsStep : History → ℕ → ℕ → Type 0
IsStep h u v = (k : ℕ) × Has h (Step (edge u v k))

abbrev pub IsTerminal : History → ℕ → Type 0
IsTerminal h s = Has h (Terminal s)

abbrev pub IsClosed : History → ℕ → Type 0
IsClosed h s = Has h (Close s)

-- "A state is named when an accepted update mentions it."
abbrev pub IsNamed : History → ℕ → Type 0
IsNamed h s = (x : Update) × Has h x × Mentions x s

-- The update x may follow the history h: "no step and no terminal mark follows a close of its first state" (document 02, #102). A close always may.
abbrev pub MayFollow : History → Update → Type 0
MayFollow h (Step e) = IsClosed h e.from → ⊥
MayFollow h (Terminal u) = IsClosed h u → ⊥
MayFollow h (Close u) = Unit {0}

-- A history is legal if each of its updates may follow those before it.
abbrev pub Legal : History → Type 0
Legal [] = Unit {0}
Legal (x ∷ h) = Legal h × MayFollow h x

-- g continues h: document 000's extension, of which h is a prefix.
abbrev pub Continues : History → History → Type 0
Continues h g = (k : History) × (g ≡ k ++ h)

-- Whether two steps are "equal in from, to and key" (document 02, #103), and whether a list has a step equal to e.
abbrev pub is_same : Edge → Edge → Bool
is_same d e = eqb d.from e.from && (eqb d.to e.to && eqb d.key e.key)

unfoldable pub is_in : List Edge → Edge → Bool
is_in [] e = false
is_in (d ∷ l) e = is_same d e || is_in l e

-- What an update adds to the step list, by a test of which steps are listed: "a step equal in from, to and key to a listed one is accepted without taking a place" (#103).
abbrev pub added : (Edge → Bool) → Update → List Edge
added has (Step e) = cond (has e) [] (e ∷ [])
added has (Terminal u) = []
added has (Close u) = []

-- The update is a step that is listed already, by such a test.
abbrev pub repeats : (Edge → Bool) → Update → Bool
repeats has (Step e) = has e
repeats has (Terminal u) = false
repeats has (Close u) = false

-- The step that an update sends, if it is one: what it adds where no equal step is listed.
abbrev pub step_of : Update → List Edge
step_of x = added (λ e. false) x

-- The step list of a history, "in order of acceptance": each of its steps once, at the place that it took first.
unfoldable pub listed : History → List Edge
listed [] = []
listed (x ∷ h) = listed h ++ added (is_in (listed h)) x
