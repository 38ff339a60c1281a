-- The step list on tables with any contents: where a step is listed, and the state value and the list after an accepted update.
-- Assumes nothing.
use Rattle.std.specs.Prelude.{◌≡◌, Bool, true, false, cond, ◌&&◌, List, map, ℕ, zero, suc, ◌+◌, ◌<◌, eqb, length, get_or}
use Rattle.std.proofs.Math.Option.{Option, some, none}
use Rattle.std.proofs.lemmas.List.Edits.{sets}
use Rattle.gid.specs.declared.Edge.{Edge}
use Rattle.gid.specs.declared.Update.{Update}
use Rattle.gid.specs.Histories.{added}
use Rattle.tables.specs.declared.Graph.{Graph}
use Rattle.tables.specs.Tables.{Tables}

-- Whether the step at a place of the list is "equal in from, to and key" to e (document 02, #103).
abbrev pub is_equal_at : (from to key : List ℕ) → Edge → ℕ → Bool
is_equal_at from to key e p = eqb (get_or from p 0) e.from && (eqb (get_or to p 0) e.to && eqb (get_or key p 0) e.key)

-- The first number below m that passes a test, if one does.
unfoldable pub first_below : (ℕ → Bool) → ℕ → Option ℕ
first_below f zero = none
first_below f (suc m) = elim (first_below f m) [ none ↦ cond (f m) (some m) none | some p ↦ some p ]

-- "the first place of an equal step or that there is none", among the m listed steps.
abbrev pub first_place : ℕ → (from to key : List ℕ) → Edge → Option ℕ
first_place m from to key e = first_below (is_equal_at from to key e) m

abbrev pub is_found : Option ℕ → Bool
is_found none = false
is_found (some p) = true

-- Whether a step equal to e is one of the m listed.
abbrev pub is_listed_in : ℕ → (from to key : List ℕ) → Edge → Bool
is_listed_in m from to key e = is_found (first_place m from to key e)

-- "fitting tables hold no two equal steps": none among the m listed.
abbrev pub Distinct : ℕ → (from to key : List ℕ) → Type 0
Distinct m from to key = (p q : ℕ) → p < q → q < m → get_or from p 0 ≡ get_or from q 0 → get_or to p 0 ≡ get_or to q 0 → get_or key p 0 ≡ get_or key q 0 → ⊥

-- So of lent tables, with as many steps as the state value says; and what an update adds to their step list.
abbrev pub listed_on : Graph → Tables → Edge → Bool
listed_on g t = is_listed_in g.steps t.from t.to t.key

abbrev pub added_on : Graph → Tables → Update → List Edge
added_on g t = added (listed_on g t)

-- The state value once steps are added.
abbrev pub graph_after : Graph → List Edge → Graph
graph_after g l = record { n = g.n; limit = g.limit; steps = g.steps + length l }

-- The step list, "in order of acceptance": what is added is put behind the m steps that are listed.
abbrev pub from_after : ℕ → List Edge → List ℕ → List ℕ
from_after m l from = sets from m (map (λ (e : Edge). e.from) l)

abbrev pub to_after : ℕ → List Edge → List ℕ → List ℕ
to_after m l to = sets to m (map (λ (e : Edge). e.to) l)

abbrev pub key_after : ℕ → List Edge → List ℕ → List ℕ
key_after m l key = sets key m (map (λ (e : Edge). e.key) l)
