-- What each part of the table check does, on tables with any contents.
-- Assumes nothing.
use Rattle.std.specs.Prelude.{◌≡◌, ◌↔◌, Bool, true, false, List, ℕ, ◌+◌, ◌-◌, ◌≤◌, ◌<◌, get_or, set}
use Rattle.gid.specs.Statuses.{status_unknown, status_live}
use Rattle.gid.specs.Systems.{Arcs}
use Rattle.tables.specs.Tables.{Tables}
use Rattle.tables.specs.Work.{ListRule, last_before}
use Rattle.tables.specs.Bits.{has_bit, with_bit}
use Rattle.tables.specs.Visits.{NoneVisited, marked}
use Rattle.tables.specs.Fitting.{AllBelow}
use Rattle.tables.specs.Keeping.{Kept, KeptVisited}
use Rattle.search.specs.declared.spread.Span.{Span}
use Rattle.search.specs.Spreading.{Tree, Claimed, Before, Queued}
use Rattle.audit.specs.Facts.{All, Passes, state_fits, step_fits, key_fits, steps_into, Backs, TableFacts}

-- The ends of the first m steps are states.
abbrev pub Below : ℕ → ℕ → List ℕ → Type 0
Below n m ends = (p : ℕ) → p < m → get_or ends p 0 < n

-- The first n entries of two tables are equal.
abbrev pub Same : ℕ → List ℕ → List ℕ → Type 0
Same n a b = (v : ℕ) → v < n → get_or a v 0 ≡ get_or b v 0

-- The half of the list rule that speaks of next entries.
abbrev pub Nexts : ℕ → List ℕ → List ℕ → Type 0
Nexts m ends next = (p : ℕ) → p < m → get_or next p 0 ≡ last_before ends p (get_or ends p 0)

-- The table holds, for each state, the last of the first m steps with that end.
abbrev pub LastSteps : ℕ → ℕ → List ℕ → List ℕ → Type 0
LastSteps n m ends last = (v : ℕ) → v < n → get_or last v 0 ≡ last_before ends m v

pub record NextsFit (n m : ℕ) (ends next last last' : List ℕ) (r : Bool) : Type 0 where
  pub exact : (r ≡ true) ↔ Nexts m ends next
  pub lasts : r ≡ true → LastSteps n m ends last'
  pub kept : Kept n last last'

pub record ListFits (n m : ℕ) (ends head next last last' : List ℕ) (r : Bool) : Type 0 where
  pub exact : (r ≡ true) ↔ ListRule n m ends head next
  pub kept : Kept n last last'

-- A key is one of the 16 from a base.
abbrev pub KeyIn : ℕ → ℕ → Type 0
KeyIn base k = (base ≤ k) × (k < base + 16)

-- The step from u with the key k is noted at u by its bit, where k is in the range and no step like it was.
pub data Noted (base u k : ℕ) (seen seen' : List ℕ) (r : Bool) : Type 0 where
  outside : r ≡ true → (KeyIn base k → ⊥) → seen' ≡ seen → Noted base u k seen seen' r
  again : r ≡ false → KeyIn base k → has_bit (k - base) (get_or seen u 0) ≡ true → seen' ≡ seen → Noted base u k seen seen' r
  new : r ≡ true → KeyIn base k → has_bit (k - base) (get_or seen u 0) ≡ false → seen' ≡ set seen u (with_bit (k - base) (get_or seen u 0)) → Noted base u k seen seen' r

-- No two steps into v have the same source and the same key, in the range.
abbrev pub Apart : ℕ → Arcs → List ℕ → ℕ → Type 0
Apart base Arc key v = (u p q : ℕ) → p < q → Arc u p v → Arc u q v → get_or key p 0 ≡ get_or key q 0 → KeyIn base (get_or key p 0) → ⊥

abbrev pub ApartAll : ℕ → ℕ → Arcs → List ℕ → Type 0
ApartAll base n Arc key = (v : ℕ) → v < n → Apart base Arc key v

-- So it is in both ranges of keys.
abbrev pub ApartKeys : ℕ → Arcs → List ℕ → Type 0
ApartKeys n Arc key = ApartAll 0 n Arc key × ApartAll 16 n Arc key

-- Only entries of sources of steps into v are not 0.
abbrev pub FromSources : ℕ → Arcs → ℕ → List ℕ → Type 0
FromSources n Arc v seen = (u : ℕ) → u < n → (get_or seen u 0 ≡ 0 → ⊥) → (p : ℕ) × Arc u p v

pub record SourcesNoted (base n : ℕ) (Arc : Arcs) (key : List ℕ) (v : ℕ) (seen seen' : List ℕ) (r : Bool) : Type 0 where
  pub exact : (r ≡ true) ↔ Apart base Arc key v
  pub noted : FromSources n Arc v seen'
  pub kept : Kept n seen seen'

-- Whether steps differ, as P says. After a yes nothing is noted.
pub record Differ (n : ℕ) (P : Type 0) (seen seen' : List ℕ) (r : Bool) : Type 0 where
  pub exact : (r ≡ true) ↔ P
  pub blank : r ≡ true → AllBelow n 0 seen'
  pub kept : Kept n seen seen'

-- Exactly the starts below k, of n states, are queued and visited.
pub record Gathered (k n : ℕ) (start : ℕ → Bool) (visited queue visited' queue' : List ℕ) (span : Span) : Type 0 where
  pub queued : Queued n visited' queue' span
  pub exact : (w : ℕ) → Before queue' span.len w ↔ Passes k start w
  pub only : (w : ℕ) → w < n → marked visited' w ≡ true → Passes k start w
  pub visits : KeptVisited n visited visited'
  pub queues : Kept n queue queue'

-- Whether a claim P holds. No state is left visited.
pub record Answered (n : ℕ) (P : Type 0) (visited queue visited' queue' : List ℕ) (r : Bool) : Type 0 where
  pub exact : (r ≡ true) ↔ P
  pub none : NoneVisited n visited'
  pub visits : KeptVisited n visited visited'
  pub queues : Kept n queue queue'

-- What the statuses claim: that each live state is backed by a terminal one, and each unknown state by an open one.
abbrev pub Claims : ℕ → Arcs → (status marks successor : List ℕ) → Type 0
Claims n Arc status marks successor =
    Backs n Arc Claimed status_live status marks successor × Backs n Arc Tree status_unknown status marks successor

-- The facts that the entries of a state, of a step or of a key tell by themselves.
abbrev pub EntriesFit : ℕ → ℕ → Tables → Type 0
EntriesFit n m t =
    All n (state_fits m t.status t.marks t.from t.successor t.in_head t.out_head t.visited)
    × All m (λ p. step_fits n t.status t.marks (get_or t.from p 0) (get_or t.to p 0))
    × All m (λ p. key_fits (get_or t.key p 0))

-- Whether the lists of steps are right, and no two steps that walks meet are equal.
pub record ListsJudged (n m : ℕ) (t : Tables) (queue' : List ℕ) (r : Bool) : Type 0 where
  pub exact : (r ≡ true) ↔ (ListRule n m t.to t.in_head t.in_next × ListRule n m t.from t.out_head t.out_next × ApartKeys n (steps_into n m t) t.key)
  pub kept : Kept n t.queue queue'

-- Whether the facts hold. After a yes no state is marked visited.
pub record Judged (n m : ℕ) (t : Tables) (r : Bool) (queue' visited' : List ℕ) : Type 0 where
  pub exact : (r ≡ true) ↔ TableFacts n m t
  pub none : r ≡ true → NoneVisited n visited'
  pub visits : KeptVisited n t.visited visited'
  pub queues : Kept n t.queue queue'
