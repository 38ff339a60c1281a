-- Walks over the chained steps of a state, on tables with any contents.
-- Assumes nothing.
use Rattle.std.specs.Prelude.{◌≡◌, cond, List, ℕ, suc, ◌-◌, ◌+◌, ltb, get_or, set, Option, MatchOption}

-- An entry that is below a bound, and 0 for any other: "an entry that is not smaller, or is above the number of steps, ends" the walk.
abbrev pub clamp : ℕ → ℕ → ℕ
clamp entry bound = cond (ltb entry bound) entry 0

-- Where a walk stands first, and next: 1 + the index of a step, or 0 at its end.
abbrev pub first_at : List ℕ → ℕ → ℕ → ℕ
first_at head m v = clamp (get_or head v 0) (m + 1)

abbrev pub next_at : List ℕ → ℕ → ℕ
next_at next at = clamp (get_or next (at - 1) 0) at

-- A walk: where it stands, and the entries by which it goes on.
pub record Standing : Type 0 where
  pub at : ℕ
  pub next : List ℕ

-- A turn of a walk: the step where it stands, and it goes on to the next place; or none at its end, where it stays.
abbrev pub Turn : Standing → Option ℕ → Standing → Type 0
Turn w r w' = MatchOption r ((w.at ≡ 0) × (w' ≡ w)) (λ p. (w.at ≡ p + 1) × (w'.at ≡ next_at w.next w.at) × (w'.next ≡ w.next))

-- The walk over the steps at v, among the first m.
abbrev pub Starts : List ℕ → List ℕ → ℕ → ℕ → Standing → Type 0
Starts head next m v w = (w.at ≡ first_at head m v) × (w.next ≡ next)

-- A walk that stands at `at` meets the step i.
pub data Meets (next : List ℕ) (i : ℕ) : ℕ → Type 0 where
  now' : {at : ℕ} → at ≡ suc i → Meets next i at
  later : {at : ℕ} → Meets next i (next_at next (suc at)) → Meets next i (suc at)

-- A walk over the steps at v, among the first m, meets the step i.
abbrev pub Linked : List ℕ → List ℕ → ℕ → ℕ → ℕ → Type 0
Linked head next m v i = Meets next i (first_at head m v)

-- The step p has been put in front of the steps at v.
pub record Pushed (head next : List ℕ) (v p : ℕ) (head' next' : List ℕ) : Type 0 where
  pub front : head' ≡ set head v (p + 1)
  pub behind : next' ≡ set next p (get_or head v 0)
