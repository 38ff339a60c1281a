-- The laws of walks: a walk falls and stays inside on tables with any contents; where the list rule holds it meets exactly the listed steps with that end; and a step put in front keeps the rule.
-- Assumes nothing.
use mathlib.Core.Path.{◌≡◌, refl, sym, ◌∙◌, subst, ap}
use mathlib.Core.Logic.{◌↔◌, ◌⊎◌, inl, inr}
use mathlib.Core.Bool.{Bool, true, false, cond}
use mathlib.Core.List.{List}
use Prim.Native.Nat.{ℕ, zero, suc, ◌+◌, ◌-◌, ◌<◌, ◌≤◌}
use native.Mathlib.Omega.{arith}
use native.Mathlib.Numerals.{add-one}
use native.Mathlib.Decide.{ℕ_discrete}
use lib.Dec.{ltb, eqb}
use lib.ListN.{length, get_or}
use lib.Seq.{get_or-set_same, get_or-set_other}
use borrow.Author.Tests.{lt-ltb, ltb-true, eq-eqb, ne_eqb}
use Rattle.tables.specs.Work.{last_before, ListRule}
use Rattle.adjacency.specs.Walks.{clamp, first_at, next_at, Meets, now', later, Linked, Pushed}

-- An entry that passes is below the bound, and any other is 0.
pub clamp_below : (e b : ℕ) → 0 < b → clamp e b < b
clamp_below e b h = at (ltb e b) refl
  where
    at : (t : Bool) → ltb e b ≡ t → cond t e 0 < b
    at true q = ltb-true e b q
    at false q = h

pub clamp_keeps : (e b : ℕ) → e < b → clamp e b ≡ e
clamp_keeps e b h = rw (lt-ltb e b h)

pub first_inside : (head : List ℕ) (m v : ℕ) → first_at head m v ≤ m
first_inside head m v = let h = clamp_below (get_or head v 0) (m + 1) (omega arith) in omega arith

-- A walk at its end meets nothing; elsewhere it meets where it stands, and what it meets from the next place.
pub meets_none : {next : List ℕ} {i : ℕ} → Meets next i 0 → ⊥
meets_none m = at m refl
  where
    at : {next : List ℕ} {i k : ℕ} → Meets next i k → k ≡ 0 → ⊥
    at (now' e) z = omega arith
    at (later m) z = omega arith

pub meets_step : {next : List ℕ} {i p : ℕ} → Meets next i (suc p) → (i ≡ p) ⊎ Meets next i (next_at next (suc p))
meets_step {next} {i} {p} m = at m refl
  where
    at : {k : ℕ} → Meets next i k → k ≡ suc p → (i ≡ p) ⊎ Meets next i (next_at next (suc p))
    at (now' e) z = inl (omega arith)
    at (later {at = a} m) z = inr (subst (λ (q : ℕ). Meets next i (next_at next q)) z m)

-- What a walk meets is behind where it stands.
pub meets_inside : {next : List ℕ} {i at : ℕ} → Meets next i at → i < at
meets_inside (now' e) = omega arith
meets_inside {next} (later {at = a} m) =
    let h = meets_inside m in
    let b = clamp_below (get_or next (suc a - 1) 0) (suc a) (omega arith) in
    omega arith

pub last_none : (ends : List ℕ) (v : ℕ) → last_before ends 0 v ≡ 0
unfolding last_before
last_none ends v = refl

-- lastBefore: what it is where the last place has v, and where it has not
pub last_here : (ends : List ℕ) (b v : ℕ) → get_or ends b 0 ≡ v → last_before ends (suc b) v ≡ suc b
unfolding last_before
last_here ends b v e = rw (eq-eqb (get_or ends b 0) v e)

pub last_earlier : (ends : List ℕ) (b v : ℕ) → (get_or ends b 0 ≡ v → ⊥) → last_before ends (suc b) v ≡ last_before ends b v
unfolding last_before
last_earlier ends b v n = rw (ne_eqb (get_or ends b 0) v n)

pub last_inside : (ends : List ℕ) (b v : ℕ) → last_before ends b v ≤ b
unfolding last_before
last_inside ends zero v = omega arith
last_inside ends (suc b) v = at (eqb (get_or ends b 0) v) (last_inside ends b v)
  where
    at : (t : Bool) → last_before ends b v ≤ b → cond t (suc b) (last_before ends b v) ≤ suc b
    at true i = omega arith
    at false i = omega arith

-- it turns on the places below b alone
pub last_same : (xs ys : List ℕ) (b v : ℕ) → ((i : ℕ) → i < b → get_or xs i 0 ≡ get_or ys i 0) → last_before xs b v ≡ last_before ys b v
unfolding last_before
last_same xs ys zero v e = refl
last_same xs ys (suc b) v e = rw (e b (omega arith), last_same xs ys b v (λ i h. e i (omega arith)))

module _ {n m : ℕ} {ends head next : List ℕ} (rule : ListRule n m ends head next) where
  -- From the last place below b, a walk meets exactly the places below b that have v.
  walk_below : (b v : ℕ) → b ≤ m → (i : ℕ) → Meets next i (last_before ends b v) ↔ ((i < b) × (get_or ends i 0 ≡ v))
  walk_below zero v h i = (λ k. absurd (meets_none (rw (last_none ends v) at k)), λ p. absurd (omega arith))
  walk_below (suc b) v h i = at (ℕ_discrete (get_or ends b 0) v) (walk_below b v (omega arith) i)
    where
      at : Dec (get_or ends b 0 ≡ v) → Meets next i (last_before ends b v) ↔ ((i < b) × (get_or ends i 0 ≡ v)) → Meets next i (last_before ends (suc b) v) ↔ ((i < suc b) × (get_or ends i 0 ≡ v))
      at (yes e) w = (λ k. to (meets_step (rw (last_here ends b v e) at k)), λ p. rw (last_here ends b v e) (of p (ℕ_discrete i b)))
        where
          behind : next_at next (suc b) ≡ last_before ends b v
          behind =
              let k : suc b - 1 ≡ b = omega arith in
              let q : get_or next (suc b - 1) 0 ≡ last_before ends b v = rw (k, rule.nexts b h, e) in
              rw q (clamp_keeps (last_before ends b v) (suc b) (let l = last_inside ends b v in omega arith))

          to : (i ≡ b) ⊎ Meets next i (next_at next (suc b)) → (i < suc b) × (get_or ends i 0 ≡ v)
          to (inl q) = (omega arith, rw q e)
          to (inr k) = let p = w.0 (rw behind at k) in (omega arith, p.1)

          of : (i < suc b) × (get_or ends i 0 ≡ v) → Dec (i ≡ b) → Meets next i (suc b)
          of p (yes q) = now' (ap suc (sym q))
          of p (no d) = later {at = b} (rw behind (w.1 (omega arith, p.1)))
      at (no d) w = (
        λ k. let p = w.0 (rw (last_earlier ends b v d) at k) in (omega arith, p.1),
        λ p. rw (last_earlier ends b v d) (w.1 (lower p (ℕ_discrete i b), p.1)),
      )
        where
          lower : (i < suc b) × (get_or ends i 0 ≡ v) → Dec (i ≡ b) → i < b
          lower p (yes q) = absurd (d (rw q at p.1))
          lower p (no q) = omega arith

  -- Walking gives exactly the listed steps with that end.
  pub linked : (v : ℕ) → v < n → (i : ℕ) → Linked head next m v i ↔ ((i < m) × (get_or ends i 0 ≡ v))
  linked v h i =
      let e : first_at head m v ≡ last_before ends m v = rw (rule.heads v h) (clamp_keeps (last_before ends m v) (m + 1) (let l = last_inside ends m v in omega arith)) in
      rw e (walk_below m v (omega arith) i)

-- Putting a new step in front keeps the rule.
module _ {n m v : ℕ} {ends : List ℕ} (ends' : List ℕ) {head next head' next' : List ℕ} (rule : ListRule n m ends head next) (pushed : Pushed head next v m head' next') (in_head : n ≤ length head) (in_next : m < length next) (range : v < n) (older : (i : ℕ) → i < m → get_or ends' i 0 ≡ get_or ends i 0) (newest : get_or ends' m 0 ≡ v) where
  same_last : (b w : ℕ) → b ≤ m → last_before ends b w ≡ last_before ends' b w
  same_last b w h = last_same ends ends' b w (λ i k. sym (older i (omega arith)))

  heads_after : (w : ℕ) → w < n → Dec (w ≡ v) → get_or head' w 0 ≡ last_before ends' (suc m) w
  heads_after w h (yes e) = rw (e, pushed.front, get_or-set_same head v (m + 1) 0 (omega arith), last_here ends' m v newest) (omega arith)
  heads_after w h (no d) =
      rw (pushed.front, get_or-set_other head v w (m + 1) 0 d, rule.heads w h, same_last m w (omega arith), last_earlier ends' m w (λ e. d (sym e ∙ newest)))

  nexts_after : (p : ℕ) → p < m + 1 → Dec (p ≡ m) → get_or next' p 0 ≡ last_before ends' p (get_or ends' p 0)
  nexts_after p h (yes e) = rw (e, pushed.behind, get_or-set_same next m (get_or head v 0) 0 in_next, newest, rule.heads v range, same_last m v (omega arith))
  nexts_after p h (no d) =
      rw (pushed.behind, get_or-set_other next m p (get_or head v 0) 0 d, rule.nexts p (omega arith), older p (omega arith), same_last p (get_or ends p 0) (omega arith))

  pub push_keeps : ListRule n (m + 1) ends' head' next'
  push_keeps =
      record {
        heads = λ w h. rw (add-one m) (heads_after w h (ℕ_discrete w v));
        nexts = λ p h. nexts_after p h (ℕ_discrete p m);
      }
