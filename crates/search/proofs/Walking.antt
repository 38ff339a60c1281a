-- A walk over the steps at v: the steps that it meets from where it stands are steps at v, and every other step at v is done. What a loop over such a walk keeps.
-- Assumes nothing.
use mathlib.Core.Path.{◌≡◌, ◌∙◌}
use mathlib.Core.Logic.{◌⊎◌, inl, inr, ⊎_elim}
use mathlib.Core.List.{List}
use Prim.Native.Nat.{ℕ, suc, ◌-◌, ◌≤◌, ◌<◌}
use native.Mathlib.Omega.{arith}
use Rattle.std.specs.Prelude.{Some, None}
use Rattle.adjacency.specs.Walks.{next_at, Standing, Turn, Starts, Meets, now', later, Linked}
use Rattle.adjacency.proofs.Walks.{first_inside, clamp_below, meets_none, meets_step, meets_inside}
use lib.ListN.{get_or}

-- a step at v is among the first m
pub linked_inside : (head next : List ℕ) (m v : ℕ) {i : ℕ} → Linked head next m v i → i < m
linked_inside head next m v k = omega (arith, meets_inside k, first_inside head m v)

pub record Walking (head next : List ℕ) (m v : ℕ) (Done : ℕ → Type 0) (w : Standing) : Type 0 where
  pub inside : w.at ≤ m
  pub goes_by : w.next ≡ next
  pub only : (i : ℕ) → Meets next i w.at → Linked head next m v i
  pub rest : (i : ℕ) → Linked head next m v i → Done i ⊎ Meets next i w.at

module _ {head next : List ℕ} {m v : ℕ} {Done : ℕ → Type 0} where
  pub walk_first : {w : Standing} → Starts head next m v w → Walking head next m v Done w
  walk_first {w} (e, b) =
      record {
        inside = omega (arith, first_inside head m v);
        goes_by = b;
        only = λ i k. rw e at k;
        rest = λ i k. inr (rw e k);
      }

  module _ {w : Standing} (walk : Walking head next m v Done w) where
    -- the step where it stands
    pub walk_here : (p : ℕ) {w' : Standing} → Turn w (Some p) w' → Linked head next m v p
    walk_here p (e, _, _) = walk.only p (now' (omega arith))

    pub walk_next : (p : ℕ) {w' : Standing} → Turn w (Some p) w' → Done p → Walking head next m v Done w'
    walk_next p {w'} (e, at, by) d =
        record {
          inside = let l = clamp_below (get_or w.next (w.at - 1) 0) w.at (omega arith) in omega (arith, walk.inside);
          goes_by = by ∙ walk.goes_by;
          only = λ i k. walk.only i (rw place (later (rw there at k)));
          rest = λ i k. ⊎_elim inl (λ q. ⊎_elim (λ z. inl (rw z d)) (λ q. inr (rw there q)) (meets_step (rw place at q))) (walk.rest i k);
        }
      where
        place : w.at ≡ suc p
        place = omega arith

        there : w'.at ≡ next_at next (suc p)
        there = rw (← place, ← walk.goes_by) at

    pub walk_end : {w' : Standing} → Turn w None w' → (i : ℕ) → Linked head next m v i → Done i
    walk_end (z, _) i k = ⊎_elim (λ d. d) (λ q. absurd (meets_none (rw z at q))) (walk.rest i k)

    -- what was done stays done
    pub walk_done : {Done' : ℕ → Type 0} → ((i : ℕ) → Done i → Done' i) → Walking head next m v Done' w
    walk_done f = record { inside = walk.inside; goes_by = walk.goes_by; only = walk.only; rest = λ i k. ⊎_elim (λ d. inl (f i d)) inr (walk.rest i k) }
