-- The starts of a verdict are gathered one by one; one spread from them visits exactly what is reached from a start.
-- Assumes nothing.
use mathlib.Core.Path.{◌≡◌, refl, sym, ◌∙◌}
use mathlib.Core.Logic.{◌↔◌, inr, ⊎_elim}
use mathlib.Core.Bool.{Bool, true, false, not, ◌||◌, false≢true, true≢false}
use mathlib.Core.List.{List}
use Prim.Native.Nat.{ℕ, ◌+◌, ◌<◌, ◌≤◌}
use native.Mathlib.Omega.{arith}
use native.Mathlib.Decide.{ℕ_discrete}
use lib.Dec.{eqb}
use lib.ListN.{length, get_or}
use borrow.Author.Tests.{eqb-true, eq-eqb}
use Rattle.gid.specs.Systems.{Arcs}
use Rattle.tables.specs.Tables.{visited_length}
use Rattle.tables.specs.Visits.{NoneVisited, marked}
use Rattle.tables.specs.Keeping.{filled}
use Rattle.tables.proofs.Keeping.{kept_none, kept_trans, kept_set, filled_at, filled_kept}
use Rattle.tables.proofs.Marking.{marked_mark_other, kept_mark, zeros_unvisited}
use Rattle.search.specs.declared.spread.Span.{Span}
use Rattle.search.specs.Offering.{Admitted}
use Rattle.search.specs.Spreading.{Mode, allowed, Reached, start, back, unless, Before, Spread}
use Rattle.search.proofs.Counting.{count_most}
use Rattle.search.proofs.Marking.{unvisited_mark}
use Rattle.search.proofs.Offering.{queued_more, queued_which, queued_still, queued_here}
use Rattle.audit.specs.Facts.{All, Passes, Backs, starts_at, covered}
use Rattle.audit.specs.Parts.{Gathered, Answered}
use Rattle.audit.proofs.Reading.{both_true}

module _ (starting : ℕ → Bool) {n : ℕ} {v₀ q₀ : List ℕ} where
  pub gathered_none : 0 < n → NoneVisited n v₀ → Gathered 0 n starting v₀ q₀ v₀ q₀ (record { len = 0; low = n; high = 0 })
  gathered_none h none =
      record {
        queued =
            record {
              inside = λ j k. absurd (omega arith);
              seen = λ j k. absurd (omega arith);
              within = λ j k. absurd (omega arith);
              top = h;
              room = omega (arith, count_most n (λ s. not (marked v₀ s)));
            };
        exact = λ w. (λ b. absurd (omega (arith, b.1)), λ p. absurd (omega (arith, p.0)));
        only = λ w k m. absurd (true≢false (sym m ∙ none w k));
        visits = kept_none (visited_length n) v₀;
        queues = kept_none n q₀;
      }

  module _ {k : ℕ} {v q : List ℕ} {s : Span} (g : Gathered k n starting v₀ q₀ v q s) (h : k < n) (in_v₀ : visited_length n ≤ length v₀) (in_q₀ : n ≤ length q₀) where
    in_v : visited_length n ≤ length v
    in_v = omega (arith, g.visits.size)

    in_q : n ≤ length q
    in_q = omega (arith, g.queues.size)

    new : marked v k ≡ false
    new = at (marked v k) refl
      where
        at : (b : Bool) → marked v k ≡ b → b ≡ false
        at true z = absurd (omega (arith, (g.only k h z).0))
        at false z = refl

    -- The queue has room for one more.
    pub gathered_room : s.len < n
    gathered_room = omega (arith, unvisited_mark v k n h in_v new, g.queued.room)

    newer : {w : ℕ} → Passes k starting w → Passes (k + 1) starting w
    newer (l, e) = (omega arith, e)

    -- a start below k, or k itself
    older : {w : ℕ} (P : Type 0) → (Passes k starting w → P) → (w ≡ k → starting k ≡ true → P) → Passes (k + 1) starting w → P
    older {w} P f z (l, e) = at (ℕ_discrete w k)
      where
        at : Dec (w ≡ k) → P
        at (yes d) = z d (rw d at e)
        at (no d) = f (omega arith, e)

    pub gathered_passed : starting k ≡ false → Gathered (k + 1) n starting v₀ q₀ v q s
    gathered_passed e =
        record {
          queued = g.queued;
          exact = λ w. (λ b. newer ((g.exact w).0 b), older (Before q s.len w) (g.exact w).1 (λ d y. absurd (false≢true (sym e ∙ y))));
          only = λ w l m. newer (g.only w l m);
          visits = g.visits;
          queues = g.queues;
        }

    pub gathered_admitted : {v' q' : List ℕ} {s' : Span} → starting k ≡ true → Admitted k v q s v' q' s' → Gathered (k + 1) n starting v₀ q₀ v' q' s'
    gathered_admitted {v'} {q'} {s'} e adm =
        let r = g.queued.room in
        record {
          queued = queued_more n k r in_v in_q h new adm g.queued;
          exact = λ w. (
            λ b. ⊎_elim (λ c. newer ((g.exact w).0 c)) (λ d. rw d (omega arith, e)) (queued_which n k r in_v in_q h new adm w b),
            older (Before q' s'.len w) (λ p. queued_still n k r in_v in_q h new adm w ((g.exact w).1 p)) (λ d y. rw d (queued_here n k r in_v in_q h new adm)),
          );
          only = λ w l m. at w l m (ℕ_discrete w k);
          visits = kept_trans g.visits (rw adm.marks (kept_mark v k n h));
          queues = kept_trans g.queues (rw adm.last (kept_set n q s.len k gathered_room));
        }
      where
        at : (w : ℕ) → w < n → marked v' w ≡ true → Dec (w ≡ k) → Passes (k + 1) starting w
        at w l m (yes d) = rw d (omega arith, e)
        at w l m (no d) = newer (g.only w l (sym (marked_mark_other v k w d) ∙ (rw adm.marks at m)))

pub reached_range : {n : ℕ} {Arc : Arcs} {ok : ℕ → ℕ → Bool} {f : ℕ → Bool} {w : ℕ} → Reached n Arc ok (Passes n f) w → w < n
reached_range (start p) = p.0
reached_range (back r l h o) = h

-- A spread from the gathered starts.
module _ {starting : ℕ → Bool} {n : ℕ} {Arc : Arcs} {ok : ℕ → ℕ → Bool} {v₀ q₀ v q v' q' : List ℕ} {s r : Span} (g : Gathered n n starting v₀ q₀ v q s) (d : Spread n Arc ok v q s v' q' r) where
  loosen : {w : ℕ} → Reached n Arc (unless v ok) (Before q s.len) w → Reached n Arc ok (Passes n starting) w
  loosen {w} (start b) = start ((g.exact w).0 b)
  loosen (back {i = i} {s = w} c l h o) = back (loosen c) l h (both_true (not (marked v w)) (ok w i) o).1

  tighten : {w : ℕ} → Reached n Arc ok (Passes n starting) w → Reached n Arc (unless v ok) (Before q s.len) w
  tighten {w} (start p) = start ((g.exact w).1 p)
  tighten (back {v = x} {i = i} {s = w} c l h o) = at (marked v w) refl (tighten c)
    where
      at : (b : Bool) → marked v w ≡ b → Reached n Arc (unless v ok) (Before q s.len) x → Reached n Arc (unless v ok) (Before q s.len) w
      at true z e = start ((g.exact w).1 (g.only w h z))
      at false z e = back e l h (rw z o)

  reaches : (w : ℕ) → w < n → (marked v' w ≡ true) ↔ Reached n Arc ok (Passes n starting) w
  reaches w h = (λ m. ⊎_elim (λ z. start (g.only w h z)) loosen ((d.exact w h).0 m), λ c. (d.exact w h).1 (inr (tighten c)))

covered_marked : (verdict : ℕ) (status visited : List ℕ) (s : ℕ) → covered verdict status visited s ≡ true → get_or status s 0 ≡ verdict → marked visited s ≡ true
unfolding covered
covered_marked verdict status visited s e k = rw (eq-eqb (get_or status s 0) verdict k) at e

marked_covered : (verdict : ℕ) (status visited : List ℕ) (s : ℕ) → (get_or status s 0 ≡ verdict → marked visited s ≡ true) → covered verdict status visited s ≡ true
unfolding covered
marked_covered verdict status visited s f = at (eqb (get_or status s 0) verdict) refl
  where
    at : (b : Bool) → eqb (get_or status s 0) verdict ≡ b → not b || marked visited s ≡ true
    at true z = f (eqb-true (get_or status s 0) verdict z)
    at false z = refl

-- Whether each state with the verdict was visited; the marks are cleared.
pub answered :
    {n : ℕ} {Arc : Arcs} {v₀ q₀ v q v' q' v'' : List ℕ} {s r : Span} {b : Bool} (mode : Mode) (verdict : ℕ) (status marks successor : List ℕ) →
    Gathered n n (starts_at verdict status marks) v₀ q₀ v q s →
    Spread n Arc (allowed mode status successor) v q s v' q' r →
    (b ≡ true) ↔ All n (covered verdict status v') →
    visited_length n ≤ length v' →
    {k : ℕ} → k ≡ visited_length n →
    v'' ≡ filled k 0 v' →
    Answered n (Backs n Arc mode verdict status marks successor) v₀ q₀ v'' q' b
answered {n = n} {v' = v'} {v'' = v''} mode verdict status marks successor g d t w e z =
    record {
      exact = (
        λ y s h k. (reaches g d s h).0 (covered_marked verdict status v' s (t.0 y s h) k),
        λ b. t.1 (λ s h. marked_covered verdict status v' s (λ k. (reaches g d s h).1 (b s h k))),
      );
      none = zeros_unvisited n v'' (λ s h. rw (z, e) (filled_at (visited_length n) 0 v' s h));
      visits = kept_trans g.visits (kept_trans d.visits (rw (z, e) (filled_kept (visited_length n) 0 v' w)));
      queues = kept_trans g.queues d.queues;
    }

-- Two claims in turn.
module _ {n : ℕ} {P Q : Type 0} {v q v' q' : List ℕ} {r : Bool} (first : Answered n P v q v' q' r) where
  pub both_answered : {v'' q'' : List ℕ} {s : Bool} → r ≡ true → Answered n Q v' q' v'' q'' s → Answered n (P × Q) v q v'' q'' s
  both_answered e second =
      record {
        exact = (λ y. (first.exact.0 e, second.exact.0 y), λ p. second.exact.1 p.1);
        none = second.none;
        visits = kept_trans first.visits second.visits;
        queues = kept_trans first.queues second.queues;
      }

  pub first_denied : r ≡ false → Answered n (P × Q) v q v' q' r
  first_denied e =
      record {
        exact = (λ y. absurd (false≢true (sym e ∙ y)), λ p. first.exact.1 p.0);
        none = first.none;
        visits = first.visits;
        queues = first.queues;
      }

-- What a check leaves in its work tables, as their lender has it.
pub answered_lent : {n : ℕ} {P : Type 0} {visited queue visited' queue' v q : List ℕ} {r : Bool} → Answered n P visited queue visited' queue' r → v ≡ visited' → q ≡ queue' → Answered n P visited queue v q r
answered_lent a v q = rw (v, q) a
