-- Settling, node by node: what holds when the nodes below s have been seen, and that it is all that was asked when the greatest has been.
-- Assumes nothing.
use mathlib.Core.Path.{◌≡◌, refl, sym, ◌∙◌}
use mathlib.Core.Bool.{Bool, true, false, not, cond, ◌&&◌, and-true, and-false}
use mathlib.Core.List.{List, [], ◌∷◌, ◌++◌, append-nil}
use Prim.Native.Nat.{ℕ, suc, ◌+◌, ◌≤◌, ◌<◌}
use native.Mathlib.Omega.{arith}
use native.Mathlib.Numerals.{add-one}
use native.Mathlib.Decide.{ℕ_discrete}
use lib.Dec.{ltb, leb}
use lib.ListN.{length, get_or, set, take, length-set}
use lib.Seq.{get_or-set_same, get_or-set_other, take-suc-set}
use borrow.Author.Tests.{lt-ltb, le-ltb, ltb-true, ltb-false, le-leb, lt-leb}
use Rattle.gid.specs.News.{below}
use Rattle.gid.specs.Successors.{no_successor}
use Rattle.gid.proofs.News.{below_none, below_more}
use Rattle.tables.specs.Tables.{visited_length}
use Rattle.tables.specs.Visits.{HasMark, marked, unmark, NoneBetween}
use Rattle.tables.specs.Keeping.{KeptVisited}
use Rattle.tables.proofs.Keeping.{kept_none, kept_trans}
use Rattle.tables.proofs.Marking.{has-mark, marked_unmark, marked_unmark_other, kept_unmark}
use Rattle.search.specs.Settling.{told_all, settled_from, Settled, SettledOne, passed, settled}

-- The news of two lists of nodes, one behind the other; and of nodes that each name themselves.
told_append : (l m : List ℕ) → told_all (l ++ m) ≡ told_all l ++ told_all m
told_append [] m = refl
told_append (x ∷ l) m = rw (told_append l m)

pub told_same : (l : List ℕ) → told_all l ≡ l
told_same [] = refl
told_same (x ∷ l) = rw (told_same l)

-- Of the nodes that are settled, those below s.
abbrev pub settled_to : ℕ → ℕ → List ℕ → ℕ → ℕ → Bool
settled_to low high vi s r = ltb r s && settled_from low high vi r

module _ (low high : ℕ) (vi : List ℕ) where
  settled_under : (r : ℕ) → r < low → settled_from low high vi r ≡ false
  settled_under r h = rw (lt-leb low r h)

  settled_over : (r : ℕ) → high < r → settled_from low high vi r ≡ false
  settled_over r h = at (leb low r)
    where
      at : (b : Bool) → (b && leb r high && marked vi r) ≡ false
      at true = rw (lt-leb r high h)
      at false = refl

  settled_inside : (r : ℕ) → low ≤ r → r ≤ high → settled_from low high vi r ≡ marked vi r
  settled_inside r h k = rw (le-leb low r h, le-leb r high k)

  settled_unmarked : (r : ℕ) → marked vi r ≡ false → settled_from low high vi r ≡ false
  settled_unmarked r e = rw e (and-false (leb low r && leb r high))

  to_first : (r : ℕ) → settled_to low high vi low r ≡ false
  to_first r = at (ltb r low) refl
    where
      at : (b : Bool) → ltb r low ≡ b → (b && settled_from low high vi r) ≡ false
      at true e = settled_under r (ltb-true r low e)
      at false e = refl

  to_last : (s r : ℕ) → high < s → settled_to low high vi s r ≡ settled_from low high vi r
  to_last s r h = at (ltb r s) refl
    where
      at : (b : Bool) → ltb r s ≡ b → (b && settled_from low high vi r) ≡ settled_from low high vi r
      at true e = refl
      at false e = sym (settled_over r (let k = ltb-false r s e in omega arith))

  to_here : (s : ℕ) → settled_to low high vi (s + 1) s ≡ settled_from low high vi s
  to_here s = rw (lt-ltb s (s + 1) (omega arith))

  to_other : (s r : ℕ) → (r ≡ s → ⊥) → settled_to low high vi (s + 1) r ≡ settled_to low high vi s r
  to_other s r d = at (ltb r s) refl
    where
      at : (b : Bool) → ltb r s ≡ b → settled_to low high vi (s + 1) r ≡ (b && settled_from low high vi r)
      at true e = rw (lt-ltb r (s + 1) (let k = ltb-true r s e in omega arith))
      at false e = rw (le-ltb r (s + 1) (let k = ltb-false r s e in omega arith))

  to_passed : (s r : ℕ) → settled_from low high vi s ≡ false → settled_to low high vi (s + 1) r ≡ settled_to low high vi s r
  to_passed s r e = at (ℕ_discrete r s)
    where
      at : Dec (r ≡ s) → settled_to low high vi (s + 1) r ≡ settled_to low high vi s r
      at (yes q) = rw (q, to_here s, e, le-ltb s s (omega arith))
      at (no d) = to_other s r d

  -- where none is settled from s up to t, those below s are those below t
  to_skipped : (s t r : ℕ) → s ≤ t → ((i : ℕ) → s ≤ i → i < t → settled_from low high vi i ≡ false) → settled_to low high vi t r ≡ settled_to low high vi s r
  to_skipped s t r l e = at (ltb r s) (ltb r t) refl refl
    where
      at : (a b : Bool) → ltb r s ≡ a → ltb r t ≡ b → (b && settled_from low high vi r) ≡ (a && settled_from low high vi r)
      at true true p q = refl
      at true false p q = absurd (let x = ltb-true r s p in let y = ltb-false r t q in omega arith)
      at false true p q = e r (ltb-false r s p) (ltb-true r t q)
      at false false p q = refl

  -- a table that gets w where a state is settled
  table_here : (w : ℕ) (t t' : List ℕ) (s : ℕ) → s < length t' → settled_from low high vi s ≡ true → ((r : ℕ) → get_or t' r 0 ≡ cond (settled_to low high vi s r) w (get_or t r 0)) → (r : ℕ) → get_or (set t' s w) r 0 ≡ cond (settled_to low high vi (s + 1) r) w (get_or t r 0)
  table_here w t t' s h e old r = at (ℕ_discrete r s)
    where
      at : Dec (r ≡ s) → get_or (set t' s w) r 0 ≡ cond (settled_to low high vi (s + 1) r) w (get_or t r 0)
      at (yes q) = rw (q, to_here s, e, get_or-set_same t' s w 0 h)
      at (no d) = rw (to_other s r d, get_or-set_other t' s r w 0 d) (old r)

-- The states below s have been seen, and k of them are settled.
pub record Settling (low high verdict : ℕ) (st su ne vi st' su' ne' vi' : List ℕ) (s k : ℕ) : Type 0 where
  pub from : k + low ≤ s
  pub few : k ≤ suc high
  pub status : (r : ℕ) → get_or st' r 0 ≡ cond (settled_to low high vi s r) verdict (get_or st r 0)
  pub successor : (r : ℕ) → get_or su' r 0 ≡ cond (settled_to low high vi s r) no_successor (get_or su r 0)
  pub visited : (r : ℕ) → marked vi' r ≡ (marked vi r && not (settled_to low high vi s r))
  pub front : take k ne' ≡ told_all (below s (settled_from low high vi))
  pub behind : (i : ℕ) → k ≤ i → get_or ne' i 0 ≡ get_or ne i 0
  pub statuses : length st' ≡ length st
  pub successors : length su' ≡ length su
  pub names : length ne' ≡ length ne
  pub visits : KeptVisited (suc high) vi vi'

module _ {low high verdict : ℕ} {st su ne vi : List ℕ} where
  pub settling_first : Settling low high verdict st su ne vi st su ne vi low 0
  settling_first = record {
    from = omega arith;
    few = omega arith;
    status = λ r. rw (to_first low high vi r);
    successor = λ r. rw (to_first low high vi r);
    visited = λ r. rw (to_first low high vi r) (sym (and-true (marked vi r)));
    front = rw (below_none low (settled_from low high vi) (settled_under low high vi));
    behind = λ i h. refl;
    statuses = refl;
    successors = refl;
    names = refl;
    visits = kept_none (visited_length (suc high)) vi;
  }

  -- Each node of the span has a mark.
  pub settling_mark : {st' su' ne' vi' : List ℕ} {s k : ℕ} → Settling low high verdict st su ne vi st' su' ne' vi' s k → visited_length (high + 1) ≤ length vi → (r : ℕ) → r ≤ high → HasMark vi' r
  settling_mark {vi' = vi'} p d r h = has-mark (high + 1) vi' r (omega arith) (let z = p.visits.size in omega arith)

  module _ {st' su' ne' vi' : List ℕ} {s k : ℕ} (p : Settling low high verdict st su ne vi st' su' ne' vi' s k) (h : s ≤ high) where
    settled_here : settled_from low high vi s ≡ marked vi' s
    settled_here = settled_inside low high vi s (let f = p.from in omega arith) h ∙ sym (p.visited s ∙ rw (le-ltb s s (omega arith)) (and-true (marked vi s)))

    front_next : (b : Bool) → settled_from low high vi s ≡ b → told_all (below (s + 1) (settled_from low high vi)) ≡ take k ne' ++ told_all (cond b (s ∷ []) [])
    unfolding below
    front_next b e = rw (add-one s, told_append (below s (settled_from low high vi)) (cond (settled_from low high vi s) (s ∷ []) []), p.front, e)

    next_passed : marked vi' s ≡ false → Settling low high verdict st su ne vi st' su' ne' vi' (s + 1) k
    next_passed m = record {
      from = let f = p.from in omega arith;
      few = p.few;
      status = λ r. rw (to_passed low high vi s r (settled_here ∙ m)) (p.status r);
      successor = λ r. rw (to_passed low high vi s r (settled_here ∙ m)) (p.successor r);
      visited = λ r. rw (to_passed low high vi s r (settled_here ∙ m)) (p.visited r);
      front = sym (front_next false (settled_here ∙ m) ∙ append-nil (take k ne'));
      behind = p.behind;
      statuses = p.statuses;
      successors = p.successors;
      names = p.names;
      visits = p.visits;
    }

    next_settled : high < length st → high < length su → high < length ne → visited_length (high + 1) ≤ length vi → marked vi' s ≡ true → Settling low high verdict st su ne vi (set st' s verdict) (set su' s no_successor) (set ne' k s) (unmark vi' s) (s + 1) (k + 1)
    next_settled a b c d m = record {
      from = let f = p.from in omega arith;
      few = let f = p.from in omega arith;
      status = table_here low high vi verdict st st' s (let e = p.statuses in omega arith) (settled_here ∙ m) p.status;
      successor = table_here low high vi no_successor su su' s (let e = p.successors in omega arith) (settled_here ∙ m) p.successor;
      visited = λ r. clears r (ℕ_discrete r s);
      front = rw (add-one k) (take-suc-set ne' k s (let f = p.from in let e = p.names in omega arith) ∙ sym (front_next true (settled_here ∙ m)));
      behind = λ i l. get_or-set_other ne' k i s 0 (λ e. absurd (omega arith)) ∙ p.behind i (omega arith);
      statuses = length-set st' s verdict ∙ p.statuses;
      successors = length-set su' s no_successor ∙ p.successors;
      names = length-set ne' k s ∙ p.names;
      visits = kept_trans p.visits (kept_unmark vi' s (suc high) (omega arith));
    }
      where
        clears : (r : ℕ) → Dec (r ≡ s) → marked (unmark vi' s) r ≡ (marked vi r && not (settled_to low high vi (s + 1) r))
        clears r (yes e) = rw (e, to_here low high vi s, settled_here, m, marked_unmark vi' s (settling_mark p d s h)) (sym (and-false (marked vi s)))
        clears r (no n) = marked_unmark_other vi' s r n ∙ rw (to_other low high vi s r n) (p.visited r)

  pub settling_next : {st' su' ne' vi' st'' su'' ne'' vi'' : List ℕ} {s k k' : ℕ} → Settling low high verdict st su ne vi st' su' ne' vi' s k → s ≤ high → high < length st → high < length su → high < length ne → visited_length (high + 1) ≤ length vi → SettledOne s verdict k st' su' ne' vi' st'' su'' ne'' vi'' k' → Settling low high verdict st su ne vi st'' su'' ne'' vi'' (s + 1) k'
  settling_next p h a b c d (passed m e₁ e₂ e₃ e₄ e₅) = rw (e₁, e₂, e₃, e₄, e₅) (next_passed p h m)
  settling_next p h a b c d (settled m e₁ e₂ t e₃) = rw (e₁, e₂, t.names, t.number, e₃) (next_settled p h a b c d m)

  -- Nodes that are not visited may be passed over.
  pub settling_skip : {st' su' ne' vi' : List ℕ} {s t k : ℕ} → Settling low high verdict st su ne vi st' su' ne' vi' (s + 1) k → s < t → NoneBetween vi' s t → Settling low high verdict st su ne vi st' su' ne' vi' t k
  settling_skip {vi' = vi'} {s = s} {t = t} p l n = record {
    from = let f = p.from in omega arith;
    few = p.few;
    status = λ r. rw (to_skipped low high vi (s + 1) t r (omega arith) none) (p.status r);
    successor = λ r. rw (to_skipped low high vi (s + 1) t r (omega arith) none) (p.successor r);
    visited = λ r. rw (to_skipped low high vi (s + 1) t r (omega arith) none) (p.visited r);
    front = p.front ∙ sym (rw (below_more (s + 1) t (settled_from low high vi) (omega arith) none));
    behind = p.behind;
    statuses = p.statuses;
    successors = p.successors;
    names = p.names;
    visits = p.visits;
  }
    where
      none : (i : ℕ) → s + 1 ≤ i → i < t → settled_from low high vi i ≡ false
      none i a b = settled_unmarked low high vi i (sym (p.visited i ∙ rw (le-ltb i (s + 1) a) (and-true (marked vi i))) ∙ n i (omega arith) b)

  pub settling_last : {st' su' ne' vi' : List ℕ} {s k : ℕ} → Settling low high verdict st su ne vi st' su' ne' vi' s k → high < s → Settled low high verdict st su ne vi st' su' ne' vi' k
  settling_last {s} {k} p h = record {
    status = λ r. rw (p.status r, to_last low high vi s r h);
    successor = λ r. rw (p.successor r, to_last low high vi s r h);
    visited = λ r. rw (p.visited r, to_last low high vi s r h);
    front = p.front ∙ rw (below_more (suc high) s (settled_from low high vi) (omega arith) (λ r a b. settled_over low high vi r (omega arith)));
    behind = p.behind;
    few = p.few;
    statuses = p.statuses;
    successors = p.successors;
    names = p.names;
    visits = p.visits;
  }

-- What a settlement leaves in the list, as its lender has it.
pub settled_list : {low high verdict : ℕ} {st su ne vi st' su' ne' vi' : List ℕ} {k : ℕ} {list : List ℕ} → Settled low high verdict st su ne vi st' su' ne' vi' k → list ≡ ne' → Settled low high verdict st su ne vi st' su' list vi' k
settled_list p e = rw e p
