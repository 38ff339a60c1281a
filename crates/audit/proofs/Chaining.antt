-- The test of a list of steps: the work table holds, for each state, the last step met so far with that end.
-- Assumes nothing.
use mathlib.Core.Path.{◌≡◌, refl, sym, ◌∙◌, ap}
use mathlib.Core.Logic.{◌↔◌}
use mathlib.Core.Bool.{Bool, true}
use mathlib.Core.List.{List, ◌++◌}
use Prim.Native.Nat.{ℕ, suc, ◌+◌, ◌<◌, ◌≤◌}
use native.Mathlib.Omega.{arith}
use native.Mathlib.Numerals.{add-one}
use native.Mathlib.Decide.{ℕ_discrete}
use lib.ListN.{length, get_or, set, take, drop, replicate}
use Rattle.adjacency.specs.Chains.{Chains}
use Rattle.std.specs.Bool.{Decides}
use Rattle.std.specs.Str.{bytes_eq}
use Rattle.std.proofs.lemmas.List.{length-take-le, get_or-take}
use Rattle.std.proofs.lemmas.Slice.Eq.{bytes_eq-Decides}
use Rattle.std.proofs.lemmas.Grind.{same_number_lists}
use lib.Seq.{get_or-set_same, get_or-set_other}
use borrow.Author.Count.{below_more}
use Rattle.tables.specs.Work.{last_before}
use Rattle.tables.specs.Fitting.{AllBelow}
use Rattle.adjacency.proofs.Walks.{last_none, last_here, last_earlier}
use Rattle.tables.specs.Keeping.{Kept, filled}
use Rattle.tables.proofs.Keeping.{kept_none, kept_trans, kept_set, filled_kept}
use Rattle.audit.specs.Parts.{Same, Nexts, LastSteps, NextsFit, ListFits}

-- The first p of the m steps have been met.
pub record Chaining (n m : ℕ) (ends next last₀ last : List ℕ) (p : ℕ) : Type 0 where
  pub inside : p ≤ m
  pub nexts : Nexts p ends next
  pub lasts : LastSteps n p ends last
  pub kept : Kept n last₀ last

module _ {n m : ℕ} {ends next last₀ : List ℕ} where
  pub chaining_first : AllBelow n 0 last₀ → Chaining n m ends next last₀ last₀ 0
  chaining_first z =
      record {
        inside = omega arith;
        nexts = λ p h. absurd (omega arith);
        lasts = λ v h. z v h ∙ sym (last_none ends v);
        kept = kept_none n last₀;
      }

  module _ {last : List ℕ} {p v : ℕ} (c : Chaining n m ends next last₀ last p) (h : p < m) (e : v ≡ get_or ends p 0) (range : get_or ends p 0 < n) (long : n ≤ length last₀) where
    met : get_or last v 0 ≡ last_before ends p (get_or ends p 0)
    met = rw e (c.lasts (get_or ends p 0) range)

    pub chaining_next : get_or next p 0 ≡ get_or last v 0 → Chaining n m ends next last₀ (set last v (p + 1)) (p + 1)
    chaining_next s =
        record {
          inside = omega arith;
          nexts = below_more _ p c.nexts (s ∙ met);
          lasts = λ w k. rw (add-one p) (at w k (ℕ_discrete w v));
          kept = kept_trans c.kept (kept_set n last v (p + 1) (omega arith));
        }
      where
        at : (w : ℕ) → w < n → Dec (w ≡ v) → get_or (set last v (suc p)) w 0 ≡ last_before ends (suc p) w
        at w k (yes y) = rw y (get_or-set_same last v (suc p) 0 (omega (arith, c.kept.size)) ∙ sym (last_here ends p v (sym e)))
        at w k (no d) = get_or-set_other last v w (suc p) 0 d ∙ c.lasts w k ∙ sym (last_earlier ends p w (λ y. d (sym y ∙ sym e)))

-- A table whose first entries a call has all set to one value, the others as they were.
pub filled_front : (n v : ℕ) (l : List ℕ) {s : List ℕ} → n ≤ length l → s ≡ replicate (length (take n l)) v → s ++ drop n l ≡ filled n v l
unfolding filled
filled_front n v l h z = let e : length (take n l) ≡ n = length-take-le n l h in rw (z, e) refl

-- Two tables agree below n exactly where their first n entries are the same list.
pub same_fronts : (n : ℕ) (a b : List ℕ) {r : Bool} → n ≤ length a → n ≤ length b → r ≡ bytes_eq (take n a) (take n b) → (r ≡ true) ↔ Same n a b
same_fronts n a b {r} h k e =
    let d : Decides r (take n a ≡ take n b) = rw e (bytes_eq-Decides (take n a) (take n b)) in (
      λ y v l. sym (get_or-take n a v 0 l) ∙ ap (λ x. get_or x v 0) (d.0 y) ∙ get_or-take n b v 0 l,
      λ same. d.1 (same_number_lists _ _ (length-take-le n a h ∙ sym (length-take-le n b k)) (λ v l. let w : v < n = omega (arith, length-take-le n a h) in get_or-take n a v 0 w ∙ same v w ∙ sym (get_or-take n b v 0 w))),
    )

-- The whole list: the work table is emptied, then next entries, then heads.
pub emptied : {n : ℕ} {l l' : List ℕ} → n ≤ length l → l' ≡ filled n 0 l → Kept n l l'
emptied {n} {l} w z = rw z (filled_kept n 0 l w)

module _ {n m : ℕ} {ends head next last₀ last₁ last : List ℕ} (w : n ≤ length last₀) (z : last₁ ≡ filled n 0 last₀) where
  pub list_ends : {r s : Bool} → NextsFit n m ends next last₁ last r → r ≡ true → (s ≡ true) ↔ Same n head last → ListFits n m ends head next last₀ last s
  list_ends {r} {s} f e h =
      record {
        exact = (
          λ y. record { heads = λ v k. h.0 y v k ∙ f.lasts e v k; nexts = f.exact.0 e },
          λ a. h.1 (λ v k. a.heads v k ∙ sym (f.lasts e v k)),
        );
        kept = kept_trans (emptied w z) f.kept;
      }

-- What equal chains have in common.
pub same_chains : {a b : Chains} → a ≡ b → record { n : a.n ≡ b.n; m : a.m ≡ b.m; ends : a.ends ≡ b.ends; head : a.head ≡ b.head; next : a.next ≡ b.next }
same_chains e = record { n = ap (λ (c : Chains). c.n) e; m = ap (λ (c : Chains). c.m) e; ends = ap (λ (c : Chains). c.ends) e; head = ap (λ (c : Chains). c.head) e; next = ap (λ (c : Chains). c.next) e }
