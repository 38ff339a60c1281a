-- The laws of first places: what is said of the first number below a bound that passes a test, and how it is found block by block.
-- Assumes nothing.
use mathlib.Core.Path.{◌≡◌, refl, sym, ◌∙◌}
use mathlib.Core.Bool.{Bool, true, false, false≢true}
use mathlib.Core.List.{List}
use mathlib.Core.Option.{Option, some, none, some-injective, some-ne-none, none-ne-some}
use Prim.Native.Nat.{ℕ, zero, suc, ◌<◌, ◌≤◌}
use native.Mathlib.Omega.{arith}
use native.Mathlib.Decide.{ℕ_discrete}
use lib.Dec.{eqb, ltb}
use lib.ListN.{get_or}
use borrow.Author.Tests.{ltb-true, ltb-false, eqb-true}
use Rattle.gid.specs.declared.Edge.{Edge}
use Rattle.tables.specs.Listing.{is_equal_at, first_below, first_place, is_found}
use Rattle.std.specs.Prelude.{Option as Found, Some, None, MatchOption}
use Rattle.steplist.specs.Places.{place_of}
use Rattle.steplist.specs.Blocks.{NoPair}

-- what the definition says of a last number that passes, of one that does not, and of one behind the first that passes
pub first_none : (f : ℕ → Bool) → first_below f 0 ≡ none
unfolding first_below
first_none f = refl

first_here : (f : ℕ → Bool) (m : ℕ) → first_below f m ≡ none → f m ≡ true → first_below f (suc m) ≡ some m
unfolding first_below
first_here f m e t = rw (e, t)

first_later : (f : ℕ → Bool) (m : ℕ) → first_below f m ≡ none → f m ≡ false → first_below f (suc m) ≡ none
unfolding first_below
first_later f m e t = rw (e, t)

first_stays : (f : ℕ → Bool) (m : ℕ) {p : ℕ} → first_below f m ≡ some p → first_below f (suc m) ≡ some p
unfolding first_below
first_stays f m e = rw e

module _ (f : ℕ → Bool) where
  -- There is none exactly where each number below the bound fails.
  pub none_below : (m : ℕ) → first_below f m ≡ none → (p : ℕ) → p < m → f p ≡ false
  none_below zero e p h = absurd (omega arith)
  none_below (suc m) e p h = at (none_below m) (first_below f m) refl
    where
      here : (first_below f m ≡ none → (p : ℕ) → p < m → f p ≡ false) → first_below f m ≡ none → (t : Bool) → f m ≡ t → Dec (p ≡ m) → f p ≡ false
      here older n true t d = absurd (some-ne-none m (sym (first_here f m n t) ∙ e))
      here older n false t (yes q) = rw q t
      here older n false t (no q) = older n p (omega arith)

      at : (first_below f m ≡ none → (p : ℕ) → p < m → f p ≡ false) → (o : Option ℕ) → first_below f m ≡ o → f p ≡ false
      at older none n = here older n (f m) refl (ℕ_discrete p m)
      at older (some q) s = absurd (some-ne-none q (sym (first_stays f m s) ∙ e))

  pub below_none : (m : ℕ) → ((p : ℕ) → p < m → f p ≡ false) → first_below f m ≡ none
  below_none zero a = first_none f
  below_none (suc m) a = first_later f m (below_none m (λ p h. a p (omega arith))) (a m (omega arith))

  -- None below a, and none from a up to b: none below b.
  pub none_more : (a b : ℕ) → first_below f a ≡ none → ((p : ℕ) → a ≤ p → p < b → f p ≡ false) → first_below f b ≡ none
  none_more a b e n = below_none b (λ p h. at p h (ltb p a) refl)
    where
      at : (p : ℕ) → p < b → (t : Bool) → ltb p a ≡ t → f p ≡ false
      at p h true l = none_below a e p (ltb-true p a l)
      at p h false l = n p (ltb-false p a l) h

  -- What is first below a is first below a greater bound.
  pub found_stays : (a b : ℕ) {p : ℕ} → a ≤ b → first_below f a ≡ some p → first_below f b ≡ some p
  found_stays a zero h e = let z : a ≡ 0 = omega arith in rw z at e
  found_stays a (suc b) {p} h e = at (ℕ_discrete a (suc b)) (λ l. found_stays a b l e)
    where
      at : Dec (a ≡ suc b) → (a ≤ b → first_below f b ≡ some p) → first_below f (suc b) ≡ some p
      at (yes q) older = rw q at e
      at (no q) older = first_stays f b (older (omega arith))

  -- The first is p exactly where p passes, is below the bound, and each number below p fails.
  abbrev First : ℕ → ℕ → Type 0
  First m p = (p < m) × (f p ≡ true) × ((q : ℕ) → q < p → f q ≡ false)

  pub some_below : (m : ℕ) {p : ℕ} → first_below f m ≡ some p → (p < m) × (f p ≡ true) × ((q : ℕ) → q < p → f q ≡ false)
  some_below zero {p} e = absurd (none-ne-some p (sym (first_none f) ∙ e))
  some_below (suc m) {p} e = at (first_below f m) refl (λ s. some_below m s)
    where
      here : first_below f m ≡ none → (t : Bool) → f m ≡ t → First (suc m) p
      here n true t =
          let k : m ≡ p = some-injective m p (sym (first_here f m n t) ∙ e) in
          (omega arith, rw k at t, λ q h. none_below m n q (omega arith))
      here n false t = absurd (none-ne-some p (sym (first_later f m n t) ∙ e))

      at : (o : Option ℕ) → first_below f m ≡ o → (first_below f m ≡ some p → First m p) → First (suc m) p
      at none n older = here n (f m) refl
      at (some r) s older =
          let k : r ≡ p = some-injective r p (sym (first_stays f m s) ∙ e) in
          let b = older (rw k at s) in
          (omega (arith, b.0), b.1, b.2)

  pub below_some : (m p : ℕ) → p < m → f p ≡ true → ((q : ℕ) → q < p → f q ≡ false) → first_below f m ≡ some p
  below_some m p h t n = found_stays (suc p) m (omega arith) (first_here f p (below_none p n) t)

  -- None below a, and what is found from a up to b: that is the first below b.
  pub first_between : (a b : ℕ) (r : Found ℕ) → first_below f a ≡ none →
      MatchOption r ((p : ℕ) → a ≤ p → p < b → f p ≡ false) (λ p. (a ≤ p) × (p < b) × (f p ≡ true) × ((q : ℕ) → a ≤ q → q < p → f q ≡ false)) →
      place_of r ≡ first_below f b
  first_between a b None e n = sym (none_more a b e n)
  first_between a b (Some p) e w = sym (found_stays (suc p) b (omega (arith, w.1)) (first_here f p (none_more a p e w.3) w.2))

  -- Whether one is found: a number below the bound that passes.
  pub found_by : (m p : ℕ) → p < m → f p ≡ true → is_found (first_below f m) ≡ true
  found_by m p h t = at (first_below f m) refl
    where
      at : (o : Option ℕ) → first_below f m ≡ o → is_found o ≡ true
      at none n = absurd (false≢true (sym (none_below m n p h) ∙ t))
      at (some q) s = refl

  pub found_somewhere : (m : ℕ) → is_found (first_below f m) ≡ true → (p : ℕ) × (p < m) × (f p ≡ true)
  found_somewhere m t = at (first_below f m) refl t
    where
      at : (o : Option ℕ) → first_below f m ≡ o → is_found o ≡ true → (p : ℕ) × (p < m) × (f p ≡ true)
      at none n z = absurd (false≢true z)
      at (some q) s z = let b = some_below m s in (q, b.0, b.1)

-- It turns on the numbers below the bound alone.
pub first_same : (f g : ℕ → Bool) (m : ℕ) → ((p : ℕ) → p < m → f p ≡ g p) → first_below f m ≡ first_below g m
unfolding first_below
first_same f g zero e = refl
first_same f g (suc m) e = at (first_below f m) refl (first_same f g m (λ p h. e p (omega arith)))
  where
    at : (o : Option ℕ) → first_below f m ≡ o → first_below f m ≡ first_below g m → first_below f (suc m) ≡ first_below g (suc m)
    at none n q = rw (n, sym q ∙ n, e m (omega arith))
    at (some p) s q = rw (s, sym q ∙ s)

-- So the first place of a step turns on the listed entries alone.
pub place_same : (from to key from' to' key' : List ℕ) (e : Edge) (m : ℕ) → ((p : ℕ) → p < m → (get_or from p 0 ≡ get_or from' p 0) × (get_or to p 0 ≡ get_or to' p 0) × (get_or key p 0 ≡ get_or key' p 0)) → first_place m from to key e ≡ first_place m from' to' key' e
place_same from to key from' to' key' e m s = first_same (is_equal_at from to key e) (is_equal_at from' to' key' e) m (λ p h. let q = s p h in rw (q.0, q.1, q.2))

-- A place where the ends are not both met holds no equal step.
pub unequal : (from to key : List ℕ) (e : Edge) (p : ℕ) → (get_or from p 0 ≡ e.from → get_or to p 0 ≡ e.to → ⊥) → is_equal_at from to key e p ≡ false
unequal from to key e p n = at (eqb (get_or from p 0) e.from) refl (eqb (get_or to p 0) e.to) refl
  where
    at : (s : Bool) → eqb (get_or from p 0) e.from ≡ s → (t : Bool) → eqb (get_or to p 0) e.to ≡ t → is_equal_at from to key e p ≡ false
    at true s true t = absurd (n (eqb-true _ _ s) (eqb-true _ _ t))
    at true s false t = rw (s, t)
    at false s b t = rw s

-- A block without the pair of ends leaves it at none.
pub block_none : (from to key : List ℕ) (e : Edge) {a b : ℕ} → first_below (is_equal_at from to key e) a ≡ none → NoPair e.from e.to a b from to → first_below (is_equal_at from to key e) b ≡ none
block_none from to key e {a} {b} z n = none_more (is_equal_at from to key e) a b z (λ p l h. unequal from to key e p (n p l h))
