-- Counting: what changing one state does to a count.
-- Assumes nothing.
use mathlib.Core.Path.{◌≡◌, refl, sym, ◌∙◌}
use mathlib.Core.Bool.{Bool, true, false, cond, false≢true}
use Prim.Native.Nat.{ℕ, zero, suc, ◌+◌, ◌≤◌, ◌<◌}
use native.Mathlib.Omega.{arith}
use native.Mathlib.Decide.{ℕ_discrete}
use Rattle.search.specs.Counting.{count}

pub count_most : (n : ℕ) (f : ℕ → Bool) → count n f ≤ n
unfolding count
count_most zero f = omega arith
count_most (suc n) f = at (f n) (count_most n f)
  where
    at : (b : Bool) → count n f ≤ n → count n f + cond b 1 0 ≤ suc n
    at true i = omega arith
    at false i = omega arith

-- tests that agree below n count the same
pub count_same : (n : ℕ) (f g : ℕ → Bool) → ((s : ℕ) → s < n → f s ≡ g s) → count n f ≡ count n g
unfolding count
count_same zero f g e = refl
count_same (suc n) f g e = rw (count_same n f g (λ s h. e s (omega arith)), e n (omega arith))

-- a test that fails at u, where another holds, and agrees with it elsewhere, counts one less
pub count_one : (n : ℕ) (f g : ℕ → Bool) (u : ℕ) → u < n → f u ≡ true → g u ≡ false → ((s : ℕ) → s < n → (s ≡ u → ⊥) → f s ≡ g s) → count n f ≡ count n g + 1
unfolding count
count_one zero f g u h a b e = absurd (omega arith)
count_one (suc n) f g u h a b e = at (ℕ_discrete u n) (λ q. count_one n f g u q a b (λ s k d. e s (omega arith) d))
  where
    at : Dec (u ≡ n) → (u < n → count n f ≡ count n g + 1) → count n f + cond (f n) 1 0 ≡ count n g + cond (g n) 1 0 + 1
    at (yes q) i =
        let fn : f n ≡ true = rw q at a in
        let gn : g n ≡ false = rw q at b in
        let r = count_same n f g (λ s k. e s (omega arith) (λ z. absurd (omega arith))) in
        rw (fn, gn) (omega arith)
    at (no d) i =
        let r = i (omega arith) in
        let en = e n (omega arith) (λ z. d (sym z)) in
        rw en (omega arith)

-- a test that fails at u counts less than all
pub count_less : (n : ℕ) (f : ℕ → Bool) (u : ℕ) → u < n → f u ≡ false → count n f < n
unfolding count
count_less zero f u h e = absurd (omega arith)
count_less (suc n) f u h e = at (ℕ_discrete u n) (f n) refl (λ q. count_less n f u q e)
  where
    at : Dec (u ≡ n) → (b : Bool) → f n ≡ b → (u < n → count n f < n) → count n f + cond b 1 0 < suc n
    at d false k i = let m = count_most n f in omega arith
    at (yes q) true k i = absurd (false≢true (sym e ∙ rw q k))
    at (no d) true k i = let m = i (omega arith) in omega arith
