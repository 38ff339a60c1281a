-- The decimal text of a number: its two equations, its length, and its digits.
-- Assumes nothing.
use mathlib.Core.Path.{◌≡◌, refl, sym, ◌∙◌, ap}
use mathlib.Core.List.{List, [], ◌∷◌, ◌++◌}
use Prim.Native.Nat.{ℕ, zero, suc, ◌+◌, ◌*◌, ◌/◌, ◌%◌, ◌≤◌, ◌<◌}
use native.Mathlib.Omega.{arith}
use native.Mathlib.Decide.{dec_lt}
use lib.ListN.{length, length-append}
use borrow.Author.Tests.{lt-ltb, le-ltb}
use Rattle.record.specs.Text.{digits_of, decimal}

one_digit : (k n : ℕ) → n < 10 → digits_of k n ≡ (48 + n) ∷ []
unfolding digits_of
one_digit zero n h = refl
one_digit (suc k) n h = rw (lt-ltb n 10 h)

more_digits : (k n : ℕ) → 10 ≤ n → digits_of (suc k) n ≡ digits_of k (n / 10) ++ ((48 + n % 10) ∷ [])
unfolding digits_of
more_digits k n h = rw (le-ltb n 10 h)

-- any bound that is large enough gives the same digits
enough : (j k n : ℕ) → n ≤ j → n ≤ k → digits_of j n ≡ digits_of k n
enough zero k n p q = one_digit zero n (omega arith) ∙ sym (one_digit k n (omega arith))
enough (suc j) zero n p q = one_digit (suc j) n (omega arith) ∙ sym (one_digit zero n (omega arith))
enough (suc j) (suc k) n p q = by (dec_lt n 10) (enough j k (n / 10))
  where
    by : Dec (n < 10) → (n / 10 ≤ j → n / 10 ≤ k → digits_of j (n / 10) ≡ digits_of k (n / 10)) → digits_of (suc j) n ≡ digits_of (suc k) n
    by (yes h) ih = one_digit (suc j) n h ∙ sym (one_digit (suc k) n h)
    by (no h) ih =
        more_digits j n (omega arith) ∙ ap (λ (l : List ℕ). l ++ ((48 + n % 10) ∷ [])) (ih (omega arith) (omega arith)) ∙ sym (more_digits k n (omega arith))

pub decimal_digit : (n : ℕ) → n < 10 → decimal n ≡ (48 + n) ∷ []
unfolding decimal
decimal_digit n h = one_digit n n h

pub decimal_more : (n : ℕ) → 10 ≤ n → decimal n ≡ decimal (n / 10) ++ ((48 + n % 10) ∷ [])
unfolding decimal
decimal_more zero h = absurd (omega arith)
decimal_more (suc k) h =
    more_digits k (suc k) h ∙ ap (λ (l : List ℕ). l ++ ((48 + suc k % 10) ∷ [])) (enough k (suc k / 10) (suc k / 10) (omega arith) (omega arith))

-- one digit more
pub decimal_then : (n d : ℕ) → 0 < n → d < 10 → decimal (n * 10 + d) ≡ decimal n ++ ((48 + d) ∷ [])
decimal_then n d p q =
    let e : (n * 10 + d) / 10 ≡ n = omega arith in
    let f : (n * 10 + d) % 10 ≡ d = omega arith in
    decimal_more (n * 10 + d) (omega arith) ∙ (rw (e, f))

-- a number below 10 ^ (k + 1) has at most k + 1 digits
by_digits : (m n : ℕ) (k : ℕ) → n < 10 * m → ((j : ℕ) → j < m → length (decimal j) ≤ k) → 0 < k → length (decimal n) ≤ k + 1
by_digits m n k h ih z = by (dec_lt n 10)
  where
    by : Dec (n < 10) → length (decimal n) ≤ k + 1
    by (yes p) = rw (decimal_digit n p) (omega arith)
    by (no p) = rw (decimal_more n (omega arith)) (rw length-append (omega (arith, ih (n / 10) (omega arith))))

pub two_digits : (n : ℕ) → n < 100 → length (decimal n) ≤ 2
two_digits n h = by_digits 10 n 1 h (λ j p. rw (decimal_digit j p) (omega arith)) (omega arith)

pub five_digits : (n : ℕ) → n < 100000 → length (decimal n) ≤ 5
five_digits n h = by_digits 10000 n 4 h (λ j p. by_digits 1000 j 3 p (λ i q. by_digits 100 i 2 q two_digits (omega arith)) (omega arith)) (omega arith)

-- there is a first digit
pub some_digit : (n : ℕ) → 0 < length (decimal n)
some_digit n = by (dec_lt n 10)
  where
    by : Dec (n < 10) → 0 < length (decimal n)
    by (yes p) = rw (decimal_digit n p) (omega arith)
    by (no p) = rw (decimal_more n (omega arith), length-append) (omega arith)
