-- The laws of bits, of any entry and any bit: setting one sets it, leaves every other as it was, and keeps the entry as short as it was; clearing one clears it and leaves every other; 0 has none.
-- Assumes nothing.
use mathlib.Core.Path.{◌≡◌, refl, sym, ◌∙◌, ap}
use mathlib.Core.Bool.{Bool, true, false}
use Prim.Native.Nat.{ℕ, zero, suc, ◌+◌, ◌*◌, ◌-◌, ◌/◌, ◌%◌, ◌^◌, ◌<◌, ◌≤◌}
use native.Mathlib.Omega.{arith}
use native.Mathlib.Nat.{zero-div, one-mul}
use native.Mathlib.Numerals.{one-add}
use native.Mathlib.Decide.{ℕ_discrete}
use lib.Pow.{shr-shr, shl_exact}
use borrow.Author.Tests.{eq-eqb, ne_eqb, eqb-true, eqb-false}
use Rattle.tables.specs.Bits.{has_bit, with_bit, without_bit}

-- The bits behind the first are those of the half.
digit_suc : (k e : ℕ) → e / 2 ^ suc k ≡ e / 2 / 2 ^ k
digit_suc k e = ap (λ (x : ℕ). e / 2 ^ x) (sym (one-add k)) ∙ sym (shr-shr e 1 k)

half_add : (k e : ℕ) → (e + 2 ^ suc k) / 2 ≡ e / 2 + 2 ^ k
half_add k e = omega arith

half_one : (e : ℕ) → e / 2 ^ 0 % 2 ≡ 0 → (e + 2 ^ 0) / 2 ≡ e / 2
half_one e z = omega arith

-- A bit that is not set is set by adding its weight. No other changes, and the sum is as short.
add_same : (k e : ℕ) → e / 2 ^ k % 2 ≡ 0 → (e + 2 ^ k) / 2 ^ k % 2 ≡ 1
add_same zero e z = omega arith
add_same (suc k) e z = rw (digit_suc k (e + 2 ^ suc k), half_add k e) (add_same k (e / 2) (rw (digit_suc k e) at z))

add_other : (j k e : ℕ) → e / 2 ^ k % 2 ≡ 0 → (j ≡ k → ⊥) → (e + 2 ^ k) / 2 ^ j % 2 ≡ e / 2 ^ j % 2
add_other zero zero e z d = absurd (d refl)
add_other zero (suc k) e z d = omega arith
add_other (suc j) zero e z d = rw (digit_suc j (e + 2 ^ 0), half_one e z, digit_suc j e)
add_other (suc j) (suc k) e z d =
    rw (digit_suc j (e + 2 ^ suc k), half_add k e, digit_suc j e) (add_other j k (e / 2) (rw (digit_suc k e) at z) (λ q. d (ap suc q)))

add_room : (w k e : ℕ) → k < w → e < 2 ^ w → e / 2 ^ k % 2 ≡ 0 → e + 2 ^ k < 2 ^ w
add_room zero k e l r z = absurd (omega arith)
add_room (suc w) zero e l r z = omega arith
add_room (suc w) (suc k) e l r z =
    let i = add_room w k (e / 2) (omega arith) (omega arith) (rw (digit_suc k e) at z) in
    omega arith

-- A bit that is set is cleared by taking its weight away. No other changes.
weight_within : (k e : ℕ) → e / 2 ^ k % 2 ≡ 1 → 2 ^ k ≤ e
weight_within zero e z = omega arith
weight_within (suc k) e z = let i = weight_within k (e / 2) (rw (digit_suc k e) at z) in omega arith

half_sub : (k e : ℕ) → (e - 2 ^ suc k) / 2 ≡ e / 2 - 2 ^ k
half_sub k e = omega arith

sub_same : (k e : ℕ) → e / 2 ^ k % 2 ≡ 1 → (e - 2 ^ k) / 2 ^ k % 2 ≡ 0
sub_same zero e z = omega arith
sub_same (suc k) e z = rw (digit_suc k (e - 2 ^ suc k), half_sub k e) (sub_same k (e / 2) (rw (digit_suc k e) at z))

sub_other : (j k e : ℕ) → e / 2 ^ k % 2 ≡ 1 → (j ≡ k → ⊥) → (e - 2 ^ k) / 2 ^ j % 2 ≡ e / 2 ^ j % 2
sub_other j k e z d =
    let w = weight_within k e z in
    let back : e - 2 ^ k + 2 ^ k ≡ e = omega arith in
    sym (add_other j k (e - 2 ^ k) (sub_same k e z) d) ∙ ap (λ (x : ℕ). x / 2 ^ j % 2) back

-- What is read of a bit, as a number.
clear : (k e : ℕ) → has_bit k e ≡ false → e / 2 ^ k % 2 ≡ 0
unfolding has_bit
clear k e z = let n = eqb-false (e / 2 ^ k % 2) 1 z in omega arith

is_set : (k e : ℕ) → has_bit k e ≡ true → e / 2 ^ k % 2 ≡ 1
unfolding has_bit
is_set k e z = eqb-true (e / 2 ^ k % 2) 1 z

pub weight_below : (k e : ℕ) → has_bit k e ≡ true → 2 ^ k ≤ e
weight_below k e z = weight_within k e (is_set k e z)

-- The entry with a bit set, where it was not.
with_new : (k e : ℕ) → has_bit k e ≡ false → with_bit k e ≡ e + 2 ^ k
unfolding with_bit
with_new k e z = rw z

with_old : (k e : ℕ) → has_bit k e ≡ true → with_bit k e ≡ e
unfolding with_bit
with_old k e z = rw z

-- The entry with a bit cleared, where it was set.
without_old : (k e : ℕ) → has_bit k e ≡ true → without_bit k e ≡ e - 2 ^ k
unfolding without_bit
without_old k e z = rw z

without_none : (k e : ℕ) → has_bit k e ≡ false → without_bit k e ≡ e
unfolding without_bit
without_none k e z = rw z

-- Setting a bit sets it,
pub bit_same : (k e : ℕ) → has_bit k (with_bit k e) ≡ true
unfolding has_bit
bit_same k e = at (has_bit k e) refl
  where
    at : (b : Bool) → has_bit k e ≡ b → has_bit k (with_bit k e) ≡ true
    at true z = rw (with_old k e z) z
    at false z = rw (with_new k e z) (eq-eqb ((e + 2 ^ k) / 2 ^ k % 2) 1 (add_same k e (clear k e z)))

-- leaves every other,
pub bit_other : (j k e : ℕ) → (j ≡ k → ⊥) → has_bit j (with_bit k e) ≡ has_bit j e
unfolding has_bit
bit_other j k e d = at (has_bit k e) refl
  where
    at : (b : Bool) → has_bit k e ≡ b → has_bit j (with_bit k e) ≡ has_bit j e
    at true z = rw (with_old k e z)
    at false z = rw (with_new k e z, add_other j k e (clear k e z) d)

-- clears none,
pub bit_grows : (j k e : ℕ) → has_bit j e ≡ true → has_bit j (with_bit k e) ≡ true
bit_grows j k e z = at (ℕ_discrete j k)
  where
    at : Dec (j ≡ k) → has_bit j (with_bit k e) ≡ true
    at (yes q) = rw q (bit_same k e)
    at (no d) = bit_other j k e d ∙ z

-- and needs no more bits than the entry has.
pub bit_room : (w k e : ℕ) → k < w → e < 2 ^ w → with_bit k e < 2 ^ w
bit_room w k e l r = at (has_bit k e) refl
  where
    at : (b : Bool) → has_bit k e ≡ b → with_bit k e < 2 ^ w
    at true z = rw (with_old k e z) r
    at false z = rw (with_new k e z) (add_room w k e l r (clear k e z))

-- The weight of a bit that is not set fits into the entry.
pub weight_room : (k e : ℕ) → k < 16 → e < 65536 → has_bit k e ≡ false → e + 2 ^ k < 65536
weight_room k e l r z = rw (with_new k e z) at (bit_room 16 k e l r)

-- Clearing a bit clears it,
pub cleared_same : (k e : ℕ) → has_bit k (without_bit k e) ≡ false
unfolding has_bit
cleared_same k e = at (has_bit k e) refl
  where
    at : (b : Bool) → has_bit k e ≡ b → has_bit k (without_bit k e) ≡ false
    at true z =
        let n = sub_same k e (is_set k e z) in
        rw (without_old k e z) (ne_eqb ((e - 2 ^ k) / 2 ^ k % 2) 1 (λ q. absurd (omega arith)))
    at false z = rw (without_none k e z) z

-- and leaves every other.
pub cleared_other : (j k e : ℕ) → (j ≡ k → ⊥) → has_bit j (without_bit k e) ≡ has_bit j e
unfolding has_bit
cleared_other j k e d = at (has_bit k e) refl
  where
    at : (b : Bool) → has_bit k e ≡ b → has_bit j (without_bit k e) ≡ has_bit j e
    at true z = rw (without_old k e z, sub_other j k e (is_set k e z) d)
    at false z = rw (without_none k e z)

pub bit_none : (k : ℕ) → has_bit k 0 ≡ false
unfolding has_bit
bit_none k = rw (zero-div (2 ^ k))

-- The weight of a bit, as the machine shifts it.
pub one_shift : (k : ℕ) → k < 16 → 1 * 2 ^ k % 2 ^ 16 ≡ 2 ^ k
one_shift k l = shl_exact {a = 1} 1 k 16 (omega arith) (omega arith) ∙ one-mul (2 ^ k)
