-- The laws of the lesser of two numbers.
-- Assumes nothing.
use mathlib.Core.Path.{◌≡◌, refl}
use mathlib.Core.Bool.{Bool, true, false, cond}
use Prim.Native.Nat.{ℕ, ◌≤◌, ◌<◌}
use native.Mathlib.Omega.{arith}
use lib.Dec.{leb}
use borrow.Author.Tests.{leb-true, leb-false}
use Rattle.tables.specs.Numbers.{least}

-- it is at most either, and where it is below the first it is the second
pub record Lesser (a b r : ℕ) : Type 0 where
  pub left : r ≤ a
  pub right : r ≤ b
  pub cut : r < a → b ≤ r

pub lesser : (a b : ℕ) → Lesser a b (least a b)
lesser a b = by (leb a b) refl
  where
    by : (q : Bool) → leb a b ≡ q → Lesser a b (cond q a b)
    by true e = record { left = omega arith; right = leb-true a b e; cut = λ h. absurd (omega arith) }
    by false e = record { left = omega (arith, leb-false a b e); right = omega arith; cut = λ h. omega arith }
