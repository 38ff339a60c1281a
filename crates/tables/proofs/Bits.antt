-- The marks of a state. On any byte: setting one sets it, leaves the other two as they were, and clears none. On the byte of three marks: what is read and what setting one gives.
-- Assumes nothing.
use mathlib.Core.Path.{◌≡◌, ◌∙◌, ap}
use mathlib.Core.Bool.{Bool, true, false, cond}
use Prim.Native.Nat.{ℕ, ◌+◌, ◌*◌, ◌-◌, ◌/◌, ◌%◌, ◌≤◌, ◌<◌}
use native.Mathlib.Omega.{arith}
use native.Mathlib.Nat.{mul-one, mul-zero}
use native.Mathlib.Decide.{ℕ_discrete}
use lib.Dec.{eqb}
use lib.ListN.{get_or}
use Rattle.gid.specs.Histories.{History, IsClosed}
use Rattle.gid.specs.Statuses.{is_named, is_terminal, is_closed}
use Rattle.gid.proofs.Decide.{Decides}
use Rattle.gid.proofs.Tests.{decides_closed}
use Rattle.tables.specs.declared.Graph.{Graph}
use Rattle.tables.specs.Tables.{Tables}
use Rattle.tables.specs.Marks.{has_named, has_terminal, has_closed, with_named, with_terminal, with_closed}
use Rattle.tables.specs.Visits.{Marking}
use Rattle.tables.specs.Fitting.{marks_of, ConsistentBy}

quarter : (x : ℕ) → x / 4 ≡ x / 2 / 2
quarter x = omega arith

-- the half of a number whose last bit is set
half_set : (k : ℕ) → (k + (1 - k % 2)) / 2 ≡ k / 2
half_set k = omega arith

half_next : (m : ℕ) → (m + 2 * (1 - m / 2 % 2)) / 2 ≡ m / 2 + (1 - m / 2 % 2)
half_next m = omega arith

module _ (m : ℕ) where
  -- as numbers: the three bits of the byte with a mark set
  pub named_bits : (with_named m % 2 ≡ 1) × (with_named m / 2 % 2 ≡ m / 2 % 2) × (with_named m / 4 % 2 ≡ m / 4 % 2)
  unfolding with_named
  named_bits = (omega arith, omega arith, rw (quarter (m + (1 - m % 2)), quarter m, half_set m))

  pub terminal_bits : (with_terminal m % 2 ≡ m % 2) × (with_terminal m / 2 % 2 ≡ 1) × (with_terminal m / 4 % 2 ≡ m / 4 % 2)
  unfolding with_terminal
  terminal_bits = (omega arith, omega arith, rw (quarter (m + 2 * (1 - m / 2 % 2)), quarter m, half_next m, half_set (m / 2)))

  pub closed_bits : (with_closed m % 2 ≡ m % 2) × (with_closed m / 2 % 2 ≡ m / 2 % 2) × (with_closed m / 4 % 2 ≡ 1)
  unfolding with_closed
  closed_bits = omega arith

-- The byte of three marks: named, terminal, closed.
unfoldable pub bits : Bool → Bool → Bool → ℕ
bits a b c = cond a 1 0 + cond b 2 0 + cond c 4 0

-- What is read of it, what setting a mark makes of it, and how large it is.
pub record Byte (a b c : Bool) : Type 0 where
  pub named : has_named (bits a b c) ≡ a
  pub terminal : has_terminal (bits a b c) ≡ b
  pub closed : has_closed (bits a b c) ≡ c
  pub set_named : with_named (bits a b c) ≡ bits true b c
  pub set_terminal : with_terminal (bits a b c) ≡ bits a true c
  pub set_closed : with_closed (bits a b c) ≡ bits a b true
  pub low : bits a b c ≤ 7

pub byte : (a b c : Bool) → Byte a b c
unfolding bits with_named with_terminal with_closed
byte true true true = search arith
byte true true false = search arith
byte true false true = search arith
byte true false false = search arith
byte false true true = search arith
byte false true false = search arith
byte false false true = search arith
byte false false false = search arith

-- The weight of a bit.
weigh : (w x : ℕ) → cond (eqb (x % 2) 1) w 0 ≡ w * (x % 2)
weigh w x = at (ℕ_discrete (x % 2) 1)
  where
    at : Dec (x % 2 ≡ 1) → cond (eqb (x % 2) 1) w 0 ≡ w * (x % 2)
    at (yes e) = rw (e, mul-one)
    at (no d) = let z : x % 2 ≡ 0 = omega arith in rw (z, mul-zero)

-- A byte that fits is that of its marks.
pub byte_sum : (m : ℕ) → m ≤ 7 → bits (has_named m) (has_terminal m) (has_closed m) ≡ m
unfolding bits
byte_sum m h =
    let a : m / 4 % 2 ≡ m / 4 = omega arith in
    rw (weigh 1 m, weigh 2 (m / 2), weigh 4 (m / 4)) (omega (arith, quarter m))

-- The marks of tables that fit are the history's.
pub marks_bits : (h : History) (s : ℕ) → (has_named (marks_of h s) ≡ is_named h s) × (has_terminal (marks_of h s) ≡ is_terminal h s) × (has_closed (marks_of h s) ≡ is_closed h s)
unfolding marks_of bits
marks_bits h s = let r = byte (is_named h s) (is_terminal h s) (is_closed h s) in (r.named, r.terminal, r.closed)

pub closed_bit : (h : History) (s : ℕ) → has_closed (marks_of h s) ≡ is_closed h s
closed_bit h s = (marks_bits h s).2

-- On tables that fit for a history, a state's closed mark says whether the history has closed it: as tests, and as a statement.
module _ {form : Marking} {h : History} {g : Graph} {t : Tables} (c : ConsistentBy form h g t) (s : ℕ) (range : s < g.n) where
  pub closed_same : has_closed (get_or t.marks s 0) ≡ is_closed h s
  closed_same = ap has_closed (c.marks s range) ∙ closed_bit h s

  pub decides_closed_mark : Decides (has_closed (get_or t.marks s 0)) (IsClosed h s)
  decides_closed_mark = rw closed_same (decides_closed h s)
