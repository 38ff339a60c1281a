-- The bits of a table entry: how one is read, set and cleared. proofs/BitLaws.antt has the laws.
-- Assumes nothing.
use Rattle.std.specs.Prelude.{Bool, cond, ℕ, ◌+◌, ◌-◌, ◌/◌, ◌%◌, ◌^◌, eqb}

-- Bit k of an entry is set.
unfoldable pub has_bit : ℕ → ℕ → Bool
has_bit k entry = eqb (entry / 2 ^ k % 2) 1

-- The entry with bit k set, and with bit k cleared.
unfoldable pub with_bit : ℕ → ℕ → ℕ
with_bit k entry = cond (has_bit k entry) entry (entry + 2 ^ k)

unfoldable pub without_bit : ℕ → ℕ → ℕ
without_bit k entry = cond (has_bit k entry) (entry - 2 ^ k) entry
