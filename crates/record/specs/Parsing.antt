-- What the answers of the grammar's functions stand for.
-- Assumes nothing.
use Rattle.std.specs.Prelude.{cond, List, ℕ, ◌-◌, Option as Answer, Some, None}
use Rattle.std.specs.Borrow.{Bor}
use Rattle.std.proofs.Math.Option.{Option, some, none}
use Rattle.record.specs.Grammar.{Front, is_digit}

-- What a line is, as an update or as a count.
abbrev pub parsed : {A : Type 0} → Option A → Answer A
parsed none = None
parsed (some x) = Some x

abbrev pub digit_of : ℕ → Answer ℕ
digit_of b = cond (is_digit b) (Some (b - 48)) None

-- A value found at the front of some bytes, and what is behind it.
abbrev pub front : Answer (ℕ × Bor (List ℕ)) → Option Front
front (Some p) = some (record { number = p.0; rest = p.1.now })
front None = none

-- What is behind what was read.
abbrev pub rest : Answer (Bor (List ℕ)) → Option (List ℕ)
rest (Some s) = some s.now
rest None = none
