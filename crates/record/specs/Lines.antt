-- The lines of a record: its bytes, split at newlines. Document 01, "The record".
-- Assumes nothing.
use Rattle.std.specs.Prelude.{cond, List, [], ◌∷◌, ℕ, eqb}

-- A byte in front of the first line. Where there is no line, it is one.
abbrev pub onto : ℕ → List (List ℕ) → List (List ℕ)
onto b [] = (b ∷ []) ∷ []
onto b (l ∷ ls) = (b ∷ l) ∷ ls

-- "A missing last newline makes no difference." Empty input has no line.
unfoldable pub lines : List ℕ → List (List ℕ)
lines [] = []
lines (b ∷ s) = cond (eqb b 10) ([] ∷ lines s) (onto b (lines s))

-- The bytes before the first newline, or all of them.
unfoldable pub before : List ℕ → List ℕ
before [] = []
before (b ∷ s) = cond (eqb b 10) [] (b ∷ before s)
