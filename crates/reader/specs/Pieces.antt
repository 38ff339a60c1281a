-- What is read of a piece of a record.
-- Assumes nothing.
use Rattle.std.specs.Prelude.{List, [], ◌∷◌, ℕ}

-- The piece, or the newline in the place of an empty one.
abbrev pub piece_or : List ℕ → List ℕ → List ℕ
piece_or [] newline = newline
piece_or (b ∷ piece) newline = b ∷ piece
