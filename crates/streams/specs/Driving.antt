-- How a listing or a drawing under way stands.
-- Assumes nothing.
use Rattle.std.specs.Prelude.{List, ℕ}
use Rattle.tables.specs.Tables.{Tables}

-- It stands so for some bytes read and written, and some piece at hand: no contract can say which.
pub record Standing {S : Type 0} (stands : (got put : List ℕ) → S → (piece output : List ℕ) → Tables → Type 0) (s : S) (output : List ℕ) (t : Tables) : Type 0 where
  pub got : List ℕ
  pub put : List ℕ
  pub piece : List ℕ
  pub so : stands got put s piece output t
