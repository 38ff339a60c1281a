-- What came of a task. No contract can say which bytes the system read or wrote: that is tested (docs/PROMISES.md).
-- Assumes nothing.
use Rattle.std.specs.Prelude.{◌≡◌, List, ℕ, ◌≤◌, length}
use Rattle.reader.specs.declared.task.Task.{Task}
use Rattle.reader.specs.declared.task.Task.TheVariants.{Read, Write, End}
use Rattle.streams.specs.declared.Served.{Served}
use Rattle.streams.specs.declared.Served.TheVariants.{Piece, Over, Failed}

-- A piece was read into the input; or, the input as it was, a text was written: the piece at hand is to be read on, or that was the last text; or it could not be written.
pub data Serves (task : Task) (count : ℕ) (input input' : List ℕ) (r : Served) : Type 0 where
  read : {n : ℕ} → task ≡ Read → r ≡ Piece n → n ≤ length input' → Serves task count input input' r
  wrote : task ≡ Write → r ≡ Piece count → input' ≡ input → Serves task count input input' r
  over : task ≡ End → r ≡ Over → input' ≡ input → Serves task count input input' r
  failed : r ≡ Failed → input' ≡ input → Serves task count input input' r
