-- What a task that was served leaves.
-- Assumes nothing.
use Rattle.std.proofs.Common.{◌≡◌, sym, ◌∙◌, List, ℕ, ◌≤◌, length, arith}
use Rattle.reader.specs.declared.task.Task.{Task}
use Rattle.streams.specs.declared.Served.{Served}
use Rattle.streams.specs.declared.Served.TheVariants.{Piece}
use Rattle.streams.specs.Serving.{Serves, read, wrote, over, failed}

module _ {task : Task} {count : ℕ} {input input' : List ℕ} {r : Served} where
  -- the piece lies within the input
  pub served_fits : {n : ℕ} → Serves task count input input' r → r ≡ Piece n → count ≤ length input → n ≤ length input'
  served_fits {n} (read {n = m} e q h) z k = let x : n ≡ m = let w : Piece n ≡ Piece m = sym z ∙ q in cc in omega arith
  served_fits {n} (wrote e q i) z k = let x : n ≡ count = let w : Piece n ≡ Piece count = sym z ∙ q in cc in rw (x, i) k
  served_fits (over e q i) z k = absurd (let w : ◌≡◌ {A = ℕ} 0 1 = cc in omega arith)
  served_fits (failed q i) z k = absurd (let w : ◌≡◌ {A = ℕ} 0 1 = cc in omega arith)
