-- The turns of a program: what holds before each.
-- Assumes nothing.
use Rattle.std.proofs.Common.{◌≡◌, sym, ◌∙◌, List, ◌++◌, ℕ, ◌≤◌, length, take, subst, arith}
use Rattle.tables.specs.Tables.{Tables}
use Rattle.reader.specs.declared.task.Task.{Task}
use Rattle.reader.specs.declared.task.Task.TheVariants.{Read, Write}
use Rattle.streams.specs.declared.Served.{Served}
use Rattle.streams.specs.declared.Served.TheVariants.{Piece}
use Rattle.streams.specs.Serving.{Serves, read, wrote, over, failed}
use Rattle.streams.proofs.Serving.{served_fits}

module _ {S : Type 0} (stands : (got put : List ℕ) → S → (piece output : List ℕ) → Tables → Type 0) where
  -- Some bytes have been read and some written, and the piece is the front of the input.
  pub record Turns (s : S) (count : ℕ) (input output : List ℕ) (t : Tables) : Type 0 where
    pub got : List ℕ
    pub put : List ℕ
    pub so : stands got put s (take count input) output t
    pub fits : count ≤ length input

  module _ {s s' : S} {task : Task} {count n : ℕ} {input input' output output' : List ℕ} {t t' : Tables} {r : Served} where
    -- A piece that was read is the next; the piece at hand is gone on with, once the output has been written.
    pub turns_more :
        (end : ℕ) → Turns s count input output t → Serves task count input input' r → r ≡ Piece n →
        ((got put before : List ℕ) → task ≡ Read → stands got put s before output t → stands (got ++ take n input') put s' (take n input') output' t') →
        ((got put : List ℕ) → task ≡ Write → stands got put s (take n input') output t → stands got (put ++ take end output) s' (take n input') output' t') →
        Turns s' n input' output' t'
    turns_more end v (read e q h) z f w = record { got = v.got ++ take n input'; put = v.put; so = f v.got v.put (take count input) e v.so; fits = served_fits (read e q h) z v.fits }
    turns_more end v (wrote e q i) z f w =
        let m : n ≡ count = let x : Piece n ≡ Piece count = sym z ∙ q in cc in
        let same : take n input' ≡ take count input = rw (m, i) in
        record { got = v.got; put = v.put ++ take end output; so = w v.got v.put e (subst (λ x. stands v.got v.put s x output t) (sym same) v.so); fits = served_fits (wrote e q i) z v.fits }
    turns_more end v (over e q i) z f w = absurd (let x : ◌≡◌ {A = ℕ} 0 1 = cc in omega arith)
    turns_more end v (failed q i) z f w = absurd (let x : ◌≡◌ {A = ℕ} 0 1 = cc in omega arith)
