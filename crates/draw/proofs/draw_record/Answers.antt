-- `draw_record` lends tables and buffers that are long enough.
-- Assumes nothing.
use mathlib.Core.Path.{sym}
use Prim.Native.Nat.{ℕ, ◌≤◌}
use native.Mathlib.Omega.{arith}
use lib.ListN.{length, replicate}
use Rattle.std.proofs.lemmas.List.{length-replicate}
use Rattle.draw.proofs.draw_record.Goals as goal

-- An array of one byte has its length, whatever the length is.
room : (n : ℕ) → n ≤ length {A = ℕ} (replicate n 0)
room n = rw (length-replicate {A = ℕ} n 0) (omega arith)

pub slice_bounds-draw_input-end-2 : goal.slice_bounds-draw_input-end-2
slice_bounds-draw_input-end-2 g c = sym (length-replicate {A = ℕ} 557056 0)

pub draw_input-requires-clause-room : goal.draw_input-requires-clause-room
draw_input-requires-clause-room g c = room 557056
