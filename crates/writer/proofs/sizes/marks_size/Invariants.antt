-- The loop's invariant: the length of the lines of the states passed, at most 20 bytes each.
-- Assumes nothing.
use lib.ListN.{length}
use mathlib.Core.Path.{◌≡◌}
use Prim.Native.Nat.{◌≤◌, ◌*◌}
use Rattle.writer.specs.Order.{marked_lines, bytes_of}
use Rattle.writer.proofs.sizes.marks_size.Given as goal

abbrev pub invariant-loop-state : goal.invariant-loop-state
invariant-loop-state l = (l.size ≡ length (bytes_of (marked_lines l.mark l.state l.marks))) × (l.size ≤ 20 * l.state)
