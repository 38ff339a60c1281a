-- The loop's invariant: the length of the lines of the steps passed, at most 20 bytes each.
-- Assumes nothing.
use lib.ListN.{length}
use mathlib.Core.Path.{◌≡◌}
use Prim.Native.Nat.{◌≤◌, ◌*◌}
use Rattle.writer.specs.Order.{step_lines, bytes_of}
use Rattle.writer.proofs.sizes.steps_size.Given as goal

abbrev pub invariant-loop-p : goal.invariant-loop-p
invariant-loop-p l = (l.size ≡ length (bytes_of (step_lines l.p l.source.from.now l.source.to.now l.source.key.now))) × (l.size ≤ 20 * l.p)
