-- `filled` meets its contract.
-- Assumes nothing.
use Rattle.std.proofs.Common.{◌≡◌, ◌≤◌, max, length}
use Rattle.record.specs.Buffer.{filled_from}
use Rattle.record.proofs.line.Line.filled.Given as goal

abbrev pub invariant-loop-i : goal.invariant-loop-i
invariant-loop-i l = record {
  within : l.i ≤ max l.at (length l.s);
  same_line : filled_from l.initial.line l.s l.at ≡ filled_from l.line l.s l.i;
}
