-- `digits` meets its contract.
-- Assumes nothing.
use Rattle.std.proofs.Common.{◌≡◌, ◌≤◌, length}
use Rattle.record.specs.Grammar.{digits}
use Rattle.record.proofs.grammar.digits.Given as goal

abbrev pub invariant-loop-s : goal.invariant-loop-s
invariant-loop-s l = record {
  number_fits : l.number ≤ 65535;
  same_digits : digits l.fn.number l.fn.s ≡ digits l.number l.s;
}

abbrev pub decreases-loop-s : goal.decreases-loop-s
decreases-loop-s l = length l.s
