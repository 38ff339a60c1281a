-- The loop's invariant: the legal histories of the ranks passed are listed.
-- Assumes nothing.
use Rattle.enumeration.specs.Parts.{EnumeratesBelow}
use Rattle.enumeration.proofs.lines.enumerate_ranks.Given as goal

abbrev pub invariant-loop-rank : goal.invariant-loop-rank
invariant-loop-rank l = EnumeratesBelow l.rank l.initial.lines l.lines l.count
