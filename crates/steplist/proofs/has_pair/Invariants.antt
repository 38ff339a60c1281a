-- `has_pair` answers no only where no place of the block has both ends. The loop's invariant: that of the places passed.
-- Assumes nothing.
use Rattle.std.proofs.Common.{◌≡◌, false}
use Rattle.steplist.specs.Blocks.{NoPair}
use Rattle.steplist.proofs.has_pair.Given as goal

abbrev pub invariant-loop-i : goal.invariant-loop-i
invariant-loop-i l = l.hit ≡ false → NoPair l.u l.v l.start l.i l.from l.to
