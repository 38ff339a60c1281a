-- The loop's invariant: what the states of the blocks passed add.
-- Assumes nothing.
use mathlib.Core.Path.{◌≡◌}
use lib.ListN.{take}
use Rattle.std.specs.Slice.Iter.{chunks_rest, chunks_size}
use Rattle.totals.specs.declared.TheConstants.{BLOCK}
use Rattle.totals.proofs.Counting.{Passed}
use Rattle.totals.proofs.count.Given as goal

abbrev pub invariant-loop-block : goal.invariant-loop-block
invariant-loop-block l =
    goal.iterator-loop-block.can_next l.block-iterator
    × goal.iterator-loop-block.is_finite l.block-iterator
    × (chunks_size l.block-iterator ≡ BLOCK)
    × Passed (take l.n l.status) (chunks_rest l.block-iterator) (record { «open» = l.«open»; unknown = l.unknown; live = l.live; dead = l.dead })
