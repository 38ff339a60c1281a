-- The loop's invariant: what the states passed add.
-- Assumes nothing.
use lib.ListN.{get_or}
use Rattle.totals.specs.Blocks.{Adds}
use Rattle.totals.proofs.count_block.Given as goal

abbrev pub invariant-loop-k : goal.invariant-loop-k
invariant-loop-k l = Adds 0 l.k-index (λ s. get_or l.block s 0) (record { «open» = l.«open»; unknown = l.unknown; live = l.live; dead = l.dead })
