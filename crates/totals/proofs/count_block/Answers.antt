-- `count_block` meets its contract: the counts fit in a byte, with the next state too.
-- Assumes nothing.
use native.Mathlib.Omega.{arith}
use Rattle.std.proofs.Common.{rules}
use Rattle.totals.proofs.Counting.{adds_one, adds_few, byte_few}
use Rattle.totals.proofs.count_block.Goals as goal

pub overflow_add-open : goal.overflow_add-open
overflow_add-open c = record { fits = omega (arith, (adds_few 0 _ 254 _ _ (omega arith) (search rules) c.loop-k.invariant).opens, byte_few _ c.from-open.ensures) }

pub overflow_add-unknown : goal.overflow_add-unknown
overflow_add-unknown c = record { fits = omega (arith, (adds_few 0 _ 254 _ _ (omega arith) (search rules) c.loop-k.invariant).unknowns, byte_few _ c.from-unknown.ensures) }

pub overflow_add-live : goal.overflow_add-live
overflow_add-live c = record { fits = omega (arith, (adds_few 0 _ 254 _ _ (omega arith) (search rules) c.loop-k.invariant).lives, byte_few _ c.from-live.ensures) }

pub overflow_add-dead : goal.overflow_add-dead
overflow_add-dead c = record { fits = omega (arith, (adds_few 0 _ 254 _ _ (omega arith) (search rules) c.loop-k.invariant).deads, byte_few _ c.from-dead.ensures) }

pub loop-k-preserved : goal.loop-k-preserved
loop-k-preserved c =
    rw (c.from-open.ensures, c.from-unknown.ensures, c.from-live.ensures, c.from-dead.ensures) (adds_one 0 _ _ _ _ (omega arith) c.loop-k.invariant)
