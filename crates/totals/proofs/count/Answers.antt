-- `count` meets its contract: the counts behind a block are those of states that are asked for, and so fit.
-- Assumes nothing.
use native.Mathlib.Omega.{arith}
use Rattle.std.proofs.Common.{rules}
use Rattle.totals.proofs.Counting.{passed_block, block_few, passed_all}
use Rattle.totals.proofs.count.Goals as goal

pub overflow_add-open : goal.overflow_add-open
overflow_add-open c =
    record { fits = omega (arith, (block_few c.args.n c.args.status.now _ _ _ _ _ c.loop-block.invariant.3 c.in-Some.ensures.steps.1.0 c.count_block-part.ensures).opens) }

pub overflow_add-unknown : goal.overflow_add-unknown
overflow_add-unknown c =
    record { fits = omega (arith, (block_few c.args.n c.args.status.now _ _ _ _ _ c.loop-block.invariant.3 c.in-Some.ensures.steps.1.0 c.count_block-part.ensures).unknowns) }

pub overflow_add-live : goal.overflow_add-live
overflow_add-live c =
    record { fits = omega (arith, (block_few c.args.n c.args.status.now _ _ _ _ _ c.loop-block.invariant.3 c.in-Some.ensures.steps.1.0 c.count_block-part.ensures).lives) }

pub overflow_add-dead : goal.overflow_add-dead
overflow_add-dead c =
    record { fits = omega (arith, (block_few c.args.n c.args.status.now _ _ _ _ _ c.loop-block.invariant.3 c.in-Some.ensures.steps.1.0 c.count_block-part.ensures).deads) }

pub loop-block-preserved : goal.loop-block-preserved
loop-block-preserved c =
    let steps = c.in-Some.ensures.steps in
    (search rules, tt, search rules, passed_block _ _ _ _ _ _ c.loop-block.invariant.3 steps.1.0 c.count_block-part.ensures)

pub returns : goal.returns
returns c = passed_all c.args.n c.args.status.now _ _ c.in-None.ensures.steps.1.0 c.loop-block.invariant.3
