-- `put_steps` meets its contract.
-- Assumes nothing.
use native.Mathlib.Omega.{arith}
use lib.Dec.{eqb}
use lib.ListN.{get_or}
use Rattle.std.proofs.Common.{rules}
use Rattle.record.proofs.Putting.{puts_none, puts_then}
use Rattle.picture.specs.Picture.{steps_text}
use Rattle.picture.proofs.Drawing.{steps_next, step_short}
use Rattle.picture.proofs.text.put_steps.Goals as goal

pub loop-p-init : goal.loop-p-init
unfolding steps_text
loop-p-init c = record { puts = puts_none c.args.text.now (omega arith); within = omega arith }

pub put_step-requires : goal.put_step-requires
put_step-requires c =
    let short = step_short c.from-source.result c.from-target.result c.from-in-loop-p.result (eqb c.from.result c.loop-p.p) (search rules) (search rules) (search rules) in
    omega (arith, short, c.loop-p.invariant.within, c.loop-p.invariant.puts.size)

pub loop-p-preserved : goal.loop-p-preserved
loop-p-preserved c =
    let s = c.args.shown in
    let short = step_short c.from-source.result c.from-target.result c.from-in-loop-p.result (eqb c.from.result c.loop-p.p) (search rules) (search rules) (search rules) in
    let step = rw (c.from.ensures, c.successor_of.ensures, c.from-source.ensures, c.from-target.ensures, c.from-in-loop-p.ensures) at c.put_step.ensures in
    record {
      puts =
          rw (steps_next (λ i. get_or s.from.now i 0) (λ i. get_or s.to.now i 0) (λ i. get_or s.key.now i 0) (λ i. get_or s.successor.now i 65535) c.loop-p.p)
          (puts_then c.loop-p.invariant.puts step);
      within = omega (arith, short, c.loop-p.invariant.within, c.put_step.ensures.wrote.after);
    }
