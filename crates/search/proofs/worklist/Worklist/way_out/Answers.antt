-- `way_out` answers a step that leads out, or none does. The invariant: none that the walk has passed.
-- Assumes nothing.
use mathlib.Core.Path.{refl, sym, ◌∙◌}
use lib.ListN.{get_or}
use Rattle.search.specs.Releasing.{found}
use Rattle.search.proofs.Walking.{walk_here, walk_next}
use Rattle.search.proofs.worklist.Worklist.way_out.Goals as goal

pub returns-then-leads_out : goal.returns-then-leads_out
returns-then-leads_out c = found c.in-Some.p (get_or c.args.out.ends.now c.in-Some.p 0) refl (walk_here c.loop-p.invariant.walk c.in-Some.p c.in-Some.ensures.steps, refl) (rw (c.requires.same_nodes, c.from.ensures) at (sym c.leads_out.ensures ∙ c.if-leads_out.true))

pub loop-p-preserved : goal.loop-p-preserved
loop-p-preserved c = record { can_next = tt; is_finite = tt; walk = walk_next c.loop-p.invariant.walk c.in-Some.p c.in-Some.ensures.steps (rw (c.requires.same_nodes, c.from.ensures) at (sym c.leads_out.ensures ∙ c.if-leads_out.false)) }
