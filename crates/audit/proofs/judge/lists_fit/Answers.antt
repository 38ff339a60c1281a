-- `lists_fit` judges both lists, and then whether two steps are equal.
-- Assumes nothing.
use Rattle.std.proofs.Common.{sym, ◌∙◌, []}
use mathlib.Core.Bool.{false≢true}
use Rattle.audit.specs.Contents.{contents}
use Rattle.audit.proofs.Chaining.{same_chains}
use Rattle.audit.proofs.Judging.{lists_judged}
use Rattle.audit.proofs.judge.lists_fit.Goals as goal
use Rattle.audit.proofs.judge.lists_fit.Goals.{then-list_fits, else-list_fits}

pub returns-then-list_fits-2 : goal.returns-then-list_fits-2
returns-then-list_fits-2 c =
    let i = same_chains c.both_ways-arcs.ensures.into in
    let o = same_chains c.both_ways-arcs.ensures.out_of in
    elim c.if-list_fits.branch [
      | then-list_fits w ↦
          lists_judged (contents c.args.stored [] c.args.queue.now [])
          (rw (i.n, i.m, i.head, i.next) at c.list_fits.ensures) w.if-list_fits.true
          (rw (o.n, o.m, o.head, o.next) at w.list_fits-then-list_fits.ensures) (sym w.value-is ∙ c.if-list_fits-2.true)
          (rw (i.n, i.m, i.ends, i.head, i.next, w.queue-is) at c.steps_differ.ensures)
      | else-list_fits w ↦ absurd (false≢true (sym w.if-list_fits.false ∙ sym w.value-is ∙ c.if-list_fits-2.true))
    ]
