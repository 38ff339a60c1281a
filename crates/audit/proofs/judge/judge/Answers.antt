-- `judge` answers yes exactly where all facts hold: each part in turn, and a no at the first that fails.
-- Assumes nothing.
use Rattle.std.proofs.Common.{sym, ◌∙◌, []}
use Rattle.audit.specs.Contents.{contents}
use Rattle.audit.proofs.Judging.{none_visited, ends_below, entries_denied, lists_denied, judged}
use Rattle.audit.proofs.judge.judge.Goals as goal
use Rattle.audit.proofs.judge.judge.Goals.{then-entries_fit, else-entries_fit}

pub lists_fit-requires-clause-from_below : goal.lists_fit-requires-clause-from_below
lists_fit-requires-clause-from_below c = (ends_below (contents c.args.stored [] [] c.args.visited.now) (c.entries_fit.ensures.0 c.if-entries_fit.true)).0

pub lists_fit-requires-clause-to_below : goal.lists_fit-requires-clause-to_below
lists_fit-requires-clause-to_below c = (ends_below (contents c.args.stored [] [] c.args.visited.now) (c.entries_fit.ensures.0 c.if-entries_fit.true)).1

pub claims_fit-requires-clause-none_visited : goal.claims_fit-requires-clause-none_visited
claims_fit-requires-clause-none_visited c =
    elim c.if-entries_fit.branch [
      | then-entries_fit w ↦ none_visited (contents c.args.stored [] [] c.args.visited.now) (c.entries_fit.ensures.0 w.if-entries_fit.true)
      | else-entries_fit w ↦ absurd (cc)
    ]

pub returns-then-lists_fit : goal.returns-then-lists_fit
returns-then-lists_fit c = λ news.
    elim c.if-entries_fit.branch [
      | then-entries_fit w ↦ judged (contents c.args.stored news c.args.queue.now c.args.visited.now) w.lists_fit.ensures.exact (rw w.queue-is w.lists_fit.ensures.kept) (c.entries_fit.ensures.0 w.if-entries_fit.true) (sym w.value-is ∙ c.if-lists_fit.true) c.claims_fit.ensures
      | else-entries_fit w ↦ absurd (cc)
    ]

pub returns-else-lists_fit : goal.returns-else-lists_fit
returns-else-lists_fit c = λ news.
    let t = contents c.args.stored news c.args.queue.now c.args.visited.now in
    elim c.if-entries_fit.branch [
      | then-entries_fit w ↦ rw (c.if-lists_fit.false, w.queue-is) (lists_denied t w.lists_fit.ensures.exact w.lists_fit.ensures.kept (sym w.value-is ∙ c.if-lists_fit.false))
      | else-entries_fit w ↦ rw (c.if-lists_fit.false, w.queue-is) (entries_denied t (rw w.if-entries_fit.false at c.entries_fit.ensures))
    ]
