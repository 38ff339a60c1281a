-- `gather` queues and visits the starts.
-- Assumes nothing.
use Rattle.std.proofs.Common.{rules, sym, ◌∙◌, arith}
use Rattle.audit.specs.Facts.{starts_at}
use Rattle.audit.proofs.Gathering.{gathered_none, gathered_room, gathered_passed, gathered_admitted}
use Rattle.audit.proofs.claims.gather.Goals as goal
use Rattle.audit.proofs.claims.gather.Goals.{then-starts, else-starts}

pub loop-s-init : goal.loop-s-init
loop-s-init c = record { same = search rules; gathered = rw c.none-work.ensures (gathered_none (starts_at c.args.verdict c.args.stored.status.now c.args.stored.marks.now) c.args.stored.some_states c.requires.none_visited) }

pub admit-requires-clause-queue_has_room : goal.admit-requires-clause-queue_has_room
admit-requires-clause-queue_has_room c =
    let t = c.args.stored in
    let w = c.args.work.now in
    let g = c.loop-s.invariant.gathered in
    let room = gathered_room (starts_at c.args.verdict t.status.now t.marks.now) g c.loop-s-test.true (rw c.requires.same_nodes at w.visited_in_bounds) (rw c.requires.same_nodes at w.queue_in_bounds) in
    omega (arith, room, g.queues.size, c.loop-s.invariant.same.n, c.requires.same_nodes)

pub loop-s-preserved : goal.loop-s-preserved
loop-s-preserved c =
    let a = c.args in
    let w = a.work.now in
    let i = c.loop-s.invariant in
    let h = c.loop-s-test.true in
    let starting = starts_at a.verdict a.stored.status.now a.stored.marks.now in
    let in_v = rw c.requires.same_nodes at w.visited_in_bounds in
    let in_q = rw c.requires.same_nodes at w.queue_in_bounds in
    elim c.if-starts.branch [
      | then-starts b ↦ rw b.work-is (record { same = search rules; gathered = gathered_admitted starting i.gathered h in_v in_q (sym c.starts.ensures ∙ b.if-starts.true) b.admit.ensures.admitted })
      | else-starts b ↦ rw b.work-is (record { same = i.same; gathered = gathered_passed starting i.gathered h in_v in_q (sym c.starts.ensures ∙ b.if-starts.false) })
    ]
