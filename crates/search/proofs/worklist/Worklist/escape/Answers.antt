-- `escape` releases a visited node that has a way out, and no other.
-- Assumes nothing.
use mathlib.Core.Path.{sym, ◌∙◌}
use native.Mathlib.Omega.{arith}
use Rattle.search.specs.Releasing.{leaves}
use Rattle.search.proofs.Walking.{linked_inside}
use Rattle.search.proofs.Releasing.{room_left, a_way}
use Rattle.search.proofs.worklist.Worklist.escape.Goals as goal

pub release-requires-clause-p_fits : goal.release-requires-clause-p_fits
release-requires-clause-p_fits c =
    let out = c.args.out in
    omega (arith, out.walkable.few, linked_inside out.head.now out.next.now out.steps c.args.x (a_way c.in-Some.ensures).1.0)

pub release-requires-clause-queue_has_room : goal.release-requires-clause-queue_has_room
release-requires-clause-queue_has_room c =
    let w = c.args.self.now in
    let r = c.requires in
    let h = room_left w.n w.visited.now c.args.successor.now w.queue.now w.span.len (rw r.same_nodes r.queue_has_room) c.args.x 0 (omega (arith, r)) (sym c.has_visited.ensures ∙ c.if-has_visited.true) w.visited_in_bounds (omega (arith, r)) w.queue_in_bounds in
    omega (arith, h)

pub returns-in-Some-clause-tried : goal.returns-in-Some-clause-tried
returns-in-Some-clause-tried c =
    let (t, l, e) = a_way c.in-Some.ensures in
    leaves c.in-Some.p t (sym c.has_visited.ensures ∙ c.if-has_visited.true) l e c.release.ensures.taken
