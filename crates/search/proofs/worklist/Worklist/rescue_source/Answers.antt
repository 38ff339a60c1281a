-- `rescue_source` releases a visited source, and no other.
-- Assumes nothing.
use mathlib.Core.Path.{sym, ◌∙◌}
use native.Mathlib.Omega.{arith}
use Rattle.search.proofs.Releasing.{room_left}
use Rattle.search.proofs.worklist.Worklist.rescue_source.Goals as goal

pub release-requires-clause-queue_has_room : goal.release-requires-clause-queue_has_room
release-requires-clause-queue_has_room c =
    let w = c.args.self.now in
    let r = c.requires in
    let h = room_left w.n w.visited.now c.args.successor.now w.queue.now w.span.len r.queue_has_room c.args.y 0 c.if-y-self.true (sym c.has_visited.ensures ∙ c.if-has_visited.true) w.visited_in_bounds r.successor_in_bounds w.queue_in_bounds in
    omega (arith, h)
