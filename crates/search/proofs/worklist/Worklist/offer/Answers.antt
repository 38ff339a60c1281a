-- `offer` passes the source over or admits it. There is room in the queue: a state that is not visited counts.
-- Assumes nothing.
use mathlib.Core.Path.{sym, ◌∙◌}
use native.Mathlib.Omega.{arith}
use Rattle.search.proofs.Marking.{unvisited_mark}
use Rattle.search.proofs.worklist.Worklist.offer.Goals as goal

pub admit-requires-clause-queue_has_room : goal.admit-requires-clause-queue_has_room
admit-requires-clause-queue_has_room g c =
    let w = c.args.self.now in
    let e = unvisited_mark w.visited.now c.args.y w.n c.if-y-self.true w.visited_in_bounds (sym c.has_visited.ensures ∙ c.if-not-has_visited.true) in
    omega (arith, c.requires)
