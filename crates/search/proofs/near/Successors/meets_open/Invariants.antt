-- `meets_open` answers true only where an open state is near. The invariant: if one is near s, one is near the start.
-- Assumes nothing.
use Rattle.search.specs.Escaping.{toward, Near}
use Rattle.search.proofs.near.Successors.meets_open.Given as goal

abbrev pub invariant-loop : goal.invariant-loop
invariant-loop l =
    let near = Near l.self.out.n (toward l.self.out.steps l.self.out.ends.now) l.self.status.now l.self.successor.now in
    near l.s → near l.start
