-- `meets_open` answers true only where an open state is near. The invariant: if one is near s, one is near the start.
-- Assumes nothing.
use native.Mathlib.Omega.{arith}
use Rattle.search.specs.Escaping.{toward}
use Rattle.search.proofs.Escaping.{near_here, near_before}
use Rattle.search.proofs.near.Successors.meets_open.Goals as goal

pub returns-then-self-s-eq-OPEN : goal.returns-then-self-s-eq-OPEN
returns-then-self-s-eq-OPEN c =
    let a = c.args.self in
    λ _. c.loop.invariant (near_here a.out.n (toward a.out.steps a.out.ends.now) a.status.now a.successor.now c.loop.s (omega arith) c.if-self-s-eq-OPEN.true)

pub loop-preserved : goal.loop-preserved
loop-preserved c =
    let a = c.args.self in
    λ d. c.loop.invariant (near_before a.out.n (toward a.out.steps a.out.ends.now) a.status.now a.successor.now c.loop.s c.in-Some.t c.in-Some.ensures d)
