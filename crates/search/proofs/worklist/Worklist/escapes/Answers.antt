-- `escapes` releases each queued node with a way out. The invariant: so far it did.
-- Assumes nothing.
use mathlib.Core.Path.{sym}
use native.Mathlib.Omega.{arith}
use Rattle.std.proofs.Common.{rules}
use Rattle.search.proofs.Releasing.{trying_none, trying_more}
use Rattle.search.proofs.worklist.Worklist.escapes.Goals as goal

pub loop-at-init : goal.loop-at-init
loop-at-init c = record { same = search rules; bounds = search rules; trying = trying_none }

pub loop-at-preserved : goal.loop-at-preserved
loop-at-preserved c =
    let w = c.args.self.now in
    let r = c.requires in
    let i = c.loop-at.invariant in
    let e = c.escape.ensures in
    let b = r.queued_below c.loop-at.at (omega arith) in
    let z = i.trying.rest c.loop-at.at (omega arith) in
    record {
      same = search rules;
      bounds = search rules;
      trying = trying_more i.trying (rw (← r.same_nodes) w.visited_in_bounds) r.successor_in_bounds (rw (← r.same_nodes) w.queue_in_bounds) c.from-x.result (sym c.from-x.ensures) (omega (arith, c.from-x.ensures)) e.tried;
    }
