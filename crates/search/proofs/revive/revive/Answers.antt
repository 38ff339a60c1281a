-- `revive` spreads life and settles it.
-- Assumes nothing.
use Prim.Native.Nat.{◌+◌}
use native.Mathlib.Omega.{arith}
use Rattle.std.proofs.Common.{rules}
use Rattle.tables.proofs.Marking.{visited_more}
use Rattle.search.specs.Spreading.{Live, allowed}
use Rattle.search.proofs.revive.revive.Goals as goal

-- The closure is the test of life.
pub spread-requires-clause-tells : goal.spread-requires-clause-tells
spread-requires-clause-tells c = (allowed Live c.args.status.now c.args.successor.now, λ y p r h k. search rules)

pub settle-requires : goal.settle-requires
settle-requires c =
    let w = c.args.work.now in
    let d = c.spread.ensures.spread (allowed Live c.args.status.now c.args.successor.now) (λ y p r h k. search rules) in
    let top = d.queued.top in
    let m = visited_more (c.spread.new.self.span.high + 1) c.args.arcs.n (omega arith) in
    record {
      status_in_bounds = omega (arith, top, c.requires);
      successor_in_bounds = omega (arith, top, c.requires);
      news_in_bounds = omega (arith, top, c.requires);
      visited_in_bounds = omega (arith, m, (rw c.requires.same_nodes at w.visited_in_bounds), d.visits.size);
      high_fits = omega (arith, top, w.n_fits, c.requires);
    }

pub returns-clause-revives : goal.returns-clause-revives
returns-clause-revives c =
    record {
      visits = c.spread.new.self.visited.now;
      span = c.spread.new.self.span;
      spread = c.spread.ensures.spread (allowed Live c.args.status.now c.args.successor.now) (λ y p r h k. search rules);
      settle = c.settle.ensures;
    }
