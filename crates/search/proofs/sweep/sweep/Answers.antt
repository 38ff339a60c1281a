-- `sweep` visits, releases and settles. The room for a rescue is what the escapes leave.
-- Assumes nothing.
use Prim.Native.Nat.{◌+◌}
use mathlib.Core.Path.{sym, ◌∙◌}
use native.Mathlib.Omega.{arith}
use Rattle.std.proofs.Common.{rules}
use Rattle.tables.proofs.Marking.{visited_more}
use Rattle.search.specs.Spreading.{Tree, allowed}
use Rattle.search.proofs.sweep.sweep.Goals as goal

-- The closure is the test of a successor.
pub spread-requires-clause-tells : goal.spread-requires-clause-tells
spread-requires-clause-tells c = (allowed Tree c.args.status.now c.args.successor.now, λ y p r h k. search rules)

pub escapes-requires-clause-len_in_range : goal.escapes-requires-clause-len_in_range
escapes-requires-clause-len_in_range c =
    let d = c.spread.ensures.spread (allowed Tree c.args.status.now c.args.successor.now) (λ y p r h k. search rules) in
    omega (arith, d.queued.room, c.args.arcs.same_nodes)

pub escapes-requires-clause-queued_below : goal.escapes-requires-clause-queued_below
escapes-requires-clause-queued_below c =
    let d = c.spread.ensures.spread (allowed Tree c.args.status.now c.args.successor.now) (λ y p r h k. search rules) in
    rw c.args.arcs.same_nodes at d.queued.inside

pub settle-requires : goal.settle-requires
settle-requires c =
    let w = c.args.work.now in
    let d = c.spread.ensures.spread (allowed Tree c.args.status.now c.args.successor.now) (λ y p r h k. search rules) in
    let x = c.escapes.ensures.escapes.releases in
    let y = c.rescue.ensures.rescues.releases in
    let e = c.rescue.ensures.bounds.high ∙ c.escapes.ensures.bounds.high in
    let top = rw (sym e) at d.queued.top in
    let m = visited_more (c.rescue.new.self.span.high + 1) c.args.arcs.into.n (omega arith) in
    record {
      status_in_bounds = omega (arith, top, c.requires);
      successor_in_bounds = omega (arith, top, c.requires, y.successors.size, x.successors.size);
      news_in_bounds = omega (arith, top, c.requires);
      visited_in_bounds = omega (arith, m, (rw c.requires.same_nodes at w.visited_in_bounds), y.visits.size, x.visits.size, d.visits.size);
      high_fits = omega (arith, top, w.n_fits, c.requires);
    }

pub returns-clause-sweeps : goal.returns-clause-sweeps
returns-clause-sweeps c =
    record {
      visits = c.spread.new.self.visited.now;
      queue = c.spread.new.self.queue.now;
      span = c.spread.new.self.span;
      spread = c.spread.ensures.spread (allowed Tree c.args.status.now c.args.successor.now) (λ y p r h k. search rules);
      escaped = c.escapes.new.self.span.len;
      visits₁ = c.escapes.new.self.visited.now;
      successor₁ = c.escapes.new.successor;
      queue₁ = c.escapes.new.self.queue.now;
      escapes = rw (← c.args.arcs.same_nodes) at c.escapes.ensures.escapes;
      rescued = c.rescue.new.self.span.len;
      visits₂ = c.rescue.new.self.visited.now;
      successor₂ = c.rescue.new.successor;
      rescues = c.rescue.ensures.rescues;
      settle = rw (c.rescue.ensures.bounds.low ∙ c.escapes.ensures.bounds.low, c.rescue.ensures.bounds.high ∙ c.escapes.ensures.bounds.high) at c.settle.ensures;
    }
