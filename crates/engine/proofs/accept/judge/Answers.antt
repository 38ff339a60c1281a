-- `judge` spreads life, finds a way out near by, searches for the dead, or does nothing: its four ways are those of `Judged`. A state that an answer names is one of the update's, so it is below n.
-- Assumes nothing.
use mathlib.Core.Path.{refl, sym}
use native.Mathlib.Omega.{arith}
use Rattle.std.proofs.Common.{rules}
use Rattle.search.proofs.Spreading.{begun_queued}
use Rattle.search.proofs.Walking.{linked_inside}
use Rattle.engine.specs.Judging.{revived, nears, swept}
use Rattle.engine.proofs.Acting.{quickened_below, endangered_below, judged_lent}
use Rattle.engine.proofs.accept.judge.Goals as goal

pub begin-requires : goal.begin-requires
begin-requires c = record { in_range = quickened_below _ c.args.update c.args.status.now _ c.requires.in_range (sym c.in-Some.ensures) }

pub revive-requires-clause-queued : goal.revive-requires-clause-queued
revive-requires-clause-queued c =
    let a = c.args in
    begun_queued c.begin.ensures.begun a.arcs.into.n (quickened_below _ a.update a.status.now _ c.requires.in_range (sym c.in-Some.ensures)) c.requires.visited_in_bounds c.requires.queue_in_bounds

pub returns-in-Some : goal.returns-in-Some
returns-in-Some c = judged_lent (revived c.in-Some.u (sym c.in-Some.ensures) c.begin.new.self.span c.begin.new.self.visited.now c.begin.new.self.queue.now c.begin.ensures.begun c.revive.ensures.revives) (search rules) (search rules)

pub bounds-status-u : goal.bounds-status-u
bounds-status-u c =
    let a = c.args in
    omega (arith, endangered_below _ a.update a.status.now _ c.requires.in_range (sym c.in-Some-endangered.ensures), c.requires.status_in_bounds)

pub near_escape-requires-clause-in_range : goal.near_escape-requires-clause-in_range
near_escape-requires-clause-in_range c =
    let a = c.args in
    omega (arith, a.arcs.same_nodes, endangered_below _ a.update a.status.now _ c.requires.in_range (sym c.in-Some-endangered.ensures))

pub overflow_cast-successor : goal.overflow_cast-successor
overflow_cast-successor c =
    let o = c.args.arcs.out_of in
    omega (arith, linked_inside o.head.now o.next.now o.steps c.in-Some-endangered.u c.in-Some-near_escape.ensures.1.0, o.walkable.few)

pub offset_bounds-successor-u : goal.offset_bounds-successor-u
offset_bounds-successor-u c =
    let a = c.args in
    omega (arith, endangered_below _ a.update a.status.now _ c.requires.in_range (sym c.in-Some-endangered.ensures), c.requires.n_fits)

pub bounds-successor-u : goal.bounds-successor-u
bounds-successor-u c =
    let a = c.args in
    omega (arith, endangered_below _ a.update a.status.now _ c.requires.in_range (sym c.in-Some-endangered.ensures), c.requires.successor_in_bounds)

pub returns-in-Some-near_escape : goal.returns-in-Some-near_escape
returns-in-Some-near_escape c =
    let w = c.in-Some-near_escape.ensures in
    nears c.in-Some-endangered.u c.in-Some-near_escape.p w.0 (sym c.in-Some-endangered.ensures) w.1 (rw (sym c.args.arcs.same_nodes) at w.2) refl refl

pub begin-requires-2 : goal.begin-requires-2
begin-requires-2 c = record { in_range = endangered_below _ c.args.update c.args.status.now _ c.requires.in_range (sym c.in-Some-endangered.ensures) }

pub sweep-requires-clause-queued : goal.sweep-requires-clause-queued
sweep-requires-clause-queued c =
    let a = c.args in
    begun_queued c.begin-2.ensures.begun a.arcs.into.n (endangered_below _ a.update a.status.now _ c.requires.in_range (sym c.in-Some-endangered.ensures)) c.requires.visited_in_bounds c.requires.queue_in_bounds

pub returns : goal.returns
returns c = judged_lent (swept c.in-Some-endangered.u (sym c.in-Some-endangered.ensures) c.begin-2.new.self.span c.begin-2.new.self.visited.now c.begin-2.new.self.queue.now c.begin-2.ensures.begun c.sweep.ensures.sweeps) (search rules) (search rules)
