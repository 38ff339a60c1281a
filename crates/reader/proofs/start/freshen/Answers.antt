-- `freshen` makes the tables fresh.
-- Assumes nothing.
use Rattle.gid.specs.Successors.{no_successor}
use Rattle.tables.specs.Lending.{contents}
use Rattle.reader.specs.Opening.{reader_states}
use Rattle.reader.proofs.Opening.{visited_long, front, front_filled, visited_filled, freshened_by}
use Rattle.reader.proofs.start.freshen.Goals as goal

pub slice_bounds-fill-end-13 : goal.slice_bounds-fill-end-13
slice_bounds-fill-end-13 c = visited_long c.args.tables.now.visited.now c.requires.visited

pub slice_bounds-fill-end-14 : goal.slice_bounds-fill-end-14
slice_bounds-fill-end-14 c = let l = c.args.tables.now.visited.now in front 128 l (visited_long l c.requires.visited)

pub returns-clause-fresh : goal.returns-clause-fresh
returns-clause-fresh c =
    let m = c.args.limit in
    let t = contents c.args.tables.now in
    let l = c.requires in
    freshened_by m t
    (front_filled reader_states 0 t.status _ l.status c.fill.ensures.after)
    (front_filled reader_states 0 t.marks _ l.marks c.fill-2.ensures.after)
    (front_filled reader_states no_successor t.successor _ l.successor c.fill-3.ensures.after)
    (front_filled reader_states 0 t.in_head _ l.in_head c.fill-4.ensures.after)
    (front_filled reader_states 0 t.out_head _ l.out_head c.fill-5.ensures.after)
    (front_filled reader_states 0 t.queue _ l.queue c.fill-6.ensures.after)
    (visited_filled t.visited _ l.visited c.fill-7.ensures.after)
    (front_filled m 0 t.in_next _ l.in_next c.fill-8.ensures.after)
    (front_filled m 0 t.out_next _ l.out_next c.fill-9.ensures.after)
