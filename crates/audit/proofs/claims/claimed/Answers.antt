-- `claimed` answers yes exactly where each state with the verdict is reached from a start, and leaves no state visited.
-- Assumes nothing.
use Rattle.std.proofs.Common.{◌≤◌, length, arith}
use Rattle.tables.specs.Tables.{visited_length}
use Rattle.search.specs.Spreading.{allowed}
use Rattle.audit.specs.Contents.{arcs_of}
use Rattle.audit.proofs.Chaining.{filled_front, same_chains}
use Rattle.audit.proofs.Gathering.{answered}
use Rattle.audit.proofs.claims.claimed.Goals as goal

pub spread-requires-clause-tells : goal.spread-requires-clause-tells
spread-requires-clause-tells g c =
    let t = c.args.stored in
    (allowed c.requires.tells.0 t.status.now t.successor.now, λ y i r h a. c.requires.tells.1 y i r (omega (arith, (same_chains c.both_ways-arcs.ensures.into).n)) a)

pub returns-clause-answered : goal.returns-clause-answered
returns-clause-answered g c = λ mode tells.
    let a = c.args in
    let t = a.stored in
    let w = a.work.now in
    let i = same_chains c.both_ways-arcs.ensures.into in
    let gathered = c.gather.ensures.gathered in
    let d = rw (i.n, i.m, i.ends, i.head, i.next) at (c.spread.ensures.spread (allowed mode t.status.now t.successor.now) (λ y j r h k. tells y j r (omega (arith, i.n)) k)) in
    let long : visited_length t.n ≤ length c.spread.new.self.visited.now = omega (arith, (rw c.requires.same_nodes at w.visited_in_bounds), gathered.visits.size, d.visits.size) in
    answered {Arc = arcs_of t} mode a.verdict t.status.now t.marks.now t.successor.now gathered d c.all_covered-all.ensures long c.visited_len.ensures (filled_front _ 0 _ (rw c.visited_len.ensures long) (c.fill.ensures.after (λ y h. h)))
