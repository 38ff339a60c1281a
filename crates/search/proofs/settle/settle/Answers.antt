-- `settle` settles the visited nodes of the span. The loop's invariant: the nodes below s have been seen. The measure is how many are left.
-- Assumes nothing.
use mathlib.Core.Path.{refl, ◌∙◌}
use Rattle.std.proofs.Common.{rules}
use Rattle.search.proofs.Settling.{settling_first, settling_next, settling_mark, settling_skip, settling_last, settled_list}
use Rattle.search.proofs.settle.settle.Goals as goal

pub loop-s-init : goal.loop-s-init
loop-s-init c = record { same = refl; settling = settling_first }

pub settle_node-requires-clause-has_mark : goal.settle_node-requires-clause-has_mark
settle_node-requires-clause-has_mark c = settling_mark c.loop-s.invariant.settling c.requires.visited_in_bounds c.loop-s.s c.loop-s-test.true

pub skip_unvisited-s-requires-clause-has_mark : goal.skip_unvisited-s-requires-clause-has_mark
skip_unvisited-s-requires-clause-has_mark c =
    let r = c.requires in
    let next = settling_next c.loop-s.invariant.settling c.loop-s-test.true r.status_in_bounds r.successor_in_bounds r.news_in_bounds r.visited_in_bounds c.settle_node.ensures.settled in
    settling_mark next r.visited_in_bounds c.loop-s.s c.loop-s-test.true

pub loop-s-preserved : goal.loop-s-preserved
loop-s-preserved c =
    let n = c.skip_unvisited-s.ensures in
    let r = c.requires in
    record {
      same = c.settle_node.ensures.same ∙ c.loop-s.invariant.same;
      settling = settling_skip (settling_next c.loop-s.invariant.settling c.loop-s-test.true r.status_in_bounds r.successor_in_bounds r.news_in_bounds r.visited_in_bounds c.settle_node.ensures.settled) n.onward n.none_between;
    }

pub returns : goal.returns
returns c = settled_list (settling_last c.loop-s.invariant.settling c.loop-s-test.false) (search rules)
