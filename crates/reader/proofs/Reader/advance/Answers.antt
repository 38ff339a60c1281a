-- `advance` reads line after line.
-- Assumes nothing.
use Rattle.std.proofs.Common.{rules}
use mathlib.Core.Path.{sym, ◌∙◌}
use Rattle.reader.proofs.Going.{going_line, going_found, going_ended}
use Rattle.reader.proofs.Reader.advance.Goals as goal

pub returns-then-is_met-clause-advances : goal.returns-then-is_met-clause-advances
returns-then-is_met-clause-advances c =
    let t = c.turn-turn.ensures in
    (going_found c.loop-next.invariant.going c.loop-next-test.true t.next t.splitter t.came (sym c.is_met.ensures ∙ c.if-is_met.true)).2

pub loop-next-preserved : goal.loop-next-preserved
loop-next-preserved c =
    let t = c.turn-turn.ensures in
    record {
      still_lent = search rules;
      going = going_line c.loop-next.invariant.going c.loop-next-test.true t.next t.splitter t.came (sym c.is_met.ensures ∙ c.if-is_met.false);
    }

pub returns-clause-advances : goal.returns-clause-advances
returns-clause-advances c = (going_ended c.loop-next.invariant.going c.loop-next-test.false).2
