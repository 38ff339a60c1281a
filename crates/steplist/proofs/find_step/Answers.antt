-- `find_step` answers the first place of an equal step. The loop's invariant: none is before the block that starts at start. The measure is the number of places left.
-- Assumes nothing.
use Rattle.std.proofs.Common.{sym, ◌∙◌, ap, arith, rules}
use Rattle.tables.specs.Listing.{is_equal_at}
use Rattle.steplist.specs.Places.{place_of}
use Rattle.steplist.proofs.Places.{first_none, found_stays, block_none}
use Rattle.steplist.proofs.find_step.Goals as goal
use Rattle.steplist.proofs.find_step.Goals.{else-has_pair-via-else-has_pair, else-has_pair-via-then-has_pair+in-None-1}

pub loop-start-init : goal.loop-start-init
loop-start-init c =
    let s = c.args.steps in
    record { within = omega arith; none_before = first_none (is_equal_at s.from.now s.to.now s.key.now c.args.edge) }

pub returns-in-loop-start : goal.returns-in-loop-start
returns-in-loop-start c =
    let s = c.args.steps in
    let f = is_equal_at s.from.now s.to.now s.key.now c.args.edge in
    sym (found_stays f c.min-end.result s.len (omega arith) (sym c.look.ensures ∙ ap place_of c.in-Some.is))

pub loop-start-preserved : goal.loop-start-preserved
loop-start-preserved c =
    let s = c.args.steps in
    record {
      within = omega arith;
      none_before = elim c.else-has_pair.branch [
        | else-has_pair-via-else-has_pair w ↦ block_none s.from.now s.to.now s.key.now c.args.edge c.loop-start.invariant.none_before (c.has_pair.ensures w.if-has_pair.false)
        | else-has_pair-via-then-has_pair+in-None-1 w ↦ sym w.look.ensures ∙ search rules
      ];
    }
