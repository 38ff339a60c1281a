-- `filled` meets its contract.
-- Assumes nothing.
use Rattle.std.proofs.Common.{◌≡◌, ◌+◌, sym, ◌∙◌, ap, get_or, arith}
use Rattle.record.specs.Buffer.{with_byte, filled_from}
use Rattle.record.proofs.Filling.{with_long, with_short, filled_end, filled_break, filled_more}
use Rattle.record.proofs.line.Line.filled.Goals as goal
use Rattle.record.proofs.line.Line.filled.Goals.{then-len-lt16, else-len-lt16}

pub returns-then-b-eq10 : goal.returns-then-b-eq10
returns-then-b-eq10 c = sym (c.loop-i.invariant.same_line ∙ filled_break c.loop-i.line c.args.s.now c.loop-i.i c.loop-i-test.true c.if-b-eq10.true)

pub loop-i-preserved : goal.loop-i-preserved
loop-i-preserved c =
    let s = c.args.s.now in
    let i = c.loop-i.i in
    let line = c.loop-i.line in
    let taken : with_byte line (get_or s i 0) ≡ c.if-len-lt16.line = elim c.if-len-lt16.branch [
      | then-len-lt16 w ↦ with_short line (get_or s i 0) w.if-len-lt16.true ∙ sym w.line-is
      | else-len-lt16 w ↦ with_long line (get_or s i 0) w.if-len-lt16.false ∙ sym w.line-is
    ] in
    record {
      within = omega arith;
      same_line = c.loop-i.invariant.same_line ∙ filled_more line s i c.loop-i-test.true c.if-b-eq10.false ∙ ap (λ x. filled_from x s (i + 1)) taken;
    }

pub returns : goal.returns
returns c =
    let end : c.loop-i.i ≡ c.max.result = omega arith in
    rw (← end) (sym (c.loop-i.invariant.same_line ∙ filled_end c.loop-i.line c.args.s.now c.loop-i.i c.loop-i-test.false))
