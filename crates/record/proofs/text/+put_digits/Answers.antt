-- `put_digits` meets its contract: a number has its first digits, and one more.
-- Assumes nothing.
use Rattle.record.proofs.Writing.{wrote_digit, wrote_more}
use Rattle.record.proofs.text.+put_digits.Goals as goal

pub returns-then-value-lt10 : goal.returns-then-value-lt10
returns-then-value-lt10 t c = wrote_digit c.args.value c.args.buf.now c.if-value-lt10.true c.requires

pub returns : goal.returns
returns t c = wrote_more c.args.value c.args.buf.now c.put_digits-at.new.buf c.put_digits-at.result c.if-value-lt10.false c.put_digits-at.ensures c.requires
