-- The measure of `put_digits`: the number itself.
-- Assumes nothing.
use Rattle.record.proofs.text.+put_digits.Given as goal

abbrev pub decreases-put_digits : goal.decreases-put_digits
decreases-put_digits l = l.value
