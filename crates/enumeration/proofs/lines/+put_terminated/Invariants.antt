-- The measure of `put_terminated`: the rank.
-- Assumes nothing.
use Rattle.enumeration.proofs.lines.+put_terminated.Given as goal

abbrev pub decreases-put_terminated : goal.decreases-put_terminated
decreases-put_terminated l = l.rank
