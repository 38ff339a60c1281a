-- The measure of `send`: the rank.
-- Assumes nothing.
use Rattle.enumeration.proofs.sending.+send.Given as goal

abbrev pub decreases-send : goal.decreases-send
decreases-send l = l.rank
