-- The measure of `is_legal`: the rank.
-- Assumes nothing.
use Rattle.enumeration.proofs.ranks.+is_legal.Given as goal

abbrev pub decreases-is_legal : goal.decreases-is_legal
decreases-is_legal l = l.rank
