-- The measure of `is_unclosed`: the rank.
-- Assumes nothing.
use Rattle.enumeration.proofs.ranks.+is_unclosed.Given as goal

abbrev pub decreases-is_unclosed : goal.decreases-is_unclosed
decreases-is_unclosed l = l.rank
