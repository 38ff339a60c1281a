-- How many small histories there are, without listing one: "The count printed at the end equals the count given by a definition that does not run the listing" (document 02, #114).
-- Assumes nothing.
use Rattle.std.specs.Prelude.{ℕ, zero, suc, ◌+◌, ◌*◌, ◌-◌}

-- In how many ways k updates may follow a legal history that has closed c of the two states. A step from one of the 2 - c others to either state, a terminal mark on one of them, and a close of one of the c again leave c states closed; a close of one of the 2 - c makes them one more.
unfoldable pub ways : ℕ → ℕ → ℕ
ways zero c = 1
ways (suc k) c = (3 * (2 - c) + c) * ways k c + (2 - c) * ways k (c + 1)

-- The legal histories of at most k updates: by their number of updates, each from the empty history.
unfoldable pub count_up_to : ℕ → ℕ
count_up_to zero = ways 0 0
count_up_to (suc k) = count_up_to k + ways (suc k) 0

-- "at most three updates"
unfoldable pub history_count : ℕ
history_count = count_up_to 3
