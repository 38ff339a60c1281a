-- The marks of a state in one byte: "the sum of 1 (named), 2 (terminal), 4 (closed). A byte above 7 does not fit; there too each mark is read as its bit, and an accepted update sets bits and clears none."
-- Assumes nothing.
use Rattle.std.specs.Prelude.{Bool, false, List, ℕ, ◌+◌, ◌*◌, ◌-◌, ◌/◌, ◌%◌, eqb, get_or}
use Rattle.gid.specs.declared.Update.{Update}
use Rattle.gid.specs.declared.Update.TheVariants.{Step, Terminal, Close}
use Rattle.tables.specs.declared.marks.Mark.{Mark}
use Rattle.tables.specs.declared.marks.Mark.TheVariants.{Named, Terminal as Saved, Closed}

abbrev pub has_named : ℕ → Bool
has_named m = eqb (m % 2) 1

abbrev pub has_terminal : ℕ → Bool
has_terminal m = eqb (m / 2 % 2) 1

abbrev pub has_closed : ℕ → Bool
has_closed m = eqb (m / 4 % 2) 1

-- The byte with a mark set.
unfoldable pub with_named : ℕ → ℕ
with_named m = m + (1 - m % 2)

unfoldable pub with_terminal : ℕ → ℕ
with_terminal m = m + 2 * (1 - m / 2 % 2)

unfoldable pub with_closed : ℕ → ℕ
with_closed m = m + 4 * (1 - m / 4 % 2)

-- So for each mark, with what it adds to the byte.
abbrev pub weight : Mark → ℕ
weight Named = 1
weight Saved = 2
weight Closed = 4

abbrev pub has_mark : Mark → ℕ → Bool
has_mark Named = has_named
has_mark Saved = has_terminal
has_mark Closed = has_closed

abbrev pub with_mark : Mark → ℕ → ℕ
with_mark Named = with_named
with_mark Saved = with_terminal
with_mark Closed = with_closed

-- The update is "a close of a closed state" (document 02, #102), by the state's mark.
abbrev pub closes_again : Update → List ℕ → Bool
closes_again (Step e) marks = false
closes_again (Terminal u) marks = false
closes_again (Close u) marks = has_closed (get_or marks u 0)
