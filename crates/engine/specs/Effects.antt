-- What an accepted update does to the marks, and what it is to name states, on tables with any contents.
-- Assumes nothing.
use Rattle.std.specs.Prelude.{cond, List, ℕ, eqb, get_or, set}
use Rattle.gid.specs.declared.Update.{Update}
use Rattle.gid.specs.declared.Update.TheVariants.{Step, Terminal, Close}
use Rattle.gid.specs.Statuses.{status_unseen, status_open}
use Rattle.tables.specs.Tables.{Tables, tables_of}
use Rattle.tables.specs.Marks.{with_named, with_terminal, with_closed, closes_again}

-- A mark is set in the byte of a state.
abbrev pub mark_at : (ℕ → ℕ) → ℕ → List ℕ → List ℕ
mark_at f s marks = set marks s (f (get_or marks s 0))

-- "an accepted update sets bits and clears none": it names its states, and marks its first one.
abbrev pub set_marks : Update → List ℕ → List ℕ
set_marks (Step e) marks = mark_at with_named e.to (mark_at with_named e.from marks)
set_marks (Terminal u) marks = mark_at with_terminal u (mark_at with_named u marks)
set_marks (Close u) marks = mark_at with_closed u (mark_at with_named u marks)

-- "A close of a closed state" is accepted with "no change" (document 02, #102): it sets no bit, not even the named one where that is missing.
abbrev pub marks_after : Update → List ℕ → List ℕ
marks_after x marks = cond (closes_again x marks) marks (set_marks x marks)

-- A state that is named: unseen becomes open.
abbrev pub named_byte : ℕ → ℕ
named_byte b = cond (eqb b status_unseen) status_open b

abbrev pub name_at : ℕ → List ℕ → List ℕ
name_at s status = set status s (named_byte (get_or status s 0))

-- The statuses once the states of an update are named.
abbrev pub names_after : Update → List ℕ → List ℕ
names_after (Step e) status = name_at e.to (name_at e.from status)
names_after (Terminal u) status = name_at u status
names_after (Close u) status = name_at u status

-- The tables with the states of an update named, and nothing else.
abbrev pub only_named : Update → Tables → Tables
only_named x t =
    tables_of (names_after x t.status) (set_marks x t.marks) t.from t.to t.key t.successor t.news t.in_head t.out_head t.queue t.visited t.in_next t.out_next
