-- The form of the visited marks before document 02's #106, which speaks of "the earlier work tables".
-- Assumes nothing.
use Rattle.std.specs.Prelude.{not, eqb, get_or}
use Rattle.tables.specs.Visits.{Marking}

-- An entry for each node: 0 not visited, anything else visited.
abbrev pub by_entry : Marking
by_entry = record { entries = λ nodes. nodes; is_marked = λ visited s. not (eqb (get_or visited s 0) 0) }
