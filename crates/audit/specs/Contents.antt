-- The lent slices as the tables that the definitions speak of.
-- Assumes nothing.
use Rattle.std.specs.Prelude.{List, ℕ}
use Rattle.tables.specs.Tables.{Tables, tables_of}
use Rattle.gid.specs.Systems.{Arcs}
use Rattle.search.specs.Spreading.{chains, into}
use Rattle.audit.specs.declared.stored.Stored.{Stored}

-- What stands in the slices that are read, with the lists that are lent beside them.
abbrev pub contents : Stored → (news queue visited : List ℕ) → Tables
contents s news queue visited =
    tables_of s.status.now s.marks.now s.from.now s.to.now s.key.now s.successor.now news s.in_head.now s.out_head.now queue visited s.in_next.now s.out_next.now

-- Their steps, as walks over those into each state meet them.
abbrev pub arcs_of : Stored → Arcs
arcs_of s = into (chains s.n s.steps s.from.now s.in_head.now s.in_next.now)
