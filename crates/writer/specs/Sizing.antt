-- What one state adds to the record, and the record of what the writer was lent.
-- Assumes nothing.
use Rattle.std.specs.Prelude.{cond, List, [], ◌∷◌, ℕ, length}
use Rattle.gid.specs.declared.Update.{Update}
use Rattle.writer.specs.declared.marking.LineMark.{LineMark}
use Rattle.writer.specs.declared.source.Source.{Source}
use Rattle.writer.specs.Order.{has_mark, marking, step_lines, record_of}

-- The line of a state whose byte is b, where it has the mark.
abbrev pub mark_line : LineMark → ℕ → ℕ → List Update
mark_line k b s = cond (has_mark k b) (marking k s ∷ []) []

-- The steps, and the record, of all that a source has.
abbrev pub listed_lines : Source → List Update
listed_lines s = step_lines (length s.from.now) s.from.now s.to.now s.key.now

abbrev pub source_record : Source → List ℕ
source_record s = record_of (length s.marks.now) (length s.from.now) s.marks.now s.from.now s.to.now s.key.now
