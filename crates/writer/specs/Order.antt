-- The record of some tables: "a line `states` and a line with the count" (document 02, #107), "names line, T lines by rising state, steps in list order, C lines by rising state, each line ended by a newline". It "uses only the marks 2 and 4 and the listed steps, on tables that do not fit too", with the byte of each step's key, and "the new line" of names (document 02, #101).
-- Assumes nothing.
use Rattle.std.specs.Prelude.{Bool, true, cond, List, [], ◌∷◌, ◌++◌, ℕ, zero, suc, get_or}
use Rattle.gid.specs.declared.Edge.{Edge}
use Rattle.gid.specs.declared.Update.{Update}
use Rattle.gid.specs.declared.Update.TheVariants.{Step, Terminal, Close}
use Rattle.gid.specs.Updates.{edge}
use Rattle.tables.specs.Marks.{has_terminal, has_closed}
use Rattle.record.specs.declared.line.Form.TheVariants.{Keyed}
use Rattle.record.specs.Text.{decimal, states_line, names, text}
use Rattle.writer.specs.declared.marking.LineMark.{LineMark}
use Rattle.writer.specs.declared.marking.LineMark.TheVariants.{Terminal as ForTerminal, Close as ForClose}

-- Whether a byte of the marks has the mark: the bit 2, or the bit 4.
abbrev pub has_mark : LineMark → ℕ → Bool
has_mark ForTerminal b = has_terminal b
has_mark ForClose b = has_closed b

-- The update that puts the mark on a state.
abbrev pub marking : LineMark → ℕ → Update
marking ForTerminal s = Terminal s
marking ForClose s = Close s

-- The updates of those indices below n that pass a test, by rising index.
unfoldable pub in_order : ℕ → (ℕ → Bool) → (ℕ → Update) → List Update
in_order zero test update = []
in_order (suc i) test update = in_order i test update ++ cond (test i) (update i ∷ []) []

-- The states below n that have the mark, "by rising state".
abbrev pub is_marked : LineMark → List ℕ → ℕ → Bool
is_marked k marks s = has_mark k (get_or marks s 0)

abbrev pub marked_lines : LineMark → ℕ → List ℕ → List Update
marked_lines k n marks = in_order n (is_marked k marks) (marking k)

-- The first m listed steps, "in list order".
abbrev pub edge_at : (from to key : List ℕ) → ℕ → Edge
edge_at from to key p = edge (get_or from p 0) (get_or to p 0) (get_or key p 0)

abbrev pub step_at : (from to key : List ℕ) → ℕ → Update
step_at from to key p = Step (edge_at from to key p)

abbrev pub step_lines : ℕ → (from to key : List ℕ) → List Update
step_lines m from to key = in_order m (λ p. true) (step_at from to key)

-- The updates of the record of n states and m steps.
unfoldable pub written_updates : ℕ → ℕ → (marks from to key : List ℕ) → List Update
written_updates n m marks from to key = marked_lines ForTerminal n marks ++ (step_lines m from to key ++ marked_lines ForClose n marks)

-- "each line ended by a newline"
abbrev pub line_bytes : Update → List ℕ
line_bytes x = text Keyed x ++ (10 ∷ [])

unfoldable pub bytes_of : List Update → List ℕ
bytes_of [] = []
bytes_of (x ∷ l) = line_bytes x ++ bytes_of l

abbrev pub names_bytes : List ℕ
names_bytes = names Keyed ++ (10 ∷ [])

-- "the writer always puts them, with its n"
abbrev pub head_bytes : ℕ → List ℕ
head_bytes n = states_line ++ (10 ∷ []) ++ decimal n ++ (10 ∷ names_bytes)

-- The record's bytes.
unfoldable pub record_of : ℕ → ℕ → (marks from to key : List ℕ) → List ℕ
record_of n m marks from to key = head_bytes n ++ bytes_of (written_updates n m marks from to key)
