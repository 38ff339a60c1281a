-- The line buffer's values.
-- Assumes nothing.
use Rattle.std.specs.Prelude.{Bool, false, cond, List, [], ◌∷◌, ℕ, ◌+◌, leb, length, take, drop, set, replicate}
use Rattle.std.proofs.Math.Option.{Option, none}
use Rattle.gid.specs.declared.Update.{Update}
use Rattle.record.specs.declared.line.Form.{Form}
use Rattle.record.specs.declared.line.Line.{Line}
use Rattle.record.specs.declared.line.Filled.{Filled}
use Rattle.record.specs.Text.{states_line, names}
use Rattle.record.specs.Grammar.{line_of, count_of}
use Rattle.record.specs.Lines.{before}
use Rattle.record.specs.Items.{same}

abbrev pub empty_line : Line
empty_line = record { bytes = replicate 16 0; len = 0 }

-- With one byte more: the first 16 are kept, and 17 says that there were more.
unfoldable pub with_byte : Line → ℕ → Line
with_byte l b = cond (leb 16 l.len) (record { bytes = l.bytes; len = 17 }) (record { bytes = set l.bytes l.len b; len = l.len + 1 })

-- With all bytes of a list, one by one.
unfoldable pub with_bytes : Line → List ℕ → Line
with_bytes l [] = l
with_bytes l (b ∷ s) = with_bytes (with_byte l b) s

-- With the bytes of s from an index on, up to a newline or the end, and the index of that.
abbrev pub filled_from : Line → List ℕ → ℕ → Filled
filled_from l s at = record { line = with_bytes l (before (drop at s)); next = at + length (before (drop at s)) }

-- A question about the line's bytes, and the answer for a line of more than 16.
abbrev pub of_bytes : {A : Type 0} → (List ℕ → A) → A → Line → A
of_bytes f other l = cond (leb l.len 16) (f (take l.len l.bytes)) other

-- What the line is, in a record of a form.
abbrev pub line_in : Form → Line → Option Update
line_in f = of_bytes (line_of f) none

-- Whether it is the names line of a form.
abbrev pub is_names_in : Form → Line → Bool
is_names_in f = of_bytes (λ l. same l (names f)) false

-- Whether it is the line `states`, and which count it is.
abbrev pub is_states_in : Line → Bool
is_states_in = of_bytes (λ l. same l states_line) false

abbrev pub line_count : Line → Option ℕ
line_count = of_bytes count_of none
