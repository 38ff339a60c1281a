-- The text of the listing's printed lines, as bytes. Document 01, "The record": "The fields are: the line number in the record, or `end`; the verdict or status, or `refused`; and the state, the refusal number, or the count."
-- Assumes nothing.
use Rattle.std.specs.Prelude.{cond, List, [], ◌∷◌, ◌++◌, ℕ, eqb}
use Rattle.gid.specs.Statuses.{status_live}
use Rattle.record.specs.Text.{decimal}
use Rattle.totals.specs.declared.Totals.{Totals}

-- "It prints a header": `line verdict number`.
abbrev pub header : List ℕ
header = 108 ∷ 105 ∷ 110 ∷ 101 ∷ 32 ∷ 118 ∷ 101 ∷ 114 ∷ 100 ∷ 105 ∷ 99 ∷ 116 ∷ 32 ∷ 110 ∷ 117 ∷ 109 ∷ 98 ∷ 101 ∷ 114 ∷ 10 ∷ []

-- The middle fields, with the spaces about them: ` refused `, ` live `, ` dead `.
abbrev pub refused_word : List ℕ
refused_word = 32 ∷ 114 ∷ 101 ∷ 102 ∷ 117 ∷ 115 ∷ 101 ∷ 100 ∷ 32 ∷ []

abbrev pub live_word : List ℕ
live_word = 32 ∷ 108 ∷ 105 ∷ 118 ∷ 101 ∷ 32 ∷ []

abbrev pub dead_word : List ℕ
dead_word = 32 ∷ 100 ∷ 101 ∷ 97 ∷ 100 ∷ 32 ∷ []

-- `end` with the status and the spaces after them: `end open `, `end unknown `, `end live `, `end dead `.
abbrev pub open_word : List ℕ
open_word = 101 ∷ 110 ∷ 100 ∷ 32 ∷ 111 ∷ 112 ∷ 101 ∷ 110 ∷ 32 ∷ []

abbrev pub unknown_word : List ℕ
unknown_word = 101 ∷ 110 ∷ 100 ∷ 32 ∷ 117 ∷ 110 ∷ 107 ∷ 110 ∷ 111 ∷ 119 ∷ 110 ∷ 32 ∷ []

abbrev pub end_live_word : List ℕ
end_live_word = 101 ∷ 110 ∷ 100 ∷ 32 ∷ 108 ∷ 105 ∷ 118 ∷ 101 ∷ 32 ∷ []

abbrev pub end_dead_word : List ℕ
end_dead_word = 101 ∷ 110 ∷ 100 ∷ 32 ∷ 100 ∷ 101 ∷ 97 ∷ 100 ∷ 32 ∷ []

-- A word, a number and a newline.
unfoldable pub ending : List ℕ → ℕ → List ℕ
ending word n = word ++ decimal n ++ (10 ∷ [])

-- A printed line that starts with a line number.
unfoldable pub row : ℕ → List ℕ → ℕ → List ℕ
row line word n = decimal line ++ ending word n

-- A refusal: "`refused`; and .. the refusal number".
abbrev pub refused_text : ℕ → ℕ → List ℕ
refused_text line k = row line refused_word k

-- The word of a state that has news: its status is live or dead.
abbrev pub verdict_word : ℕ → List ℕ
verdict_word k = cond (eqb k status_live) live_word dead_word

-- "for each line its news, one printed line for each state": the states l, each with its status after the line.
unfoldable pub news_text : ℕ → (ℕ → ℕ) → List ℕ → List ℕ
news_text line status [] = []
news_text line status (s ∷ l) = row line (verdict_word (status s)) s ++ news_text line status l

-- "then four counts": open, unknown, live, dead. What they count is totals/specs/Counting.antt.
unfoldable pub totals_text : Totals → List ℕ
totals_text t = ending open_word t.«open» ++ ending unknown_word t.unknown ++ ending end_live_word t.live ++ ending end_dead_word t.dead

-- The room that they take at most.
abbrev pub totals_room : ℕ
totals_room = 80
