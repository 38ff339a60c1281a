-- What the lines of a part print, on tables with any contents.
-- Assumes nothing.
use Rattle.std.specs.Prelude.{List, [], ◌∷◌, ◌++◌, ℕ, ◌+◌, ◌*◌, ◌≤◌, ◌<◌, length, get_or, take, drop, None, Some, Ok, Err}
use Rattle.tables.specs.declared.Graph.{Graph}
use Rattle.tables.specs.Tables.{Tables}
use Rattle.tables.specs.Numbers.{number_of}
use Rattle.record.specs.Text.{WroteAt}
use Rattle.record.specs.declared.splitter.Splitter.{Splitter}
use Rattle.engine.specs.Answers.{Answer}
use Rattle.reader.specs.Turning.{Answered}
use Rattle.reader.specs.Advancing.{Passed, Follows}
use Rattle.totals.specs.Counting.{totals_below}
use Rattle.report.specs.Texts.{refused_text, news_text, totals_text}

-- The room that one line's text may take: 17 bytes for each of 2,048 states.
abbrev pub line_room : ℕ
line_room = 34816

-- The text of what came of a line, by the tables after it: none where no line has ended.
abbrev pub told_text : ℕ → Answer → (news status : List ℕ) → List ℕ
told_text line (Ok k) news status = news_text line (λ s. get_or status s 0) (take k news)
told_text line (Err r) news status = refused_text line (number_of r)

abbrev pub answer_text : Answered → (news status : List ℕ) → List ℕ
answer_text None news status = []
answer_text (Some a) news status = told_text a.line a.outcome news status

-- Of lines that were passed, one behind another.
unfoldable pub passed_text : List Passed → List ℕ
passed_text [] = []
passed_text (p ∷ l) = answer_text p.answer p.after.news p.after.status ++ passed_text l

-- The totals of the first n states, by the status table.
abbrev pub table_totals : ℕ → List ℕ → List ℕ
table_totals n status = totals_text (totals_below n (λ s. get_or status s 0))

-- From an index of a part to another its lines have been applied, and their text written at a place of a buffer.
pub record Lines (s : Splitter) (part : List ℕ) (index : ℕ) (g : Graph) (t : Tables) (s' : Splitter) (next : ℕ) (g' : Graph) (t' : Tables) (at : ℕ) (d e : List ℕ) (r : ℕ) : Type 0 where
  pub inside : next ≤ length part
  pub onward : index < length part → at + line_room ≤ length d → index < next
  pub within : r ≤ length d
  pub short : next < length part → length d < r + line_room
  pub each : r + line_room * index ≤ at + line_room * next
  pub follows : Follows s (drop index part) g t s' (drop next part) g' t'
  pub wrote : WroteAt at (passed_text follows.passed) d e r
