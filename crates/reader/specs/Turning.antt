-- What comes of a line, on tables with any contents.
-- Assumes nothing.
use Rattle.std.specs.Prelude.{◌≡◌, List, ℕ, Option as Perhaps, None, Some, Err}
use Rattle.std.proofs.Math.Option.{Option, some, none}
use Rattle.gid.specs.Outcomes.{Outcome}
use Rattle.tables.specs.declared.Graph.{Graph}
use Rattle.tables.specs.Tables.{Tables}
use Rattle.tables.specs.declared.refusal.Refusal.{Refusal}
use Rattle.tables.specs.declared.refusal.Refusal.TheVariants.{Malformed as MalformedLine, BadNames as BadNamesLine, TooManyLines, BadCount as BadCountLine}
use Rattle.engine.specs.Answers.{Answer, answer_outcome}
use Rattle.engine.specs.Promise.{Promise}
use Rattle.record.specs.declared.splitter.Item.{Item}
use Rattle.record.specs.declared.splitter.Item.TheVariants.{Nothing as NoLine, Update, Malformed, BadNames, TooMany, States, BadCount}
use Rattle.record.specs.declared.splitter.Numbered.{Numbered}
use Rattle.record.specs.Items.{item_line}
use Rattle.reader.specs.Replaying.{with_count}
use Rattle.reader.specs.declared.driver.LineAnswer.{LineAnswer}

-- A line's number with what came of it.
pub record Told : Type 0 where
  pub line : ℕ
  pub outcome : Outcome (List ℕ)

-- A reader's answer: what came of a line, or that no line has ended.
abbrev pub Answered : Type 0
Answered = Perhaps LineAnswer

-- Document 01's number and values for each answer of a reader, by the news list after it: none where no line has ended.
abbrev pub line_outcome : Answered → List ℕ → Option Told
line_outcome None news = none
line_outcome (Some a) news = some (record { line = a.line; outcome = answer_outcome a.outcome news })

-- The answer for a line by what the engine answered to its update,
abbrev pub line_answer : ℕ → Answer → Answered
line_answer line a = Some (record { line = line; outcome = a })

-- and for a line that is no update, by the rule of the record that it breaks (`item_refusal_number`, proofs/Lines.antt).
abbrev pub item_refusal : Item → Option Refusal
item_refusal NoLine = none
item_refusal (Update r) = none
item_refusal (Malformed n) = some MalformedLine
item_refusal (BadNames n) = some BadNamesLine
item_refusal TooMany = some TooManyLines
item_refusal (States c) = none
item_refusal BadCount = some BadCountLine

abbrev pub refusal_answer : ℕ → Option Refusal → Answered
refusal_answer line none = None
refusal_answer line (some r) = Some (record { line = line; outcome = Err r })

abbrev pub item_answer : Item → Answered
item_answer a = refusal_answer (item_line a) (item_refusal a)

-- The line's update keeps the engine's promise, and its answer tells the line's number with document 01's number and values of the engine's answer; "a 10, 11 or 12 changes nothing further", nor does a 17; a count gives the number of states.
pub data Came : Item → Graph → Tables → Graph → Tables → Answered → Type 0 where
  sent : {r : Numbered} {g g' : Graph} {t t' : Tables} {a : Answer} {o : Answered} → Promise g r.update t g' a t' → o ≡ line_answer r.line a → line_outcome o t'.news ≡ some (record { line = r.line; outcome = answer_outcome a t'.news }) → Came (Update r) g t g' t' o
  nothing : {g : Graph} {t : Tables} → Came NoLine g t g t (item_answer NoLine)
  malformed : {n : ℕ} {g : Graph} {t : Tables} → Came (Malformed n) g t g t (item_answer (Malformed n))
  bad_names : {n : ℕ} {g : Graph} {t : Tables} → Came (BadNames n) g t g t (item_answer (BadNames n))
  too_many : {g : Graph} {t : Tables} → Came TooMany g t g t (item_answer TooMany)
  states : {c : ℕ} {g : Graph} {t : Tables} → Came (States c) g t (with_count (States c) g) t (item_answer (States c))
  bad_count : {g : Graph} {t : Tables} → Came BadCount g t g t (item_answer BadCount)
