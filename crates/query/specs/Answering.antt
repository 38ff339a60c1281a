-- The status of a state after a record. Document 01, "The record": "it hands over a record's bytes and a state number, and gets a status." Document 02, #107.
-- Assumes nothing.
use Rattle.std.specs.Prelude.{◌≡◌, cond, List, [], ℕ, ◌+◌, leb, Result, Ok, Err, None, Some}
use Rattle.std.proofs.Math.Option.{Option, some, none}
use Rattle.gid.specs.Histories.{History}
use Rattle.gid.specs.Statuses.{status}
use Rattle.tables.specs.Tables.{Tables}
use Rattle.tables.specs.Keeping.{KeptTables}
use Rattle.tables.specs.declared.refusal.Refusal.{Refusal as RefusedBy}
use Rattle.tables.specs.Numbers.{number_of}
use Rattle.record.specs.declared.splitter.Item.{Item}
use Rattle.record.specs.declared.splitter.Item.TheVariants.{Nothing, Update, Malformed, BadNames, TooMany, States, BadCount}
use Rattle.record.specs.Items.{items, count_in}
use Rattle.reader.specs.Turning.{Answered}
use Rattle.reader.specs.Opening.{reader_states, open_refusal, freshened}
use Rattle.reader.specs.Replaying.{record_start, history_of, after_items, Refusal, first_refusal, up_to_refusal}
use Rattle.reader.specs.Reading.{record_limit, graph_of}
use Rattle.reader.specs.Standing.{Standing}

-- "A refusal answers 16 plus its number": of the tables, of the count or the state, or of a line.
abbrev pub or_number : Option ℕ → ℕ → ℕ
or_number none r = r
or_number (some k) r = 16 + k

abbrev pub or_line : Option Refusal → ℕ → ℕ
or_line none r = r
or_line (some x) r = 16 + x.number

-- The same of an answer as a Result,
abbrev pub status_code : Result ℕ RefusedBy → ℕ
status_code (Ok b) = b
status_code (Err r) = 16 + number_of r

-- of one that gives this where it is not refused,
abbrev pub given : {A B : Type 0} → Result A RefusedBy → B → Result B RefusedBy
given (Ok a) b = Ok b
given (Err r) b = Err r

-- and the number of a refusal, if there is one.
abbrev pub passes : {A : Type 0} → Result A RefusedBy → Option ℕ
passes (Ok a) = none
passes (Err r) = some (number_of r)

-- "if several lines are refused, the first of them decides"; where none is, the status of the state s after all lines.
abbrev pub answer_after : List ℕ → ℕ → ℕ
answer_after bytes s = or_line (first_refusal (record_start record_limit bytes) [] (items bytes)) (status (history_of record_limit bytes) s)

-- "The C call tests the count first, then a state at or above it answers 21": by what the record's head says of its states.
abbrev pub out_of_range : ℕ → ℕ → Option ℕ
out_of_range n s = cond (leb n s) (some 5) none

abbrev pub head_refusal : Item → ℕ → Option ℕ
head_refusal Nothing s = out_of_range reader_states s
head_refusal (Update r) s = out_of_range reader_states s
head_refusal (Malformed n) s = out_of_range reader_states s
head_refusal (BadNames n) s = out_of_range reader_states s
head_refusal TooMany s = out_of_range reader_states s
head_refusal (States c) s = out_of_range c s
head_refusal BadCount s = some 17

-- "then come the other lines."
unfoldable pub answer_of : List ℕ → ℕ → ℕ
answer_of bytes s = or_number (head_refusal (count_in (items bytes)) s) (answer_after bytes s)

-- The same on lent tables, which may be too short: that is tested before.
unfoldable pub answer_on : Tables → List ℕ → ℕ → ℕ
answer_on t bytes s = or_number (open_refusal record_limit t) (answer_of bytes s)

-- The history of the lines up to the first that is refused.
abbrev pub history_up_to : List ℕ → History
history_up_to bytes = after_items (record_start record_limit bytes) [] (up_to_refusal (record_start record_limit bytes) [] (items bytes))

-- The answer, and the tables after the call. Where the tables are too short, all are as they were. On a 33 or a 21 they are made fresh. Else they stand for the lines up to the first that is refused. No entry past a needed length is touched.
pub record StatusAfter (bytes : List ℕ) (s : ℕ) (t t' : Tables) (r : ℕ) : Type 0 where
  pub answer : r ≡ answer_on t bytes s
  pub too_short : (k : ℕ) → open_refusal record_limit t ≡ some k → t' ≡ t
  pub unread : (k : ℕ) → open_refusal record_limit t ≡ none → head_refusal (count_in (items bytes)) s ≡ some k → t' ≡ freshened record_limit t
  pub stands : open_refusal record_limit t ≡ none → head_refusal (count_in (items bytes)) s ≡ none → Standing (record_start record_limit bytes) (history_up_to bytes) (graph_of (record_start record_limit bytes) (history_up_to bytes)) t'
  pub kept : KeptTables reader_states reader_states record_limit t t'

-- The answer by what came of a line.
abbrev pub refused_or : Answered → ℕ → ℕ
refused_or None b = b
refused_or (Some a) b = status_code (given a.outcome b)

-- The same as a Result: whether no line was refused.
abbrev pub accepted : Answered → Result (Unit {0}) RefusedBy
accepted None = Ok tt
accepted (Some a) = given a.outcome tt
