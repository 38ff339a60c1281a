-- Reading a whole record: which history the tables then stand for.
-- Assumes nothing.
use Rattle.std.specs.Prelude.{◌≡◌, List, [], ℕ, length, Option as Perhaps, None, Some, Result, Ok, Err}
use Rattle.std.proofs.Math.Option.{Option, some, none}
use Rattle.gid.specs.Histories.{History, listed}
use Rattle.gid.specs.Outcomes.{Outcome, refused, accepted, by_number}
use Rattle.tables.specs.declared.Graph.{Graph}
use Rattle.tables.specs.Tables.{Tables}
use Rattle.tables.specs.Keeping.{KeptTables}
use Rattle.tables.specs.declared.refusal.Refusal.{Refusal as Why}
use Rattle.tables.specs.Numbers.{number_of}
use Rattle.engine.specs.Answers.{Answer}
use Rattle.record.specs.declared.splitter.Item.TheVariants.{BadCount}
use Rattle.record.specs.Items.{items, count_in}
use Rattle.reader.specs.declared.RecordRead.{RecordRead}
use Rattle.reader.specs.declared.RefusedLine.{RefusedLine}
use Rattle.reader.specs.Opening.{reader_states, reader_graph, open_refusal, freshened}
use Rattle.reader.specs.Turning.{Answered}
use Rattle.reader.specs.Replaying.{record_start, history_of, Refusal, first_refusal}
use Rattle.reader.specs.Standing.{Standing}

-- "The listing program and the C call use limit 2,048."
abbrev pub record_limit : ℕ
record_limit = 2048

abbrev pub record_graph : Graph
record_graph = reader_graph record_limit

-- What a record that was read comes to: the state value after its last line, and its first refusal, if there is one.
pub record Reading : Type 0 where
  pub graph : Graph
  pub refusal : Option Refusal

-- Document 01's number and values for each answer.
abbrev pub line_refusal : Perhaps RefusedLine → Option Refusal
line_refusal None = none
line_refusal (Some r) = some (record { line = r.line; number = number_of r.refusal })

abbrev pub read_outcome : Result RecordRead Why → Outcome Reading
read_outcome (Ok r) = accepted (record { graph = r.engine.graph; refusal = line_refusal r.refused })
read_outcome (Err r) = refused (number_of r)

-- By the definitions: the accepted steps are counted, and the first line that is refused decides.
abbrev pub graph_of : Graph → History → Graph
graph_of start h = record { n = start.n; limit = start.limit; steps = length (listed h) }

abbrev pub graph_after_record : ℕ → List ℕ → Graph
graph_after_record limit bytes = graph_of (record_start limit bytes) (history_of limit bytes)

abbrev pub reading_of : ℕ → List ℕ → Reading
reading_of limit bytes = record { graph = graph_after_record limit bytes; refusal = first_refusal (record_start limit bytes) [] (items bytes) }

-- Refused with 2 or 3, and nothing lent changes. Else the tables stand for the history of the record's accepted lines; the entries past the record's n are as they were made, and "a 17 leaves them so", all of them. No entry past a needed length is touched.
pub record Reads (limit : ℕ) (bytes : List ℕ) (t t' : Tables) (r : Result RecordRead Why) : Type 0 where
  pub answer : read_outcome r ≡ by_number (open_refusal limit t) (reading_of limit bytes)
  pub unchanged : (k : ℕ) → open_refusal limit t ≡ some k → t' ≡ t
  pub stands : open_refusal limit t ≡ none → Standing (record_start limit bytes) (history_of limit bytes) (graph_after_record limit bytes) t'
  pub beyond : open_refusal limit t ≡ none → KeptTables (record_start limit bytes).n (record_start limit bytes).n limit (freshened limit t) t'
  pub uncounted : open_refusal limit t ≡ none → count_in (items bytes) ≡ BadCount → t' ≡ freshened limit t
  pub kept : KeptTables reader_states reader_states limit t t'

-- The line of an answer and why it is refused, if it is.
abbrev pub refused_by : ℕ → Answer → Perhaps RefusedLine
refused_by line (Ok k) = None
refused_by line (Err r) = Some (record { line = line; refusal = r })

abbrev pub refused_line : Answered → Perhaps RefusedLine
refused_line None = None
refused_line (Some a) = refused_by a.line a.outcome
