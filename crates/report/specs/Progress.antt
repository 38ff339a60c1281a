-- A listing under way: what a program that lists a record has read and written so far.
-- Assumes nothing.
use Rattle.std.specs.Prelude.{◌≡◌, List, [], ◌++◌, ℕ, take, drop}
use Rattle.tables.specs.Tables.{Tables}
use Rattle.reader.specs.Replaying.{start_of}
use Rattle.reader.specs.Reading.{record_graph}
use Rattle.reader.specs.Underway.{Underway}
use Rattle.report.specs.declared.lister.Lister.{Lister}
use Rattle.reader.specs.declared.task.Task.{Task}
use Rattle.reader.specs.declared.task.Task.TheVariants.{Read, Write, End}
use Rattle.report.specs.Texts.{header}
use Rattle.report.specs.Listing.{lines_text, listing}

-- What of a piece is still to be read.
abbrev pub left_by : Task → ℕ → List ℕ → List ℕ
left_by Read next piece = []
left_by Write next piece = drop next piece
left_by End next piece = []

-- A listing that goes on: the bytes `got` have been read and `put` have been written. The tables stand for the lines listed so far, and their text has been written or stands in the output.
pub record Ongoing (got put : List ℕ) (l : Lister) (piece output : List ℕ) (t : Tables) : Type 0 where
  pub under : Underway record_graph got l.reader.splitter (left_by l.task l.next piece) l.reader.engine.graph t
  pub text : put ++ take l.end output ≡ header ++ lines_text (start_of record_graph under.lines) [] under.lines

-- One that has ended, at the end of the input (the last piece is empty) or where reading has stopped: what was written, with what stands in the output, is the listing of the input, whatever followed where reading has stopped.
abbrev pub Finished : List ℕ → List ℕ → Lister → List ℕ → List ℕ → Type 0
Finished got put l piece output = (rest : List ℕ) → (piece ≡ [] → rest ≡ []) → put ++ take l.end output ≡ listing (got ++ rest)

pub data ListingProgress (got put : List ℕ) (l : Lister) (piece output : List ℕ) (t : Tables) : Type 0 where
  reads : l.task ≡ Read → Ongoing got put l piece output t → ListingProgress got put l piece output t
  writes : l.task ≡ Write → Ongoing got put l piece output t → ListingProgress got put l piece output t
  ends : l.task ≡ End → Finished got put l piece output → ListingProgress got put l piece output t

-- The same for some bytes that have been read and written: what can be said of a program, since no contract says which bytes the system reads or writes.
pub record ListingBegun (l : Lister) (output : List ℕ) (t : Tables) : Type 0 where
  pub got : List ℕ
  pub put : List ℕ
  pub piece : List ℕ
  pub progress : ListingProgress got put l piece output t
