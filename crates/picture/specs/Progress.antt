-- A drawing under way: what the picture shows, and what a program that draws a record has read so far.
-- Assumes nothing.
use Rattle.std.specs.Prelude.{◌≡◌, List, [], ◌++◌, ℕ, length, get_or, take}
use Rattle.gid.specs.Histories.{History, listed}
use Rattle.gid.specs.Statuses.{is_terminal, status}
use Rattle.gid.specs.Successors.{SuccessorRule}
use Rattle.tables.specs.Tables.{Tables}
use Rattle.tables.specs.Fitting.{sources, targets, keys, StepAt}
use Rattle.reader.specs.declared.task.Task.TheVariants.{Read, End}
use Rattle.reader.specs.Replaying.{record_start, history_of}
use Rattle.reader.specs.Reading.{record_limit, record_graph}
use Rattle.reader.specs.Underway.{Underway}
use Rattle.picture.specs.declared.drawer.Drawer.{Drawer}
use Rattle.picture.specs.Picture.{drawing}

-- The picture of the history h over n states: every state by its status, the terminal ones with a double border, every step in order of acceptance, labelled with its key, and as bold steps a choice of successors that keeps the rule, so that following them from an unknown state reaches an open one.
pub record Shows (n : ℕ) (h : History) (text : List ℕ) : Type 0 where
  pub successor : ℕ → ℕ
  pub rule : SuccessorRule n (StepAt (length (listed h)) (sources h) (targets h)) (status h) successor
  pub bytes : text ≡ drawing n (length (listed h)) (status h) (is_terminal h) (λ p. get_or (sources h) p 0) (λ p. get_or (targets h) p 0) (λ p. get_or (keys h) p 0) successor

-- The bytes `got` have been read. Where the drawing goes on, the tables stand for their lines; where it has ended, at the end of the input (the last piece is empty) or where reading has stopped, what stands in the output is the picture of the input's accepted lines, whatever followed where reading has stopped.
pub data DrawingProgress (got : List ℕ) (d : Drawer) (piece output : List ℕ) (t : Tables) : Type 0 where
  reads : d.task ≡ Read → Underway record_graph got d.reader.splitter [] d.reader.engine.graph t → DrawingProgress got d piece output t
  ends : d.task ≡ End → ((rest : List ℕ) → (piece ≡ [] → rest ≡ []) → Shows (record_start record_limit (got ++ rest)).n (history_of record_limit (got ++ rest)) (take d.end output)) → DrawingProgress got d piece output t

-- The same for some bytes that have been read: what can be said of a program, since no contract says which bytes the system reads.
pub record DrawingBegun (d : Drawer) (output : List ℕ) (t : Tables) : Type 0 where
  pub got : List ℕ
  pub piece : List ℕ
  pub progress : DrawingProgress got d piece output t
