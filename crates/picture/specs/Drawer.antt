-- What each call of a drawing does, on tables with any contents.
-- Assumes nothing.
use Rattle.std.specs.Prelude.{◌≡◌, true, false, cond, List, [], ℕ, ◌≤◌, ◌<◌, ltb, length}
use Rattle.std.proofs.Math.Option.{Option, some, none}
use Rattle.gid.specs.Refusals.{max_states, max_steps}
use Rattle.tables.specs.Tables.{Tables}
use Rattle.record.specs.Text.{WroteAt}
use Rattle.record.specs.Splitting.{started, last_newlines}
use Rattle.reader.specs.declared.Reader.{Reader}
use Rattle.reader.specs.declared.task.Task.TheVariants.{Read, End}
use Rattle.reader.specs.Opening.{open_refusal, opened_tables}
use Rattle.reader.specs.Reading.{record_limit, record_graph}
use Rattle.reader.specs.Advancing.{Follows}
use Rattle.picture.specs.declared.drawer.Drawer.{Drawer}
use Rattle.picture.specs.Picture.{picture, picture_room}

-- The drawer at the start of a record: a piece is to be read. Where the tables are too short there is nothing to be done.
abbrev pub drawer_by : Option ℕ → Drawer
drawer_by none = record { reader = record { splitter = started; engine = record { graph = record_graph } }; end = 0; task = Read }
drawer_by (some k) = record { reader = record { splitter = started; engine = record { graph = record { n = 0; limit = 0; steps = 0 } } }; end = 0; task = End }

pub record BeginsDrawing (t : Tables) (r : Drawer) (t' : Tables) : Type 0 where
  pub drawer : r ≡ drawer_by (open_refusal record_limit t)
  pub tables : t' ≡ opened_tables record_limit t (open_refusal record_limit t)

-- How many steps are drawn: those counted, where they are no more than there can be and the tables have so many; else none.
abbrev pub drawn_steps : (steps from to key : ℕ) → ℕ
drawn_steps steps from to key = cond (ltb max_steps steps) 0 (cond (ltb from steps) 0 (cond (ltb to steps) 0 (cond (ltb key steps) 0 steps)))

-- How many states are drawn: those of the state value, and no more than there can be.
abbrev pub drawn_states : ℕ → ℕ
drawn_states n = cond (ltb max_states n) max_states n

-- The picture of a reader's tables.
abbrev pub picture_by : Reader → Tables → List ℕ
picture_by r t = picture (drawn_states r.engine.graph.n) (drawn_steps r.engine.graph.steps (length t.from) (length t.to) (length t.key)) t.status t.marks t.from t.to t.key t.successor

-- A call: the output is too short; or the lines of the piece are read; and where reading has stopped, or the input has ended, the picture of the tables is written.
pub data Draws (d : Drawer) (piece output : List ℕ) (t : Tables) (d' : Drawer) (output' : List ℕ) (t' : Tables) : Type 0 where
  short : length output < picture_room → d' ≡ record { reader = d.reader; end = 0; task = End } → output' ≡ output → t' ≡ t → Draws d piece output t d' output' t'
  goes_on :
      {left : List ℕ} → Follows d.reader.splitter piece d.reader.engine.graph t d'.reader.splitter left d'.reader.engine.graph t' → left ≡ [] → 0 < length piece → d'.reader.splitter.stopped ≡ false →
      d'.task ≡ Read → d'.end ≡ 0 → output' ≡ output → Draws d piece output t d' output' t'
  stopped :
      {left : List ℕ} → Follows d.reader.splitter piece d.reader.engine.graph t d'.reader.splitter left d'.reader.engine.graph t' → d'.reader.splitter.stopped ≡ true →
      d'.task ≡ End → WroteAt 0 (picture_by d'.reader t') output output' d'.end → d'.end ≤ length output → Draws d piece output t d' output' t'
  ended :
      {newline left : List ℕ} → piece ≡ [] → newline ≡ last_newlines d.reader.splitter → Follows d.reader.splitter newline d.reader.engine.graph t d'.reader.splitter left d'.reader.engine.graph t' → left ≡ [] →
      d'.task ≡ End → WroteAt 0 (picture_by d'.reader t') output output' d'.end → d'.end ≤ length output → Draws d piece output t d' output' t'
