-- What each call of a listing does, on tables with any contents.
-- Assumes nothing.
use Rattle.std.specs.Prelude.{◌≡◌, ◌⊎◌, Bool, true, false, ◌&&◌, List, [], ◌++◌, ℕ, ◌+◌, ◌≤◌, ◌<◌, leb, length, drop}
use Rattle.std.proofs.Math.Option.{Option, some, none}
use Rattle.tables.specs.Tables.{Tables}
use Rattle.tables.specs.Numbers.{least}
use Rattle.record.specs.Text.{WroteAt}
use Rattle.record.specs.Splitting.{started, last_newlines}
use Rattle.reader.specs.declared.Reader.{Reader}
use Rattle.reader.specs.Opening.{reader_states, open_refusal, freshened}
use Rattle.reader.specs.Reading.{record_limit, record_graph}
use Rattle.reader.specs.Advancing.{Follows}
use Rattle.report.specs.declared.lister.Lister.{Lister}
use Rattle.reader.specs.declared.task.Task.{Task}
use Rattle.reader.specs.declared.task.Task.TheVariants.{Read, Write, End}
use Rattle.report.specs.Texts.{header, totals_room}
use Rattle.report.specs.Printing.{line_room, passed_text, table_totals}

-- The output's least length: room for a line and the totals.
abbrev pub lister_room : ℕ
lister_room = line_room + totals_room

-- Whether a listing begins: the output has that room, and the tables are long enough.
abbrev pub is_opened : Option ℕ → Bool
is_opened none = true
is_opened (some k) = false

abbrev pub begins : List ℕ → Tables → Bool
begins output t = leb lister_room (length output) && is_opened (open_refusal record_limit t)

-- The lister at the start of a record: the header is to be written, and a piece to be read. Where nothing begins there is nothing to be done.
abbrev pub idle : Lister
idle = record { reader = record { splitter = started; engine = record { graph = record { n = 0; limit = 0; steps = 0 } } }; next = 0; end = 0; task = End }

abbrev pub lister_by : Bool → Lister
lister_by true = record { reader = record { splitter = started; engine = record { graph = record_graph } }; next = 0; end = length header; task = Read }
lister_by false = idle

-- The output and the tables after it: as they were where nothing begins.
abbrev pub headed : List ℕ → Bool → List ℕ
headed output true = header ++ drop (length header) output
headed output false = output

abbrev pub fresh_by : Tables → Bool → Tables
fresh_by t true = freshened record_limit t
fresh_by t false = t

pub record BeginsListing (output : List ℕ) (t : Tables) (r : Lister) (output' : List ℕ) (t' : Tables) : Type 0 where
  pub lister : r ≡ lister_by (begins output t)
  pub tables : t' ≡ fresh_by t (begins output t)
  pub text : output' ≡ headed output (begins output t)

-- The totals are over the states of the state value, and no more than there can be.
abbrev pub totals_by : Reader → List ℕ → List ℕ
totals_by r status = table_totals (least r.engine.graph.n reader_states) status

-- Where the next text goes, and from which index on a piece is read.
abbrev pub place_by : Task → ℕ → ℕ
place_by Read end = end
place_by Write end = 0
place_by End end = end

abbrev pub start_by : Task → ℕ → ℕ → ℕ
start_by Read next len = 0
start_by Write next len = least next len
start_by End next len = least next len

-- The lister when the caller has done its task, with a piece of `len` bytes.
abbrev pub resumed : Lister → ℕ → Lister
resumed l len = record { reader = l.reader; next = start_by l.task l.next len; end = place_by l.task l.end; task = l.task }

-- What is done behind the lines of a part of `len` bytes, of a piece: there is more of the part, or more of the input, or the totals are written, where there is room for them.
pub data AfterLines (d : Lister) (len : ℕ) (piece status output : List ℕ) (l : Lister) (output' : List ℕ) : Type 0 where
  waits : d.next < len → l ≡ record { reader = d.reader; next = d.next; end = d.end; task = Write } → output' ≡ output → AfterLines d len piece status output l output'
  continues : len ≤ d.next → 0 < length piece → d.reader.splitter.stopped ≡ false → l ≡ record { reader = d.reader; next = d.next; end = d.end; task = Read } → output' ≡ output → AfterLines d len piece status output l output'
  short : len ≤ d.next → (piece ≡ []) ⊎ (d.reader.splitter.stopped ≡ true) → length output < d.end + totals_room → l ≡ record { reader = d.reader; next = d.next; end = d.end; task = Write } → output' ≡ output → AfterLines d len piece status output l output'
  totals : {r : ℕ} → len ≤ d.next → (piece ≡ []) ⊎ (d.reader.splitter.stopped ≡ true) → l ≡ record { reader = d.reader; next = d.next; end = r; task = End } → r ≤ length output → WroteAt d.end (totals_by d.reader status) output output' r → AfterLines d len piece status output l output'

module _ (l : Lister) (piece output : List ℕ) (t : Tables) where
  -- The place of the next text, and what of the piece is to be read.
  abbrev place : ℕ
  place = place_by l.task l.end

  abbrev rest : List ℕ
  rest = drop (start_by l.task l.next (length piece)) piece

  -- A call: the output is short of room, and is to be written first; lines are listed until it is, or to the end of the piece; and where reading has stopped, or the input has ended, the totals too.
  pub data Lists (l' : Lister) (output' : List ℕ) (t' : Tables) : Type 0 where
    full : length output < place + lister_room → l' ≡ record { reader = l.reader; next = start_by l.task l.next (length piece); end = least place (length output); task = Write } → output' ≡ output → t' ≡ t → Lists l' output' t'
    pauses :
        (f : Follows l.reader.splitter rest l.reader.engine.graph t l'.reader.splitter (drop l'.next piece) l'.reader.engine.graph t') → l'.task ≡ Write → length output < l'.end + lister_room →
        WroteAt place (passed_text f.passed) output output' l'.end → l'.end ≤ length output → Lists l' output' t'
    goes_on :
        {left : List ℕ} (f : Follows l.reader.splitter rest l.reader.engine.graph t l'.reader.splitter left l'.reader.engine.graph t') → left ≡ [] → l'.task ≡ Read → 0 < length piece → l'.reader.splitter.stopped ≡ false →
        WroteAt place (passed_text f.passed) output output' l'.end → l'.end ≤ length output → Lists l' output' t'
    stopped :
        {left : List ℕ} (f : Follows l.reader.splitter rest l.reader.engine.graph t l'.reader.splitter left l'.reader.engine.graph t') → l'.task ≡ End → l'.reader.splitter.stopped ≡ true →
        WroteAt place (passed_text f.passed ++ totals_by l'.reader t'.status) output output' l'.end → l'.end ≤ length output → Lists l' output' t'
    ended :
        {newline left : List ℕ} → piece ≡ [] → newline ≡ last_newlines l.reader.splitter → (f : Follows l.reader.splitter newline l.reader.engine.graph t l'.reader.splitter left l'.reader.engine.graph t') → left ≡ [] → l'.task ≡ End →
        WroteAt place (passed_text f.passed ++ totals_by l'.reader t'.status) output output' l'.end → l'.end ≤ length output → Lists l' output' t'
