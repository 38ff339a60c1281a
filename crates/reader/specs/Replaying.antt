-- What the lines of a record come to, by the definitions alone: each line's outcome after the history of those accepted before it. Of the state value that the lines are read with, n and the step limit count.
-- Assumes nothing.
use Rattle.std.specs.Prelude.{List, [], ◌∷◌, ℕ}
use Rattle.std.proofs.Math.Option.{Option, some, none}
use Rattle.gid.specs.declared.Update.{Update as Sent}
use Rattle.gid.specs.Histories.{History}
use Rattle.gid.specs.Outcomes.{Outcome, refused, accepted, by_number, outcome, after}
use Rattle.record.specs.declared.splitter.Item.{Item}
use Rattle.record.specs.declared.splitter.Item.TheVariants.{Nothing, Update, Malformed, BadNames, TooMany, States, BadCount}
use Rattle.record.specs.Items.{item_number, item_line, items}
use Rattle.tables.specs.declared.Graph.{Graph}
use Rattle.reader.specs.Opening.{reader_graph}

-- The state value behind a line: n is the record's count.
abbrev pub with_count : Item → Graph → Graph
with_count Nothing g = g
with_count (Update r) g = g
with_count (Malformed n) g = g
with_count (BadNames n) g = g
with_count TooMany g = g
with_count (States c) g = record { n = c; limit = g.limit; steps = g.steps }
with_count BadCount g = g

-- The state value that lines are read with, by the first of them. "A record without it means 2,048": the reader's own n stays.
abbrev pub start_of : Graph → List Item → Graph
start_of start [] = start
start_of start (a ∷ l) = with_count a start

-- What comes of a line after the history h: its update's outcome, or its own number, "10: the names line is not exact", "11: a line is malformed", "12: line 65,536 exists", "17 as line 2". A count is accepted and has no news.
abbrev pub outcome_of : Graph → History → Item → Outcome (List ℕ)
outcome_of start h Nothing = by_number (item_number Nothing) []
outcome_of start h (Update r) = outcome start.n start.limit h r.update
outcome_of start h (Malformed n) = by_number (item_number (Malformed n)) []
outcome_of start h (BadNames n) = by_number (item_number (BadNames n)) []
outcome_of start h TooMany = by_number (item_number TooMany) []
outcome_of start h (States c) = by_number (item_number (States c)) []
outcome_of start h BadCount = by_number (item_number BadCount) []

-- The accepted history after the line. "A 10, 11 or 12 changes nothing further", nor does a count or a 17.
abbrev pub after_item : Graph → History → Item → History
after_item start h Nothing = h
after_item start h (Update r) = after start.n start.limit h r.update
after_item start h (Malformed n) = h
after_item start h (BadNames n) = h
after_item start h TooMany = h
after_item start h (States c) = h
after_item start h BadCount = h

abbrev pub after_items : Graph → History → List Item → History
after_items start h [] = h
after_items start h (a ∷ l) = after_items start (after_item start h a) l

-- The state value that a record is read with: its count as n, and the caller's limit.
abbrev pub record_start : ℕ → List ℕ → Graph
record_start limit bytes = start_of (reader_graph limit) (items bytes)

-- The history of a record's accepted lines.
abbrev pub history_of : ℕ → List ℕ → History
history_of limit bytes = after_items (record_start limit bytes) [] (items bytes)

-- The line and the number of a refusal.
pub record Refusal : Type 0 where
  pub line : ℕ
  pub number : ℕ

-- The first refusal among some lines, if there is one.
abbrev pub or_later : Outcome (List ℕ) → ℕ → Option Refusal → Option Refusal
or_later (refused k) line later = some (record { line = line; number = k })
or_later (accepted l) line later = later

abbrev pub first_refusal : Graph → History → List Item → Option Refusal
first_refusal start h [] = none
first_refusal start h (a ∷ l) = or_later (outcome_of start h a) (item_line a) (first_refusal start (after_item start h a) l)

-- The lines up to the first that is refused.
abbrev pub or_stop : Outcome (List ℕ) → List Item → List Item
or_stop (refused k) later = []
or_stop (accepted l) later = later

abbrev pub up_to_refusal : Graph → History → List Item → List Item
up_to_refusal start h [] = []
up_to_refusal start h (a ∷ l) = a ∷ or_stop (outcome_of start h a) (up_to_refusal start (after_item start h a) l)

-- The update that a line sends, if it is one.
abbrev pub sends : Item → List Sent
sends Nothing = []
sends (Update r) = r.update ∷ []
sends (Malformed n) = []
sends (BadNames n) = []
sends TooMany = []
sends (States c) = []
sends BadCount = []
