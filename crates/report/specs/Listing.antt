-- The listing of a record, by the definitions alone. Document 01, "The record": "It prints a header, then for each line its news, one printed line for each state, or its refusal, then four counts, also after a 10 or 12"; and after a 17 (document 02, #107).
-- Assumes nothing.
use Rattle.std.specs.Prelude.{List, [], ◌∷◌, ◌++◌, ℕ}
use Rattle.gid.specs.Histories.{History}
use Rattle.gid.specs.Statuses.{status}
use Rattle.gid.specs.Outcomes.{Outcome, refused, accepted}
use Rattle.tables.specs.declared.Graph.{Graph}
use Rattle.record.specs.declared.splitter.Item.{Item}
use Rattle.record.specs.Items.{items, item_line}
use Rattle.reader.specs.Replaying.{outcome_of, after_item, after_items, record_start}
use Rattle.reader.specs.Reading.{record_limit}
use Rattle.totals.specs.Counting.{totals_below}
use Rattle.report.specs.Texts.{header, refused_text, news_text, totals_text}

-- The text of an outcome, with the line's number and the statuses after it.
abbrev pub outcome_text : ℕ → (ℕ → ℕ) → Outcome (List ℕ) → List ℕ
outcome_text line status (refused k) = refused_text line k
outcome_text line status (accepted l) = news_text line status l

-- "for each line its news, .. or its refusal": the line a after the accepted history h, for lines that are read with the state value `start`.
unfoldable pub line_text : Graph → History → Item → List ℕ
line_text start h a = outcome_text (item_line a) (status (after_item start h a)) (outcome_of start h a)

-- The lines in order,
unfoldable pub lines_text : Graph → History → List Item → List ℕ
lines_text start h [] = []
lines_text start h (a ∷ l) = line_text start h a ++ lines_text start (after_item start h a) l

-- then the totals of the history that they come to, over its n states.
unfoldable pub printed : Graph → History → List Item → List ℕ
printed start h l = lines_text start h l ++ totals_text (totals_below start.n (status (after_items start h l)))

-- "The listing program and the C call use limit 2,048."
abbrev pub listing : List ℕ → List ℕ
listing input = header ++ printed (record_start record_limit input) [] (items input)
