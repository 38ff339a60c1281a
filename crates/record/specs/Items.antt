-- What each line of a record is. Document 01, "The record" and the numbers 10, 11 and 12; document 02, #101, and #107 with the number 17.
-- Assumes nothing.
use Rattle.std.specs.Prelude.{Bool, true, false, cond, ◌&&◌, List, [], ◌∷◌, ℕ, ◌+◌, leb, eqb}
use Rattle.std.proofs.Math.Option.{Option, some, none}
use Rattle.gid.specs.declared.Update.{Update}
use Rattle.record.specs.declared.line.Form.{Form}
use Rattle.record.specs.declared.line.Form.TheVariants.{Plain, Keyed}
use Rattle.record.specs.declared.splitter.Item.{Item}
use Rattle.record.specs.declared.splitter.Item.TheVariants.{Nothing, Update as Read, Malformed, BadNames, TooMany, States, BadCount}
use Rattle.record.specs.Text.{states_line, names}
use Rattle.record.specs.Grammar.{line_of, count_of}
use Rattle.record.specs.Lines.{lines}

-- Two lists of bytes are the same.
unfoldable pub same : List ℕ → List ℕ → Bool
same [] [] = true
same [] (y ∷ m) = false
same (x ∷ l) [] = false
same (x ∷ l) (y ∷ m) = eqb x y && same l m

-- "A line that has been read is kept as its line number with one of the three kinds of update." "11: a line is malformed."
abbrev pub line_item : ℕ → Option Update → Item
line_item n none = Malformed n
line_item n (some x) = Read (record { line = n; update = x })

-- The last line that a record may have.
abbrev pub max_lines : ℕ
max_lines = 65535

-- The lines from number n on, behind the names line, which gives the form. "12: line 65,536 exists, malformed or not (tested before 11). Reading stops there." "11: .. It is skipped and reading goes on."
unfoldable pub further : Form → ℕ → List (List ℕ) → List Item
further f n [] = []
further f n (l ∷ ls) = cond (leb n max_lines) (line_item n (line_of f l) ∷ further f (n + 1) ls) (TooMany ∷ [])

-- The lines from number n on, of which the first is the names line. "A record may begin with `kind from to key`", or has "the old names line". "10: the names line is not exact. Reading stops." "Empty input lacks its names line."
unfoldable pub from_names : ℕ → List (List ℕ) → List Item
from_names n [] = BadNames n ∷ []
from_names n (l ∷ ls) = cond (same l (names Plain)) (further Plain (n + 1) ls) (cond (same l (names Keyed)) (further Keyed (n + 1) ls) (BadNames n ∷ []))

-- The lines behind `states`: "a line with the count, and then the names line". "a second line that is missing or is not a number from 1 to 2,048 gets 17 as line 2, before the names line, and reading stops."
abbrev pub count_items : Option ℕ → List Item → List Item
count_items none ls = BadCount ∷ []
count_items (some c) ls = States c ∷ ls

unfoldable pub from_count : List (List ℕ) → List Item
from_count [] = BadCount ∷ []
from_count (l ∷ ls) = count_items (count_of l) (from_names 3 ls)

-- "A record may now begin with a line `states`".
unfoldable pub all : List (List ℕ) → List Item
all [] = from_names 1 []
all (l ∷ ls) = cond (same l states_line) (from_count ls) (from_names 1 (l ∷ ls))

-- What a record's lines are, in order.
unfoldable pub items : List ℕ → List Item
items s = all (lines s)

-- What the head of a record says of its states: a count, a 17, or nothing.
abbrev pub count_in : List Item → Item
count_in [] = Nothing
count_in (Nothing ∷ l) = Nothing
count_in (Read x ∷ l) = Nothing
count_in (Malformed n ∷ l) = Nothing
count_in (BadNames n ∷ l) = Nothing
count_in (TooMany ∷ l) = Nothing
count_in (States c ∷ l) = States c
count_in (BadCount ∷ l) = BadCount

-- The number that an item is refused with, none for an update and a count, and the line that it stands at.
abbrev pub item_number : Item → Option ℕ
item_number Nothing = none
item_number (Read x) = none
item_number (Malformed n) = some 11
item_number (BadNames n) = some 10
item_number TooMany = some 12
item_number (States c) = none
item_number BadCount = some 17

abbrev pub item_line : Item → ℕ
item_line Nothing = 0
item_line (Read x) = x.line
item_line (Malformed n) = n
item_line (BadNames n) = n
item_line TooMany = max_lines + 1
item_line (States c) = 2
item_line BadCount = 2
