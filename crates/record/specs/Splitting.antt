-- The splitter's steps: what a byte and the end of the record do. proofs/Splitting.antt proves that what is told is the items of the record.
-- Assumes nothing.
use Rattle.std.specs.Prelude.{Bool, true, false, cond, List, [], ◌∷◌, ◌++◌, ℕ, ◌+◌, leb, ltb, eqb, length, Option as Answer, Some, None}
use Rattle.std.proofs.Math.Option.{Option, some, none}
use Rattle.record.specs.declared.line.Form.{Form}
use Rattle.record.specs.declared.line.Form.TheVariants.{Plain, Keyed}
use Rattle.record.specs.declared.line.Line.{Line}
use Rattle.gid.specs.declared.Update.{Update as Change}
use Rattle.record.specs.declared.splitter.Item.{Item}
use Rattle.record.specs.declared.splitter.Item.TheVariants.{Nothing, Update as Read, Malformed, BadNames, TooMany, States, BadCount}
use Rattle.record.specs.declared.splitter.Phase.{Phase}
use Rattle.record.specs.declared.splitter.Phase.TheVariants.{First, Count, Names, Further}
use Rattle.record.specs.declared.splitter.Splitter.{Splitter}
use Rattle.record.specs.declared.splitter.Fed.{Fed}
use Rattle.record.specs.declared.splitter.Advanced.{Advanced}
use Rattle.record.specs.Items.{line_item, max_lines}
use Rattle.record.specs.Buffer.{empty_line, with_byte, filled_from, line_in, is_names_in, is_states_in, line_count}

abbrev pub at : Line → ℕ → Bool → Phase → Splitter
at l n stopped p = record { line = l; number = n; stopped = stopped; phase = p }

abbrev pub fed : Splitter → Item → Fed
fed s a = record { splitter = s; item = a }

abbrev pub advanced : Fed → ℕ → Advanced
advanced f i = record { splitter = f.splitter; item = f.item; next = i }

abbrev pub started : Splitter
started = at empty_line 1 false First

-- The names line, line n, has ended: it gives the form.
abbrev pub names_fed : ℕ → Form → Fed
names_fed n f = fed (at empty_line (n + 1) false (Further f)) Nothing

unfoldable pub after_names : ℕ → Line → Fed
after_names n l = cond (is_names_in Plain l) (names_fed n Plain) (cond (is_names_in Keyed l) (names_fed n Keyed) (fed (at empty_line (n + 1) true Names) (BadNames n)))

-- Line 2 has ended, behind `states`.
abbrev pub count_fed : Option ℕ → Fed
count_fed none = fed (at empty_line 3 true Names) BadCount
count_fed (some c) = fed (at empty_line 3 false Names) (States c)

-- The first line has ended: `states`, or the names line.
unfoldable pub after_first : Line → Fed
after_first l = cond (is_states_in l) (fed (at empty_line 2 false Count) Nothing) (after_names 1 l)

-- A further line has ended.
unfoldable pub after_further : Form → Line → ℕ → Fed
after_further f l n = cond (leb n max_lines) (fed (at empty_line (n + 1) false (Further f)) (line_item n (line_in f l))) (fed (at empty_line n true (Further f)) TooMany)

-- By the phase: the lines of the head stand at 1, 2 and 3.
unfoldable pub in_phase : Phase → Line → ℕ → Fed
in_phase First l n = after_first l
in_phase Count l n = count_fed (line_count l)
in_phase Names l n = after_names 3 l
in_phase (Further f) l n = after_further f l n

unfoldable pub after_line : Splitter → Fed
after_line s = cond s.stopped (fed s Nothing) (in_phase s.phase s.line s.number)

unfoldable pub after_byte : Splitter → ℕ → Fed
after_byte s b = cond (eqb b 10) (after_line s) (fed (at (with_byte s.line b) s.number s.stopped s.phase) Nothing)

-- The bytes of s from an index on, up to the end of a line or of s: the line takes those before the newline, and has ended where there is one.
unfoldable pub after_part : Splitter → List ℕ → ℕ → Advanced
after_part s l i =
    let f = filled_from s.line l i in
    let t = at f.line s.number s.stopped s.phase in
    cond (ltb f.next (length l)) (advanced (after_line t) (f.next + 1)) (advanced (fed t Nothing) f.next)

-- Whether the head of the record is not over: a line of it is still to end.
abbrev pub is_head : Phase → Bool
is_head First = true
is_head Count = true
is_head Names = true
is_head (Further f) = false

unfoldable pub awaited : Splitter → Bool
awaited s = cond s.stopped false (is_head s.phase)

-- Whether a line is left that the end of the record ends: "A missing last newline makes no difference. Empty input lacks its names line."
unfoldable pub pending : Splitter → Bool
pending s = cond (eqb s.line.len 0) (awaited s) true

-- The newlines that a record lacks: the last line's, if one is left, and behind it that of a line of the head that is missing.
unfoldable pub last_newlines : Splitter → List ℕ
last_newlines s = cond (pending s) (10 ∷ cond (awaited (after_line s).splitter) (10 ∷ []) []) []

-- An item that says something.
abbrev pub told : Item → List Item
told Nothing = []
told (Read x) = Read x ∷ []
told (Malformed n) = Malformed n ∷ []
told (BadNames n) = BadNames n ∷ []
told TooMany = TooMany ∷ []
told (States c) = States c ∷ []
told BadCount = BadCount ∷ []

-- All that is told while bytes are fed one by one.
unfoldable pub tells : Splitter → List ℕ → List Item
tells s [] = []
tells s (b ∷ l) = told (after_byte s b).item ++ tells (after_byte s b).splitter l

-- The same, with what is told at the end.
unfoldable pub run : Splitter → List ℕ → List Item
run s [] = tells s (last_newlines s)
run s (b ∷ l) = told (after_byte s b).item ++ run (after_byte s b).splitter l

-- The splitter after bytes that were fed one by one.
unfoldable pub after_bytes : Splitter → List ℕ → Splitter
after_bytes s [] = s
after_bytes s (b ∷ l) = after_bytes (after_byte s b).splitter l

-- What a further line tells, by what it is.
abbrev pub item_of : Answer Change → ℕ → Item
item_of (Some x) n = Read (record { line = n; update = x })
item_of None n = Malformed n
