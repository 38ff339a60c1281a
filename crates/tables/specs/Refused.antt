-- Which number a call gets on the tables that it is lent: gid's refusals, with what they turn on read from the tables.
-- Assumes nothing.
use Rattle.std.specs.Prelude.{Bool, true, false, cond, List, [], ◌∷◌, ◌++◌, ℕ, leb, eqb, length, get_or, Result, Ok, Err}
use Rattle.std.proofs.Math.Option.{Option, some, none}
use Rattle.gid.specs.declared.Edge.{Edge}
use Rattle.gid.specs.declared.Update.{Update}
use Rattle.gid.specs.declared.Update.TheVariants.{Step, Terminal, Close}
use Rattle.gid.specs.Refusals.{Given, Rule, first, lent, sent, refusal}
use Rattle.gid.specs.Outcomes.{Outcome, refused, accepted, by_number}
use Rattle.tables.specs.declared.Graph.{Graph}
use Rattle.tables.specs.declared.refusal.Refusal.{Refusal}
use Rattle.tables.specs.declared.refusal.Refusal.TheVariants.{OutOfRange, ClosedSource}
use Rattle.tables.specs.Numbers.{number_of}
use Rattle.tables.specs.Tables.{Tables, visited_length, long_enough_by, nodes_of}
use Rattle.tables.specs.Marks.{has_closed}
use Rattle.tables.specs.Listing.{listed_on}

-- The step list has no free place.
abbrev pub is_full : Graph → Bool
is_full g = eqb g.steps g.limit

-- A state value with what the tables say, where `long` says whether the tables that the call is lent are long enough, `full` whether the step list has no free place, and `listed` which steps it has.
abbrev pub given : Graph → Bool → Bool → (Edge → Bool) → List ℕ → Given
given g long full listed marks =
    record {
      n = g.n;
      limit = g.limit;
      steps = g.steps;
      long = long;
      full = full;
      listed = listed;
      closed = λ s. has_closed (get_or marks s 0);
    }

-- The number with which an update is refused on these tables, or none, where the visited marks of some nodes take so many entries; and by the calls, whose marks are bits.
abbrev pub refusal_by : (entries : ℕ → ℕ) → Graph → Tables → Update → Option ℕ
refusal_by entries g t x = refusal (given g (long_enough_by entries g t) (is_full g) (listed_on g t) t.marks) x

abbrev pub refusal_on : Graph → Tables → Update → Option ℕ
refusal_on = refusal_by visited_length

-- An update that comes again, by the marks and by which steps are listed: a close of a closed state, or "a step equal in from, to and key to a listed one" (document 02, #102 and #103). It needs no place.
unfoldable pub is_again : Update → List ℕ → (Edge → Bool) → Bool
is_again (Step e) marks listed = listed e
is_again (Terminal u) marks listed = false
is_again (Close u) marks listed = has_closed (get_or marks u 0)

-- No step is listed.
abbrev pub none_listed : Edge → Bool
none_listed e = false

-- The tests 1 to 4, of a call whose lent tables are long enough or not. They read no mark, and nothing of the step list but its number.
abbrev pub lent_rules : Graph → Bool → List Rule
lent_rules g long = lent (given g long false none_listed [])

-- A number as the code has it: 0 for none.
abbrev pub number : Option ℕ → ℕ
number none = 0
number (some k) = k

-- What a test answers, as such a number;
abbrev pub code : {A : Type 0} → Result A Refusal → ℕ
code (Ok a) = 0
code (Err r) = number_of r

-- and the answers of the tests 5 and 6 by themselves.
abbrev pub in_range : Graph → ℕ → Result (Unit {0}) Refusal
in_range g s = cond (leb g.n s) (Err OutOfRange) (Ok tt)

abbrev pub unclosed : ℕ → Result (Unit {0}) Refusal
unclosed m = cond (has_closed m) (Err ClosedSource) (Ok tt)

-- The tests 1 to 4, the tests 5, 14 and 6, which are those behind them where a place is free, and the test 9 by themselves.
unfoldable pub lent_number : Graph → Bool → ℕ
lent_number g long = number (first (lent_rules g long))

unfoldable pub sent_number : Graph → List ℕ → Update → ℕ
sent_number g marks x = number (first (sent (given g true false none_listed marks) x))

unfoldable pub place_number : Bool → Update → ℕ
place_number full (Step e) = cond full 9 0
place_number full (Terminal u) = 0
place_number full (Close u) = 0

-- The status question: "tests 1 to 5", and then the state's byte. "Test 3 covers the tables that the call in hand is lent": the status table.
abbrev pub status_rules : Graph → List ℕ → ℕ → List Rule
status_rules g status s = lent_rules g (leb (nodes_of g) (length status)) ++ (record { applies = leb g.n s; number = 5 } ∷ [])

-- Document 01's number and value for each answer of the status question.
abbrev pub status_outcome : Result ℕ Refusal → Outcome ℕ
status_outcome (Ok b) = accepted b
status_outcome (Err r) = refused (number_of r)

unfoldable pub status_answer : Graph → List ℕ → ℕ → Outcome ℕ
status_answer g status s = by_number (first (status_rules g status s)) (get_or status s 0)
