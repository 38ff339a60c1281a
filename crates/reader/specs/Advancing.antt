-- The fold over a record's lines that listing, drawing and reading whole rest on: which lines were passed, and what came of each, on tables with any contents.
-- Assumes nothing.
use Rattle.std.specs.Prelude.{◌≡◌, Bool, true, false, not, List, [], ◌∷◌, ◌++◌, ℕ, ◌+◌, ◌≤◌, eqb, length, None, Some, Ok, Err}
use Rattle.gid.specs.Refusals.{max_states}
use Rattle.tables.specs.declared.Graph.{Graph}
use Rattle.tables.specs.Tables.{Tables}
use Rattle.tables.specs.Keeping.{KeptTables}
use Rattle.record.specs.declared.splitter.Item.{Item}
use Rattle.record.specs.declared.splitter.Splitter.{Splitter}
use Rattle.record.specs.Items.{max_lines}
use Rattle.record.specs.Splitting.{tells, after_bytes}
use Rattle.engine.specs.Answers.{Answer}
use Rattle.reader.specs.declared.driver.Until.{Until}
use Rattle.reader.specs.declared.driver.Until.TheVariants.{News, Refusal, End}
use Rattle.reader.specs.Opening.{reader_states}
use Rattle.reader.specs.Turning.{Answered, Came}

-- A line that was passed: what it is, what came of it, and the tables after it.
pub record Passed : Type 0 where
  pub item : Item
  pub answer : Answered
  pub after : Tables

abbrev pub items_of : List Passed → List Item
items_of [] = []
items_of (p ∷ l) = p.item ∷ items_of l

-- Lines applied one after another, from a state value and tables to those after the last.
pub data Applies : Graph → Tables → List Passed → Graph → Tables → Type 0 where
  none : {g : Graph} {t : Tables} → Applies g t [] g t
  next : {g g₁ g' : Graph} {t t' : Tables} {p : Passed} {l : List Passed} → Came p.item g t g₁ p.after p.answer → Applies g₁ p.after l g' t' → Applies g t (p ∷ l) g' t'

-- Whether a line has news or is refused, and whether it is refused.
abbrev pub has_news : Answer → Bool
has_news (Ok k) = not (eqb k 0)
has_news (Err r) = true

abbrev pub is_refused : Answer → Bool
is_refused (Ok k) = false
is_refused (Err r) = true

-- Whether a line is one that is waited for.
abbrev pub waited : Until → Answered → Bool
waited News None = false
waited News (Some a) = has_news a.outcome
waited Refusal None = false
waited Refusal (Some a) = is_refused a.outcome
waited End o = false

-- None of the lines is.
abbrev pub Quiet : Until → List Passed → Type 0
Quiet until [] = Unit {0}
Quiet until (p ∷ l) = (waited until p.answer ≡ false) × Quiet until l

-- Where a reader stops: at the first line that is waited for, whose answer it gives, or where no byte is left.
pub data Stops (until : Until) (passed : List Passed) (left : List ℕ) (answer : Answered) : Type 0 where
  found : (before : List Passed) (p : Passed) → passed ≡ before ++ (p ∷ []) → Quiet until before → waited until answer ≡ true → answer ≡ p.answer → Stops until passed left answer
  ended : Quiet until passed → left ≡ [] → answer ≡ None → Stops until passed left answer

-- An answer's line is one that a record may have, or the one behind the last, and its news stand in the front of the news list.
abbrev pub BoundedBy : ℕ → Answer → List ℕ → Type 0
BoundedBy line (Ok k) news = (line ≤ max_lines + 1) × (k ≤ max_states) × (k ≤ length news)
BoundedBy line (Err r) news = line ≤ max_lines + 1

abbrev pub Bounded : Answered → List ℕ → Type 0
Bounded None news = Unit {0}
Bounded (Some a) news = BoundedBy a.line a.outcome news

-- From a splitter, a state value, tables and the bytes that are to be read to those after some lines.
pub record Follows (s : Splitter) (bytes : List ℕ) (g : Graph) (t : Tables) (s' : Splitter) (bytes' : List ℕ) (g' : Graph) (t' : Tables) : Type 0 where
  pub passed : List Passed
  pub applied : Applies g t passed g' t'
  -- The bytes up to those that are left are read. One by one they tell the lines passed, and bring the splitter where it stands.
  pub read : List ℕ
  pub split : bytes ≡ read ++ bytes'
  pub told : tells s read ≡ items_of passed
  pub fed : s' ≡ after_bytes s read
  pub kept : KeptTables reader_states reader_states g.limit t t'

-- The same, up to a line that is waited for.
pub record Advances (until : Until) (s : Splitter) (bytes : List ℕ) (g : Graph) (t : Tables) (s' : Splitter) (bytes' : List ℕ) (g' : Graph) (t' : Tables) (answer : Answered) : Type 0 where
  pub follows : Follows s bytes g t s' bytes' g' t'
  pub stops : Stops until follows.passed bytes' answer
  -- Where there is no byte to read, no line is passed.
  pub idle : bytes ≡ [] → follows.passed ≡ []
  pub bounded : Bounded answer t'.news
