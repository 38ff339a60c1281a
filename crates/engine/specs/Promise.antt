-- The promise of an update, on all inputs: state values, tables and the answer, before and after.
-- Assumes nothing.
use Rattle.std.specs.Prelude.{◌≡◌, ◌⊎◌, Bool, true, ℕ, ◌<◌, ◌≤◌}
use mathlib.Core.List.{List, [], ◌∷◌, Memᴰ}
use Rattle.std.proofs.Math.Option.{some, none}
use Rattle.gid.specs.declared.Edge.{Edge}
use Rattle.gid.specs.declared.Update.{Update}
use Rattle.gid.specs.declared.Update.TheVariants.{Step, Terminal, Close}
use Rattle.gid.specs.Histories.{History, Legal, repeats}
use Rattle.gid.specs.News.{news, Rising}
use Rattle.gid.specs.Refusals.{max_key}
use Rattle.tables.specs.declared.Graph.{Graph}
use Rattle.tables.specs.Tables.{Tables, nodes_of}
use Rattle.tables.specs.Marks.{closes_again}
use Rattle.tables.specs.Visits.{Marking, by_bit}
use Rattle.tables.specs.Keeping.{Kept, KeptTablesBy}
use Rattle.tables.specs.Listing.{listed_on, added_on, from_after, to_after, key_after, graph_after}
use Rattle.tables.specs.Refused.{refusal_by}
use Rattle.tables.specs.Fitting.{ConsistentBy}
use Rattle.engine.specs.Answers.{Answer}
use Rattle.engine.specs.Answers.{answer_number, news_count, news_of}
use Rattle.engine.specs.Effects.{marks_after, only_named}

-- The news names states below n in rising order; "entries behind that front keep their contents".
pub record NewsKept (n : ℕ) (before after : List ℕ) (answer : Answer) : Type 0 where
  pub few : news_count answer ≤ n
  pub rising : Rising (news_of answer after)
  pub in_range : (s : ℕ) → Memᴰ s (news_of answer after) → s < n
  pub behind : Kept (news_count answer) before after

-- An accepted update x, on tables whose visited marks have some form.
pub record AcceptedUpdateBy (form : Marking) (g : Graph) (x : Update) (t : Tables) (g' : Graph) (t' : Tables) (answer : Answer) : Type 0 where
  -- On any tables: the state value, the marks and the step list by equations. "A step equal in from, to and key to a listed one" adds nothing (document 02, #103);
  pub graph : g' ≡ graph_after g (added_on g t x)
  pub marks : t'.marks ≡ marks_after x t.marks
  pub from : t'.from ≡ from_after g.steps (added_on g t x) t.from
  pub to : t'.to ≡ to_after g.steps (added_on g t x) t.to
  pub key : t'.key ≡ key_after g.steps (added_on g t x) t.key
  -- every table below its needed length alone, and the news. What statuses, successors and work tables hold there is free on tables that do not fit, but for the two below.
  pub kept : KeptTablesBy form.entries g.n (nodes_of g) g.limit t t'
  pub named : NewsKept g.n t.news t'.news answer
  -- "A close of a closed state": "no news and no change" (document 02, #102).
  pub again : closes_again x t.marks ≡ true → (news_count answer ≡ 0) × (g' ≡ g) × (t' ≡ t)
  -- A repeated step: no news, the state value as before, and its states are named. On tables that fit they are, so that nothing changes (`step_again`).
  pub repeated : repeats (listed_on g t) x ≡ true → (news_count answer ≡ 0) × (g' ≡ g) × (t' ≡ only_named x t)
  -- On tables that fit for a legal history h: they fit for h followed by x, and the news is the definition's.
  pub fits : (h : History) → Legal h → ConsistentBy form h g t → ConsistentBy form (x ∷ h) g' t' × (news_of answer t'.news ≡ news g.n h x)

-- The answer has the first number that applies, or none does. "In each case nothing lent changes, the state value returns as it came and the news is empty."
pub record PromiseBy (form : Marking) (g : Graph) (x : Update) (t : Tables) (g' : Graph) (answer : Answer) (t' : Tables) : Type 0 where
  pub number : answer_number answer ≡ refusal_by form.entries g t x
  pub refuses : (k : ℕ) → refusal_by form.entries g t x ≡ some k → (news_of answer t'.news ≡ []) × (g' ≡ g) × (t' ≡ t)
  pub accepts : refusal_by form.entries g t x ≡ none → AcceptedUpdateBy form g x t g' t' answer

-- So for the engine, whose marks are bits.
abbrev pub AcceptedUpdate : (g : Graph) (x : Update) (t : Tables) (g' : Graph) (t' : Tables) (answer : Answer) → Type 0
AcceptedUpdate = AcceptedUpdateBy by_bit

abbrev pub Promise : (g : Graph) (x : Update) (t : Tables) (g' : Graph) (answer : Answer) (t' : Tables) → Type 0
Promise = PromiseBy by_bit

-- The update's states are below n; a step has a key of 0 to 31, and there is a free place behind the m listed steps, or an equal one is among these.
abbrev pub Sendable : ℕ → ℕ → ℕ → (Edge → Bool) → Update → Type 0
Sendable n limit m listed (Step e) = (e.from < n) × (e.to < n) × (e.key ≤ max_key) × ((m < limit) ⊎ (listed e ≡ true))
Sendable n limit m listed (Terminal u) = u < n
Sendable n limit m listed (Close u) = u < n
