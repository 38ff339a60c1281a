-- What an accepted update does that does not come again (no close of a closed state, no repeated step), on tables with any contents.
-- Assumes nothing.
use Rattle.std.specs.Prelude.{◌≡◌, List, [], ℕ, ◌+◌, ◌≤◌, length}
use Rattle.gid.specs.declared.Edge.{Edge}
use Rattle.gid.specs.declared.Update.{Update}
use Rattle.gid.specs.declared.Update.TheVariants.{Step}
use Rattle.gid.specs.Histories.{step_of}
use Rattle.gid.specs.Refusals.{max_states, max_steps}
use Rattle.tables.specs.Tables.{Tables, Long}
use Rattle.tables.specs.Listing.{from_after, to_after, key_after}
use Rattle.adjacency.specs.Walks.{Pushed}
use Rattle.search.specs.Spreading.{chains, into, out_of}
use Rattle.search.specs.Escaping.{toward}
use Rattle.search.specs.Searches.{SearchTables}
use Rattle.engine.specs.Effects.{set_marks, names_after}
use Rattle.engine.specs.Judging.{Judged}

-- The chains of steps after the update x: a step is put in front of the steps out of its source and of those into its target, at the place m.
pub data Chained (m : ℕ) (in_head out_head in_next out_next in_head' out_head' in_next' out_next' : List ℕ) : Update → Type 0 where
  pushed : (e : Edge) → Pushed out_head out_next e.from m out_head' out_next' → Pushed in_head in_next e.to m in_head' in_next' → Chained m in_head out_head in_next out_next in_head' out_head' in_next' out_next' (Step e)
  same : {x : Update} → step_of x ≡ [] → in_head' ≡ in_head → out_head' ≡ out_head → in_next' ≡ in_next → out_next' ≡ out_next → Chained m in_head out_head in_next out_next in_head' out_head' in_next' out_next' x

-- What the update x adds is listed behind the m steps, in the list and in the chains.
pub record Listed (m : ℕ) (x : Update) (from to key in_head out_head in_next out_next from' to' key' in_head' out_head' in_next' out_next' : List ℕ) : Type 0 where
  pub sources : from' ≡ from_after m (step_of x) from
  pub targets : to' ≡ to_after m (step_of x) to
  pub keys : key' ≡ key_after m (step_of x) key
  pub chained : Chained m in_head out_head in_next out_next in_head' out_head' in_next' out_next' x

-- The tables that a search writes, and with the states of x named.
abbrev pub search_tables : Tables → SearchTables
search_tables t = record { status = t.status; successor = t.successor; news = t.news; visited = t.visited; queue = t.queue }

abbrev pub naming : Update → SearchTables → SearchTables
naming x b = record { status = names_after x b.status; successor = b.successor; news = b.news; visited = b.visited; queue = b.queue }

-- The update x is done on tables with n states and m steps: k news.
pub record Done (n m : ℕ) (t t' : Tables) (k : ℕ) (x : Update) : Type 0 where
  pub marks : t'.marks ≡ set_marks x t.marks
  pub listed : Listed m x t.from t.to t.key t.in_head t.out_head t.in_next t.out_next t'.from t'.to t'.key t'.in_head t'.out_head t'.in_next t'.out_next
  pub judged :
      Judged n (into (chains n (m + length (step_of x)) t'.from t'.in_head t'.in_next)) (out_of (chains n (m + length (step_of x)) t'.to t'.out_head t'.out_next))
      (toward (m + length (step_of x)) t'.to) x (naming x (search_tables t)) (search_tables t') k

-- What the tests 1 to 4 leave to an update.
pub record Room (n nodes limit m : ℕ) (t : Tables) : Type 0 where
  pub states : n ≤ max_states
  pub bound : limit ≤ max_steps
  pub steps : m ≤ limit
  pub news : n ≤ length t.news
  pub long : Long n nodes limit t
