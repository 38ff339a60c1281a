-- What a call keeps of the tables that it is lent: "Entries past the needed length are never touched."
-- Assumes nothing.
use Rattle.std.specs.Prelude.{◌≡◌, List, ◌++◌, ℕ, ◌≤◌, length, get_or, drop, replicate}
use Rattle.tables.specs.Tables.{Tables, visited_length}

-- A table was written below n alone, and kept its length.
pub record Kept (n : ℕ) (l l' : List ℕ) : Type 0 where
  pub size : length l' ≡ length l
  pub past : (i : ℕ) → n ≤ i → get_or l' i 0 ≡ get_or l i 0

-- So were the visited marks of some nodes.
abbrev pub KeptVisited : ℕ → List ℕ → List ℕ → Type 0
KeptVisited nodes l l' = Kept (visited_length nodes) l l'

-- Every table was, for n states, the nodes of a search and a step limit, where the visited marks of some nodes take so many entries.
pub record KeptTablesBy (entries : ℕ → ℕ) (n nodes limit : ℕ) (t t' : Tables) : Type 0 where
  pub status : Kept nodes t.status t'.status
  pub marks : Kept n t.marks t'.marks
  pub from : Kept limit t.from t'.from
  pub to : Kept limit t.to t'.to
  pub key : Kept limit t.key t'.key
  pub successor : Kept nodes t.successor t'.successor
  pub news : Kept n t.news t'.news
  pub in_head : Kept nodes t.in_head t'.in_head
  pub out_head : Kept nodes t.out_head t'.out_head
  pub queue : Kept nodes t.queue t'.queue
  pub visited : Kept (entries nodes) t.visited t'.visited
  pub in_next : Kept limit t.in_next t'.in_next
  pub out_next : Kept limit t.out_next t'.out_next

-- So for the calls, whose marks are bits.
abbrev pub KeptTables : (n nodes limit : ℕ) (t t' : Tables) → Type 0
KeptTables = KeptTablesBy visited_length

-- The first entries of a table all set to one value, the others as they were.
unfoldable pub filled : ℕ → ℕ → List ℕ → List ℕ
filled n v l = replicate n v ++ drop n l
