-- The visited marks of a search, one for each node: how one is read, set and cleared. How many entries they take is `visited_length` (Tables), and what a call keeps of them `KeptVisited` (Keeping). proofs/Marking.antt has the laws: all that a search needs of the marks.
-- Assumes nothing.
use Rattle.std.specs.Prelude.{◌≡◌, Bool, false, List, ℕ, ◌+◌, ◌/◌, ◌%◌, ◌<◌, ◌≤◌, length, get_or, set}
use Rattle.tables.specs.Bits.{has_bit, with_bit, without_bit}
use Rattle.tables.specs.Tables.{visited_length}

-- The table has a mark for the node s.
abbrev pub HasMark : List ℕ → ℕ → Type 0
HasMark visited s = visited_length (s + 1) ≤ length visited

-- "Marks of states visited during a search [..] take one bit each" (document 02, #106): that of the node s is bit s % 16 of the entry s / 16.
unfoldable pub marked : List ℕ → ℕ → Bool
marked visited s = has_bit (s % 16) (get_or visited (s / 16) 0)

unfoldable pub mark : List ℕ → ℕ → List ℕ
mark visited s = set visited (s / 16) (with_bit (s % 16) (get_or visited (s / 16) 0))

unfoldable pub unmark : List ℕ → ℕ → List ℕ
unmark visited s = set visited (s / 16) (without_bit (s % 16) (get_or visited (s / 16) 0))

-- No node between s and r is visited.
abbrev pub NoneBetween : List ℕ → ℕ → ℕ → Type 0
NoneBetween visited s r = (i : ℕ) → s < i → i < r → marked visited i ≡ false

-- A form of the visited marks: how many entries those of some nodes take, and whether a node is marked.
pub record Marking : Type 0 where
  pub entries : ℕ → ℕ
  pub is_marked : List ℕ → ℕ → Bool

-- The form that the engine has: a bit for each node.
abbrev pub by_bit : Marking
by_bit = record { entries = visited_length; is_marked = marked }

-- No node is marked as visited. A mark behind the nodes, in the last entry, may be set: it is nobody's.
abbrev pub NoneVisitedBy : Marking → ℕ → List ℕ → Type 0
NoneVisitedBy form nodes visited = (s : ℕ) → s < nodes → form.is_marked visited s ≡ false

abbrev pub NoneVisited : ℕ → List ℕ → Type 0
NoneVisited = NoneVisitedBy by_bit
