-- The tables that the caller lends, at one moment, as lists. Document 01, "The tables the bench lends".
-- Assumes nothing.
use Rattle.std.specs.Prelude.{Bool, true, ◌&&◌, List, [], ◌∷◌, ℕ, ◌+◌, ◌/◌, ◌≤◌, leb, length}
use Rattle.tables.specs.declared.Graph.{Graph}
use Rattle.tables.specs.declared.lengths.Lengths.{Lengths}

pub record Tables : Type 0 where
  -- "Status table, a byte for each state: 0 unseen, 1 open, 2 unknown, 3 live, 4 dead."
  pub status : List ℕ
  -- "Marks, a byte for each state, the sum of 1 (named), 2 (terminal), 4 (closed)."
  pub marks : List ℕ
  -- "Step list: two tables of 16-bit numbers, from and to, each as long as the step limit, in order of acceptance." The keys, bytes, are "held in a third table beside from and to" (document 02, #101).
  pub from : List ℕ
  pub to : List ℕ
  pub key : List ℕ
  -- "Successors, a 16-bit number for each state."
  pub successor : List ℕ
  -- "News list, a 16-bit number for each state."
  pub news : List ℕ
  -- "Work tables of 16-bit numbers": the heads of the lists of steps into and out of each state,
  pub in_head : List ℕ
  pub out_head : List ℕ
  -- the queue of a search and the mark of the states that it has visited,
  pub queue : List ℕ
  pub visited : List ℕ
  -- and for each listed step the next one with the same end.
  pub in_next : List ℕ
  pub out_next : List ℕ

-- The lent lists, in the order in which the calls take them.
abbrev pub tables_of : (status marks from to key successor news in_head out_head queue visited in_next out_next : List ℕ) → Tables
tables_of status marks from to key successor news in_head out_head queue visited in_next out_next =
    record {
      status = status;
      marks = marks;
      from = from;
      to = to;
      key = key;
      successor = successor;
      news = news;
      in_head = in_head;
      out_head = out_head;
      queue = queue;
      visited = visited;
      in_next = in_next;
      out_next = out_next;
    }

-- What a search runs over: a node for each state.
abbrev pub nodes_of : Graph → ℕ
nodes_of g = g.n

-- How many entries the visited marks of some nodes take: a bit for each node, "n/16 (rounded up)" (document 02, #106).
unfoldable pub visited_length : ℕ → ℕ
visited_length nodes = (nodes + 15) / 16

-- A table's length, and how many of its entries are needed.
pub record Needed : Type 0 where
  pub have : ℕ
  pub need : ℕ

abbrev pub enough : List Needed → Bool
enough [] = true
enough (x ∷ l) = leb x.need x.have && enough l

abbrev pub lengths : Tables → Lengths
lengths t =
    record {
      status = length t.status;
      marks = length t.marks;
      successor = length t.successor;
      news = length t.news;
      in_head = length t.in_head;
      out_head = length t.out_head;
      queue = length t.queue;
      visited = length t.visited;
      from = length t.from;
      to = length t.to;
      key = length t.key;
      in_next = length t.in_next;
      out_next = length t.out_next;
    }

-- The work tables, for the nodes of a search and a step limit, where the visited marks of some nodes take so many entries.
abbrev pub work_needs_by : (entries : ℕ → ℕ) → ℕ → ℕ → Lengths → List Needed
work_needs_by entries nodes limit l =
    record { have = l.in_head; need = nodes } ∷
    record { have = l.out_head; need = nodes } ∷
    record { have = l.queue; need = nodes } ∷
    record { have = l.visited; need = entries nodes } ∷
    record { have = l.in_next; need = limit } ∷
    record { have = l.out_next; need = limit } ∷ []

-- The tables that a table check is lent, for n states besides: all but the news list.
abbrev pub check_needs_by : (entries : ℕ → ℕ) → ℕ → ℕ → ℕ → Lengths → List Needed
check_needs_by entries n nodes limit l =
    record { have = l.status; need = nodes } ∷
    record { have = l.marks; need = n } ∷
    record { have = l.from; need = limit } ∷
    record { have = l.to; need = limit } ∷
    record { have = l.key; need = limit } ∷
    record { have = l.successor; need = nodes } ∷ work_needs_by entries nodes limit l

-- An update is lent the news list besides.
abbrev pub needs_by : (entries : ℕ → ℕ) → ℕ → ℕ → ℕ → Lengths → List Needed
needs_by entries n nodes limit l = record { have = l.news; need = n } ∷ check_needs_by entries n nodes limit l

-- Whether every table that an update is lent is long enough.
abbrev pub long_enough_by : (entries : ℕ → ℕ) → Graph → Tables → Bool
long_enough_by entries g t = enough (needs_by entries g.n (nodes_of g) g.limit (lengths t))

-- So for the calls, whose marks are bits. The work tables: "at most 3n + 4 × limit + n/16 (rounded up) entries" (document 02, #106; proofs/Sizes.antt).
abbrev pub work_needs : ℕ → ℕ → Lengths → List Needed
work_needs = work_needs_by visited_length

abbrev pub check_needs : ℕ → ℕ → ℕ → Lengths → List Needed
check_needs = check_needs_by visited_length

abbrev pub needs : ℕ → ℕ → ℕ → Lengths → List Needed
needs = needs_by visited_length

abbrev pub long_enough : Graph → Tables → Bool
long_enough = long_enough_by visited_length

abbrev pub total : List Needed → ℕ
total [] = 0
total (x ∷ l) = x.need + total l

-- Each table but the news list is long enough: what `check_needs` says, table by table (proofs/Sizes.antt).
pub record Long (n nodes limit : ℕ) (t : Tables) : Type 0 where
  pub status : nodes ≤ length t.status
  pub marks : n ≤ length t.marks
  pub from : limit ≤ length t.from
  pub to : limit ≤ length t.to
  pub key : limit ≤ length t.key
  pub successor : nodes ≤ length t.successor
  pub in_head : nodes ≤ length t.in_head
  pub out_head : nodes ≤ length t.out_head
  pub queue : nodes ≤ length t.queue
  pub visited : visited_length nodes ≤ length t.visited
  pub in_next : limit ≤ length t.in_next
  pub out_next : limit ≤ length t.out_next
