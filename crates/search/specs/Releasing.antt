-- Releasing visited nodes: which of them keep a way to a node that is not visited. Each released node is unmarked, has that way as its successor, and stands in the front of the queue, behind those that were released before it.
-- Assumes nothing.
use Rattle.std.specs.Prelude.{◌≡◌, ◌⊎◌, Bool, true, false, not, ◌&&◌, ◌||◌, List, ℕ, ◌+◌, ◌≤◌, ◌<◌, eqb, ltb, get_or, set, Option, Some, None}
use Rattle.gid.specs.Statuses.{status_open, status_unknown}
use Rattle.gid.specs.Systems.{Arcs}
use Rattle.tables.specs.Visits.{marked, unmark}
use Rattle.tables.specs.Keeping.{Kept, KeptVisited}
use Rattle.search.specs.Counting.{count}
use Rattle.search.specs.Spreading.{Before}

-- A node that is open or unknown.
abbrev pub hopeful : ℕ → List ℕ → ℕ → Bool
hopeful n status w = ltb w n && (eqb (get_or status w 0) status_open || eqb (get_or status w 0) status_unknown)

-- One that is not visited besides.
abbrev pub outside : ℕ → List ℕ → List ℕ → ℕ → Bool
outside n status visited w = hopeful n status w && not (marked visited w)

-- The way of the node s, by the arc p, behind j released ones: out of it to a node that is open or unknown and was not visited, or was released before;
abbrev pub WayOut : ℕ → Arcs → List ℕ → List ℕ → List ℕ → ℕ → ℕ → ℕ → Type 0
WayOut n Arc status visited queue j s p = (t : ℕ) × Arc s p t × (hopeful n status t ≡ true) × ((marked visited t ≡ false) ⊎ Before queue j t)

-- or to one released before, seen from there.
abbrev pub WayTo : Arcs → List ℕ → ℕ → ℕ → ℕ → Type 0
WayTo Arc queue j s p = (t : ℕ) × Arc s p t × Before queue j t

-- Nothing changed: k nodes are released as before.
pub record Unchanged (visited successor queue visited' successor' queue' : List ℕ) (k r : ℕ) : Type 0 where
  pub visits : visited' ≡ visited
  pub successors : successor' ≡ successor
  pub queues : queue' ≡ queue
  pub number : r ≡ k

-- The node x was released behind k others, with the arc p as its successor.
pub record Taken (x p : ℕ) (visited successor queue visited' successor' queue' : List ℕ) (k r : ℕ) : Type 0 where
  pub visits : visited' ≡ unmark visited x
  pub successors : successor' ≡ set successor x p
  pub queues : queue' ≡ set queue k x
  pub number : r ≡ k + 1

-- A part of a release: behind `len` released nodes others are, k in all, each by a way.
pub record Releases (n : ℕ) (Way : List ℕ → ℕ → ℕ → ℕ → Type 0) (visited successor queue visited' successor' queue' : List ℕ) (len k : ℕ) : Type 0 where
  pub more : len ≤ k
  pub stable : (j : ℕ) → j < len → get_or queue' j 0 ≡ get_or queue j 0
  pub shrinks : (s : ℕ) → marked visited' s ≡ true → marked visited s ≡ true
  pub front : (j : ℕ) → len ≤ j → j < k → (get_or queue' j 0 < n) × (marked visited (get_or queue' j 0) ≡ true) × (marked visited' (get_or queue' j 0) ≡ false)
  pub listed : (s : ℕ) → marked visited s ≡ true → marked visited' s ≡ false → Before queue' k s
  pub ways : (j : ℕ) → len ≤ j → j < k → Way queue' j (get_or queue' j 0) (get_or successor' (get_or queue' j 0) 0)
  pub others : (s : ℕ) → (marked visited s ≡ false) ⊎ (marked visited' s ≡ true) → get_or successor' s 0 ≡ get_or successor s 0
  pub room : k + count n (marked visited') ≤ n
  pub visits : KeptVisited n visited visited'
  pub successors : Kept n successor successor'
  pub queues : Kept n queue queue'

-- The first k of the queue are nodes.
abbrev pub QueuedBelow : ℕ → List ℕ → ℕ → Type 0
QueuedBelow n queue k = (j : ℕ) → j < k → get_or queue j 0 < n

-- A search for an arc from x that leads out: its number, or that none does.
pub data FindsOut (n : ℕ) (Arc : Arcs) (status visited : List ℕ) (x : ℕ) (r : Option ℕ) : Type 0 where
  none : r ≡ None → ((p t : ℕ) → Arc x p t → outside n status visited t ≡ false) → FindsOut n Arc status visited x r
  found : (p t : ℕ) → r ≡ Some p → Arc x p t → outside n status visited t ≡ true → FindsOut n Arc status visited x r

-- A queued node x is released by an arc that leads out, unless it is not visited or has none.
pub data Tried (n : ℕ) (Arc : Arcs) (status : List ℕ) (x : ℕ) (visited successor queue visited' successor' queue' : List ℕ) (k r : ℕ) : Type 0 where
  stays : (marked visited x ≡ true → (p t : ℕ) → Arc x p t → outside n status visited t ≡ false) → Unchanged visited successor queue visited' successor' queue' k r → Tried n Arc status x visited successor queue visited' successor' queue' k r
  leaves : (p t : ℕ) → marked visited x ≡ true → Arc x p t → outside n status visited t ≡ true → Taken x p visited successor queue visited' successor' queue' k r → Tried n Arc status x visited successor queue visited' successor' queue' k r

-- The source y of the arc p into a released node is released, unless it is no node or not visited.
pub data Pulled (n y p : ℕ) (visited successor queue visited' successor' queue' : List ℕ) (k r : ℕ) : Type 0 where
  passed : (y < n → marked visited y ≡ false) → Unchanged visited successor queue visited' successor' queue' k r → Pulled n y p visited successor queue visited' successor' queue' k r
  pulled : y < n → marked visited y ≡ true → Taken y p visited successor queue visited' successor' queue' k r → Pulled n y p visited successor queue visited' successor' queue' k r

-- What the escapes leave: of the first `len` queued nodes, one that is still visited has no arc out of the visited ones.
pub record Escapes (n : ℕ) (Arc : Arcs) (status visited successor queue visited' successor' queue' : List ℕ) (len k : ℕ) : Type 0 where
  pub releases : Releases n (WayOut n Arc status visited) visited successor queue visited' successor' queue' 0 k
  pub no_escape : (j : ℕ) → j < len → marked visited' (get_or queue j 0) ≡ true → (p t : ℕ) → Arc (get_or queue j 0) p t → outside n status visited t ≡ false

-- No visited node is the source of an arc into x.
abbrev pub NoSource : ℕ → Arcs → List ℕ → ℕ → Type 0
NoSource n Arc visited x = (s p : ℕ) → Arc s p x → s < n → marked visited s ≡ false

-- What a rescue leaves: no node that is still visited is a source of a released one.
pub record Rescues (n : ℕ) (Arc : Arcs) (visited successor queue visited' successor' queue' : List ℕ) (len k : ℕ) : Type 0 where
  pub releases : Releases n (WayTo Arc) visited successor queue visited' successor' queue' len k
  pub no_rescue : (j : ℕ) → j < k → NoSource n Arc visited' (get_or queue' j 0)
