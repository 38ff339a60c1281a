-- The laws of releases: one node more keeps what holds of a release so far, and parts of a release go together; so do the escapes and the rescue, walk by walk.
-- Assumes nothing.
use mathlib.Core.Path.{◌≡◌, refl, sym, ◌∙◌}
use mathlib.Core.Logic.{◌⊎◌, inl, inr, ⊎_elim}
use mathlib.Core.Bool.{Bool, true, false, not, ◌&&◌, false≢true}
use mathlib.Core.List.{List}
use Prim.Native.Nat.{ℕ, ◌+◌, ◌≤◌, ◌<◌}
use native.Mathlib.Omega.{arith}
use native.Mathlib.Decide.{ℕ_discrete, dec_lt}
use lib.ListN.{length, get_or, set}
use lib.Seq.{get_or-set_same, get_or-set_other}
use Rattle.gid.specs.Systems.{Arcs}
use Rattle.tables.specs.Tables.{visited_length}
use Rattle.tables.specs.Visits.{marked, unmark}
use Rattle.tables.proofs.Keeping.{kept_none, kept_trans, kept_set}
use Rattle.tables.proofs.Marking.{has-mark, marked_unmark, marked_unmark_other, kept_unmark}
use Rattle.std.specs.Prelude.{Some, None}
use Rattle.adjacency.specs.Walks.{Standing, Turn, Starts}
use Rattle.search.specs.Counting.{count}
use Rattle.search.specs.Spreading.{Chains, into, Before}
use Rattle.search.specs.Releasing.{hopeful, outside, WayOut, WayTo, Releases, QueuedBelow, FindsOut, none, found, Tried, stays, leaves, Pulled, passed, pulled, Escapes, NoSource, Rescues}
use Rattle.search.proofs.Counting.{count_most}
use Rattle.search.proofs.Marking.{visited_unmark}
use Rattle.search.proofs.Walking.{Walking, walk_first, walk_here, walk_next, walk_end, walk_done}

-- A test is not both, and is one of the two.
clash : {b : Bool} → b ≡ true → b ≡ false → ⊥
clash p q = false≢true (sym q ∙ p)

test : (b : Bool) → (b ≡ true) ⊎ (b ≡ false)
test true = inl refl
test false = inr refl

-- What stands among the first j stands among the first k of a queue with the same first j.
before_same : (queue queue' : List ℕ) {j : ℕ} (k : ℕ) → ((i : ℕ) → i < j → get_or queue' i 0 ≡ get_or queue i 0) → j ≤ k → {w : ℕ} → Before queue j w → Before queue' k w
before_same queue queue' k e l (i, h, q) = (i, omega arith, e i h ∙ q)

-- A way turns on the earlier part of the queue alone.
abbrev pub Early : (List ℕ → ℕ → ℕ → ℕ → Type 0) → Type 0
Early Way = (queue queue' : List ℕ) (j s p : ℕ) → ((i : ℕ) → i < j → get_or queue' i 0 ≡ get_or queue i 0) → Way queue j s p → Way queue' j s p

pub way_out_early : (n : ℕ) (Arc : Arcs) (status visited : List ℕ) → Early (WayOut n Arc status visited)
way_out_early n Arc status visited queue queue' j s p e (t, a, h, w) = (t, a, h, ⊎_elim inl (λ b. inr (before_same queue queue' j e (omega arith) b)) w)

pub way_to_early : (Arc : Arcs) → Early (WayTo Arc)
way_to_early Arc queue queue' j s p e (t, a, b) = (t, a, before_same queue queue' j e (omega arith) b)

module _ {n : ℕ} {Way : List ℕ → ℕ → ℕ → ℕ → Type 0} where
  pub releases_none : (visited successor queue : List ℕ) (len : ℕ) → len + count n (marked visited) ≤ n → Releases n Way visited successor queue visited successor queue len len
  releases_none visited successor queue len r =
      record {
        more = omega arith;
        stable = λ j h. refl;
        shrinks = λ s h. h;
        front = λ j l h. absurd (omega arith);
        listed = λ s a b. absurd (clash a b);
        ways = λ j l h. absurd (omega arith);
        others = λ s h. refl;
        room = r;
        visits = kept_none (visited_length n) visited;
        successors = kept_none n successor;
        queues = kept_none n queue;
      }

  -- Two parts, one behind the other.
  module _ (early : Early Way) {v s q v₁ s₁ q₁ v₂ s₂ q₂ : List ℕ} {len k r : ℕ} (a : Releases n Way v s q v₁ s₁ q₁ len k) (b : Releases n Way v₁ s₁ q₁ v₂ s₂ q₂ k r) where
    gone : (t : ℕ) → marked v₁ t ≡ false → marked v₂ t ≡ false
    gone t e = ⊎_elim (λ m. absurd (clash (b.shrinks t m) e)) (λ m. m) (test (marked v₂ t))

    same : (j : ℕ) → j < k → get_or q₂ j 0 ≡ get_or q₁ j 0
    same = b.stable

    front_then : (j : ℕ) → len ≤ j → j < r → Dec (j < k) → (get_or q₂ j 0 < n) × (marked v (get_or q₂ j 0) ≡ true) × (marked v₂ (get_or q₂ j 0) ≡ false)
    front_then j l h (yes d) = let f = a.front j l d in rw (same j d) (f.0, f.1, gone (get_or q₁ j 0) f.2)
    front_then j l h (no d) = let f = b.front j (omega arith) h in (f.0, a.shrinks (get_or q₂ j 0) f.1, f.2)

    ways_then : (j : ℕ) → len ≤ j → j < r → Dec (j < k) → Way q₂ j (get_or q₂ j 0) (get_or s₂ (get_or q₂ j 0) 0)
    ways_then j l h (yes d) =
        let f = a.front j l d in
        rw (same j d, b.others (get_or q₁ j 0) (inl f.2)) (early q₁ q₂ j (get_or q₁ j 0) (get_or s₁ (get_or q₁ j 0) 0) (λ i e. same i (omega arith)) (a.ways j l d))
    ways_then j l h (no d) = b.ways j (omega arith) h

    listed_then : (t : ℕ) → marked v t ≡ true → marked v₂ t ≡ false → Before q₂ r t
    listed_then t m f = ⊎_elim (λ e. b.listed t e f) (λ e. before_same q₁ q₂ r same b.more (a.listed t m e)) (test (marked v₁ t))

    others_then : (t : ℕ) → (marked v t ≡ false) ⊎ (marked v₂ t ≡ true) → get_or s₂ t 0 ≡ get_or s t 0
    others_then t (inl f) = b.others t (inl (⊎_elim (λ m. absurd (clash (a.shrinks t m) f)) (λ m. m) (test (marked v₁ t)))) ∙ a.others t (inl f)
    others_then t (inr m) = b.others t (inr m) ∙ a.others t (inr (b.shrinks t m))

    pub releases_then : Releases n Way v s q v₂ s₂ q₂ len r
    releases_then =
        record {
          more = omega (arith, a.more, b.more);
          stable = λ j h. same j (omega (arith, a.more)) ∙ a.stable j h;
          shrinks = λ t m. a.shrinks t (b.shrinks t m);
          front = λ j l h. front_then j l h (dec_lt j k);
          listed = listed_then;
          ways = λ j l h. ways_then j l h (dec_lt j k);
          others = others_then;
          room = b.room;
          visits = kept_trans a.visits b.visits;
          successors = kept_trans a.successors b.successors;
          queues = kept_trans a.queues b.queues;
        }

-- One node, x, by the arc p.
module _ (n : ℕ) (visited successor queue : List ℕ) (k : ℕ) (room : k + count n (marked visited) ≤ n) (x p : ℕ) (range : x < n) (is : marked visited x ≡ true) (in_visited : visited_length n ≤ length visited) (in_successor : n ≤ length successor) (in_queue : n ≤ length queue) where
  -- While a node is marked, the queue has room.
  pub room_left : k < n
  room_left = omega (arith, visited_unmark visited x n range in_visited is)

  earlier : (j : ℕ) → j < k → get_or (set queue k x) j 0 ≡ get_or queue j 0
  earlier j h = get_or-set_other queue k j x 0 (λ e. absurd (omega arith))

  newest : get_or (set queue k x) k 0 ≡ x
  newest = get_or-set_same queue k x 0 (omega (arith, room_left))

  unmarked : marked (unmark visited x) x ≡ false
  unmarked = marked_unmark visited x (has-mark n visited x range in_visited)

  -- a node that is still marked is another one, and was marked
  pub still : (s : ℕ) → marked (unmark visited x) s ≡ true → (s ≡ x → ⊥) × (marked visited s ≡ true)
  still s e = (apart, sym (marked_unmark_other visited x s apart) ∙ e)
    where
      apart : s ≡ x → ⊥
      apart z = clash (rw z at e) unmarked

  pub releases_one : (Way : List ℕ → ℕ → ℕ → ℕ → Type 0) → Early Way → Way queue k x p → Releases n Way visited successor queue (unmark visited x) (set successor x p) (set queue k x) k (k + 1)
  releases_one Way early way =
      record {
        more = omega arith;
        stable = earlier;
        shrinks = λ s e. (still s e).1;
        front = λ j l h. let z : j ≡ k = omega arith in rw (z, newest) (range, is, unmarked);
        listed = λ s a b. listed s a b (ℕ_discrete s x);
        ways = λ j l h. let z : j ≡ k = omega arith in rw (z, newest, get_or-set_same successor x p 0 (omega arith)) (early queue (set queue k x) k x p earlier way);
        others = others;
        room = omega (arith, visited_unmark visited x n range in_visited is);
        visits = kept_unmark visited x n range;
        successors = kept_set n successor x p range;
        queues = kept_set n queue k x room_left;
      }
    where
      listed : (s : ℕ) → marked visited s ≡ true → marked (unmark visited x) s ≡ false → Dec (s ≡ x) → Before (set queue k x) (k + 1) s
      listed s a b (yes e) = (k, omega arith, newest ∙ sym e)
      listed s a b (no d) = absurd (clash a (sym (marked_unmark_other visited x s d) ∙ b))

      others : (s : ℕ) → (marked visited s ≡ false) ⊎ (marked (unmark visited x) s ≡ true) → get_or (set successor x p) s 0 ≡ get_or successor s 0
      others s (inl a) = get_or-set_other successor x s p 0 (λ e. clash is (rw e at a))
      others s (inr b) = get_or-set_other successor x s p 0 (still s b).0

-- The target of an arc that leads out is open or unknown, and not marked.
outside_is : (n : ℕ) (status visited : List ℕ) (t : ℕ) → outside n status visited t ≡ true → (hopeful n status t ≡ true) × (marked visited t ≡ false)
outside_is n status visited t e = at (hopeful n status t) (marked visited t) e
  where
    at : (h m : Bool) → (h && not m) ≡ true → (h ≡ true) × (m ≡ false)
    at true false q = (refl, refl)
    at true true q = absurd (clash refl (sym q))
    at false m q = absurd (clash q refl)

-- An arc that does not lead out of the marked nodes did not when more were marked.
outside_less : (n : ℕ) (status visited visited₀ : List ℕ) (t : ℕ) → ((s : ℕ) → marked visited s ≡ true → marked visited₀ s ≡ true) → outside n status visited t ≡ false → outside n status visited₀ t ≡ false
outside_less n status visited visited₀ t f e = at (hopeful n status t) (marked visited t) (marked visited₀ t) (f t) e
  where
    at : (h a b : Bool) → (a ≡ true → b ≡ true) → (h && not a) ≡ false → (h && not b) ≡ false
    at false a b g q = refl
    at true true b g q = rw (g refl)
    at true false b g q = absurd (clash refl q)

-- What a search for a way out answers.
module _ {n : ℕ} {Arc : Arcs} {status visited : List ℕ} {x : ℕ} where
  pub no_way : FindsOut n Arc status visited x None → (p t : ℕ) → Arc x p t → outside n status visited t ≡ false
  no_way (none e f) = f
  no_way (found p t e l o) = cc

  pub a_way : {p : ℕ} → FindsOut n Arc status visited x (Some p) → (t : ℕ) × Arc x p t × (outside n status visited t ≡ true)
  a_way (none e f) = cc
  a_way {p} (found q t e l o) = let z : p ≡ q = cc in rw z (t, l, o)

-- The escapes over the first `at` of the queue: the released nodes stand before `at`, and the queue is as it was from there on.
pub record Trying (n : ℕ) (Arc : Arcs) (status visited₀ successor₀ queue₀ visited successor queue : List ℕ) (at k : ℕ) : Type 0 where
  pub sofar : Escapes n Arc status visited₀ successor₀ queue₀ visited successor queue at k
  pub behind : k ≤ at
  pub rest : (j : ℕ) → at ≤ j → get_or queue j 0 ≡ get_or queue₀ j 0

pub trying_none : {n : ℕ} {Arc : Arcs} {status visited successor queue : List ℕ} → Trying n Arc status visited successor queue visited successor queue 0 0
trying_none {n} {visited = visited} {successor} {queue} =
    record {
      sofar = record { releases = releases_none visited successor queue 0 (omega (arith, count_most n (marked visited))); no_escape = λ j h. absurd (omega arith) };
      behind = omega arith;
      rest = λ j h. refl;
    }

module _ {n : ℕ} {Arc : Arcs} {status visited₀ successor₀ queue₀ visited successor queue : List ℕ} {at k : ℕ} (trying : Trying n Arc status visited₀ successor₀ queue₀ visited successor queue at k) (in_visited : visited_length n ≤ length visited₀) (in_successor : n ≤ length successor₀) (in_queue : n ≤ length queue₀) where
  done : Releases n (WayOut n Arc status visited₀) visited₀ successor₀ queue₀ visited successor queue 0 k
  done = trying.sofar.releases

  -- one queued node more
  module _ (x : ℕ) (here : get_or queue at 0 ≡ x) (range : x < n) where
    at_first : (j : ℕ) → j ≡ at → get_or queue₀ j 0 ≡ x
    at_first j e = rw e (sym (trying.rest at (omega arith)) ∙ here)

    way : (p t : ℕ) → Arc x p t → outside n status visited t ≡ true → WayOut n Arc status visited₀ queue k x p
    way p t l e =
        let (h, f) = outside_is n status visited t e in
        (t, l, h, ⊎_elim (λ m. inr (done.listed t m f)) (λ m. inl m) (test (marked visited₀ t)))

    pub trying_more : {visited' successor' queue' : List ℕ} {r : ℕ} → Tried n Arc status x visited successor queue visited' successor' queue' k r → Trying n Arc status visited₀ successor₀ queue₀ visited' successor' queue' (at + 1) r
    trying_more (stays f u) =
        rw (u.visits, u.successors, u.queues, u.number) (record {
          sofar = record { releases = done; no_escape = λ j h g p t l. by j h g p t l (ℕ_discrete j at) };
          behind = omega (arith, trying.behind);
          rest = λ j h. trying.rest j (omega arith);
        })
      where
        by : (j : ℕ) → j < at + 1 → marked visited (get_or queue₀ j 0) ≡ true → (p t : ℕ) → Arc (get_or queue₀ j 0) p t → Dec (j ≡ at) → outside n status visited₀ t ≡ false
        by j h g p t l (yes e) = outside_less n status visited visited₀ t done.shrinks (f (rw (at_first j e) at g) p t (rw (at_first j e) at l))
        by j h g p t l (no d) = trying.sofar.no_escape j (omega arith) g p t l
    trying_more (leaves p t is l e w) =
        let early = way_out_early n Arc status visited₀ in
        let one = releases_one n visited successor queue k done.room x p range is (omega (arith, done.visits.size)) (omega (arith, done.successors.size)) (omega (arith, done.queues.size)) (WayOut n Arc status visited₀) early (way p t l e) in
        rw (w.visits, w.successors, w.queues, w.number) (record {
          sofar = record { releases = releases_then early done one; no_escape = λ j h g p t l. by j h g p t l (ℕ_discrete j at) };
          behind = omega (arith, trying.behind);
          rest = λ j h. get_or-set_other queue k j x 0 (λ z. absurd (omega (arith, trying.behind))) ∙ trying.rest j (omega arith);
        })
      where
        by : (j : ℕ) → j < at + 1 → marked (unmark visited x) (get_or queue₀ j 0) ≡ true → (p t : ℕ) → Arc (get_or queue₀ j 0) p t → Dec (j ≡ at) → outside n status visited₀ t ≡ false
        by j h g p t l d =
            let q = still n visited successor queue k done.room x 0 range is (omega (arith, done.visits.size)) (omega (arith, done.successors.size)) (omega (arith, done.queues.size)) (get_or queue₀ j 0) g in
            other d q.0 q.1
          where
            other : Dec (j ≡ at) → (get_or queue₀ j 0 ≡ x → ⊥) → marked visited (get_or queue₀ j 0) ≡ true → outside n status visited₀ t ≡ false
            other (yes e) a m = absurd (a (at_first j e))
            other (no d) a m = trying.sofar.no_escape j (omega arith) m p t l

-- The rescue of the sources of x, by a walk over them: each source that it passed is not visited.
pub record Pulling (c : Chains) (x : ℕ) (visited₀ successor₀ queue₀ visited successor queue : List ℕ) (len k : ℕ) (w : Standing) : Type 0 where
  pub part : Releases c.n (WayTo (into c)) visited₀ successor₀ queue₀ visited successor queue len k
  pub walk : Walking c.head c.next c.m x (λ i. get_or c.ends i 0 < c.n → marked visited (get_or c.ends i 0) ≡ false) w

module _ {c : Chains} {x : ℕ} {visited₀ successor₀ queue₀ : List ℕ} {len : ℕ} where
  pub pulling_first : {w : Standing} → len + count c.n (marked visited₀) ≤ c.n → Starts c.head c.next c.m x w → Pulling c x visited₀ successor₀ queue₀ visited₀ successor₀ queue₀ len len w
  pulling_first r e = record { part = releases_none visited₀ successor₀ queue₀ len r; walk = walk_first e }

  module _ {visited successor queue : List ℕ} {k : ℕ} {w : Standing} (pulling : Pulling c x visited₀ successor₀ queue₀ visited successor queue len k w) where
    pub pulling_end : {w' : Standing} → Turn w None w' → NoSource c.n (into c) visited x
    pulling_end turn s p a b = rw a.1 at (walk_end pulling.walk turn p a.0 (rw a.1 b))

    module _ (before : Before queue₀ len x) (in_visited : visited_length c.n ≤ length visited₀) (in_successor : c.n ≤ length successor₀) (in_queue : c.n ≤ length queue₀) (p : ℕ) {w' : Standing} (turn : Turn w (Some p) w') where
      pub pulling_more : {r : ℕ} {visited' successor' queue' : List ℕ} → Pulled c.n (get_or c.ends p 0) p visited successor queue visited' successor' queue' k r → Pulling c x visited₀ successor₀ queue₀ visited' successor' queue' len r w'
      pulling_more (passed f u) =
          rw (u.visits, u.successors, u.queues, u.number) (record { part = pulling.part; walk = walk_next pulling.walk p turn f })
      pulling_more (pulled h is t) =
          let y = get_or c.ends p 0 in
          let o = pulling.part in
          let early = way_to_early (into c) in
          let one = releases_one c.n visited successor queue k o.room y p h is (omega (arith, o.visits.size)) (omega (arith, o.successors.size)) (omega (arith, o.queues.size)) (WayTo (into c)) early (x, (walk_here pulling.walk p turn, refl), (before.0, omega (arith, o.more, before.1), o.stable before.0 before.1 ∙ before.2)) in
          rw (t.visits, t.successors, t.queues, t.number) (record {
            part = releases_then early o one;
            walk = walk_next (walk_done pulling.walk (λ i d l. gone early o one (get_or c.ends i 0) (d l))) p turn (λ l. marked_unmark visited y (has-mark c.n visited y h (omega (arith, o.visits.size))));
          })

-- The rescue over the first `at` of the queue.
pub record Saving (n : ℕ) (Arc : Arcs) (visited₀ successor₀ queue₀ visited successor queue : List ℕ) (len k at : ℕ) : Type 0 where
  pub part : Releases n (WayTo Arc) visited₀ successor₀ queue₀ visited successor queue len k
  pub below : QueuedBelow n queue k
  pub no_rescue : (j : ℕ) → j < at → NoSource n Arc visited (get_or queue j 0)
  pub within : at ≤ k

module _ {n : ℕ} {Arc : Arcs} {visited₀ successor₀ queue₀ : List ℕ} {len : ℕ} where
  pub saving_none : len + count n (marked visited₀) ≤ n → QueuedBelow n queue₀ len → Saving n Arc visited₀ successor₀ queue₀ visited₀ successor₀ queue₀ len len 0
  saving_none r b = record { part = releases_none visited₀ successor₀ queue₀ len r; below = b; no_rescue = λ j h. absurd (omega arith); within = omega arith }

  module _ {visited successor queue : List ℕ} {k at : ℕ} (saving : Saving n Arc visited₀ successor₀ queue₀ visited successor queue len k at) where
    pub saving_more : {x r : ℕ} {visited' successor' queue' : List ℕ} → at < k → get_or queue at 0 ≡ x → Releases n (WayTo Arc) visited successor queue visited' successor' queue' k r → NoSource n Arc visited' x → Saving n Arc visited₀ successor₀ queue₀ visited' successor' queue' len r (at + 1)
    saving_more {x} {r} {visited' = visited'} {queue' = queue'} h e part unpulled =
        record { part = releases_then early saving.part part; below = λ j l. inside j l (dec_lt j k); no_rescue = λ j l. by j l (ℕ_discrete j at); within = omega (arith, part.more) }
      where
        early : Early (WayTo Arc)
        early = way_to_early Arc

        inside : (j : ℕ) → j < r → Dec (j < k) → get_or queue' j 0 < n
        inside j l (yes d) = rw (part.stable j d) (saving.below j d)
        inside j l (no d) = (part.front j (omega arith) l).0

        by : (j : ℕ) → j < at + 1 → Dec (j ≡ at) → NoSource n Arc visited' (get_or queue' j 0)
        by j l (yes q) = let z : get_or queue' j 0 ≡ x = part.stable j (omega arith) ∙ rw q e in rw z unpulled
        by j l (no d) = rw (part.stable j (omega arith)) (λ s p m b. gone early saving.part part s (saving.no_rescue j (omega arith) s p m b))

    pub saving_end : k ≤ at → Rescues n Arc visited₀ successor₀ queue₀ visited successor queue len k
    saving_end h = record { releases = saving.part; no_rescue = λ j l. saving.no_rescue j (omega arith) }
