-- The laws of a spread: how it begins, how it goes on from one queued node to the next, and that it ends with all that is reached.
-- Assumes nothing.
use mathlib.Core.Path.{◌≡◌, refl, sym, ◌∙◌}
use mathlib.Core.Logic.{inl, inr, ⊎_elim}
use mathlib.Core.Bool.{Bool, true, false, not, false≢true}
use mathlib.Core.List.{List}
use Prim.Native.Nat.{ℕ, ◌+◌, ◌≤◌, ◌<◌}
use native.Mathlib.Omega.{arith}
use native.Mathlib.Decide.{ℕ_discrete}
use lib.ListN.{length, get_or}
use lib.Seq.{get_or-set_same}
use Rattle.gid.specs.Systems.{Arcs}
use Rattle.tables.specs.Tables.{visited_length}
use Rattle.tables.specs.Visits.{marked}
use Rattle.tables.proofs.Keeping.{kept_none}
use Rattle.tables.proofs.Marking.{has-mark, marked_mark, marked_mark_other}
use Rattle.search.specs.declared.spread.Span.{Span}
use Rattle.search.specs.Spreading.{Reached, start, back, unless, Before, unvisited, Queued, Spread}
use Rattle.search.specs.Offering.{Begun, Spreading, Offers, SourcesVisited}
use Rattle.search.proofs.Counting.{count_less}

-- One node is visited and queued.
module _ {u : ℕ} {v q v' q' : List ℕ} {r : Span} (begun : Begun u v q v' q' r) (n : ℕ) (h : u < n) (in_v : visited_length n ≤ length v) (in_q : n ≤ length q) where
  begun_first : get_or q' 0 0 ≡ u
  begun_first = rw begun.front (get_or-set_same q 0 u 0 (omega arith))

  begun_marked : marked v' u ≡ true
  begun_marked = rw begun.marks (marked_mark v u (has-mark n v u h in_v))

  begun_each : (P : ℕ → Type 0) → P u → (j : ℕ) → j < r.len → P (get_or q' j 0)
  begun_each P here j k =
      let z : j ≡ 0 = let o = begun.one in omega arith in
      rw (z, begun_first) here

  -- Also where it had been visited: it counts as visited now.
  pub begun_queued : Queued n v' q' r
  begun_queued =
      record {
        inside = begun_each (λ w. w < n) h;
        seen = begun_each (λ w. marked v' w ≡ true) begun_marked;
        within = begun_each (λ w. (r.low ≤ w) × (w ≤ r.high)) (let l = begun.least in let g = begun.greatest in (omega arith, omega arith));
        top = let g = begun.greatest in omega arith;
        room =
            let l = count_less n (λ s. not (marked v' s)) u h (rw begun_marked) in
            let o = begun.one in
            omega arith;
      }

  -- It alone is queued, and where none was visited it alone is.
  pub begun_which : (w : ℕ) → Before q' r.len w → w ≡ u
  begun_which w (j, k, e) = sym e ∙ begun_each (λ x. x ≡ u) refl j k

  pub begun_here : Before q' r.len u
  begun_here = (0, (let o = begun.one in omega arith), begun_first)

  pub begun_visited : (w : ℕ) → marked v w ≡ false → marked v' w ≡ true → w ≡ u
  begun_visited w f m = at (ℕ_discrete w u)
    where
      at : Dec (w ≡ u) → w ≡ u
      at (yes e) = e
      at (no d) = absurd (false≢true (sym f ∙ sym (marked_mark_other v u w d) ∙ rw begun.marks at m))

-- The sources of the first k queued nodes have been offered, since the marks, the queue and the span were v, q and s.
pub record Rounds (n : ℕ) (Arc : Arcs) (ok : ℕ → ℕ → Bool) (v q : List ℕ) (s : Span) (v' q' : List ℕ) (s' : Span) (k : ℕ) : Type 0 where
  pub few : k ≤ s'.len
  pub room : s'.len + unvisited n v' ≤ n
  pub visits : length v' ≡ length v
  pub queues : length q' ≡ length q
  pub closed : (j : ℕ) → j < k → SourcesVisited n Arc ok v' (get_or q' j 0)
  pub sofar : Spreading n Arc ok v q s v' q' s'

module _ {n : ℕ} {Arc : Arcs} {ok : ℕ → ℕ → Bool} {v q : List ℕ} {s : Span} where
  pub rounds_none : Queued n v q s → Rounds n Arc ok v q s v q s 0
  rounds_none o = record {
    few = omega arith;
    room = o.room;
    visits = refl;
    queues = refl;
    closed = λ j k. absurd (omega arith);
    sofar =
        record {
          begins = λ w b. b;
          only = λ j k. (start (j, k, refl), o.inside j k);
          seen = o.seen;
          within = o.within;
          listed = λ w h m. inl m;
          grows = λ w m. m;
          top = o.top;
          visits = kept_none (visited_length n) v;
          queues = kept_none n q;
        };
  }

  pub rounds_more : {v' q' v'' q'' : List ℕ} {s' s'' : Span} {k x : ℕ} → Rounds n Arc ok v q s v' q' s' k → k < s'.len → x ≡ get_or q' k 0 → Offers n Arc ok x v' q' s' v'' q'' s'' → SourcesVisited n Arc ok v'' x → Rounds n Arc ok v q s v'' q'' s'' (k + 1)
  rounds_more {q'} {v''} {q''} {s'} {k} {x} r h e o c = record {
    few = let l = o.longer in omega arith;
    room = o.room;
    visits = o.visits ∙ r.visits;
    queues = o.queues ∙ r.queues;
    closed = λ j l. at j l (ℕ_discrete j k);
    sofar = o.spreads v q s (k, h, sym e) r.sofar;
  }
    where
      at : (j : ℕ) → j < k + 1 → Dec (j ≡ k) → SourcesVisited n Arc ok v'' (get_or q'' j 0)
      at j l (yes z) = rw (z, o.older k h, sym e) c
      at j l (no d) =
          let b : j < k = omega arith in
          rw (o.older j (omega arith)) (λ y i link t p. o.grows y (r.closed j b y i link t p))

-- Where the sources of every queued node have been offered, all that is reached is queued.
module _ {n : ℕ} {Arc : Arcs} (ok : ℕ → ℕ → Bool) {v₀ q₀ v q : List ℕ} {s₀ s : Span} (sp : Spreading n Arc ok v₀ q₀ s₀ v q s) (room : s.len + unvisited n v ≤ n) (closed : (j : ℕ) → j < s.len → SourcesVisited n Arc ok v (get_or q j 0)) where
  reached_queued : {w : ℕ} → Reached n Arc (unless v₀ ok) (Before q₀ s₀.len) w → Before q s.len w
  reached_queued {w} (start b) = sp.begins w b
  reached_queued (back {v = x} {i} {s = w} r link h fresh) = at (marked v₀ w) refl (reached_queued r)
    where
      at : (t : Bool) → marked v₀ w ≡ t → Before q s.len x → Before q s.len w
      at true z b = absurd (false≢true (rw z at fresh))
      at false z b =
          let pass : ok w i ≡ true = rw z at fresh in
          let m : marked v w ≡ true = closed b.0 b.1 w i (rw b.2 link) h pass in
          ⊎_elim (λ k. absurd (false≢true (sym z ∙ k))) (λ k. k) (sp.listed w h m)

  pub spread_ends : Spread n Arc ok v₀ q₀ s₀ v q s
  spread_ends = record {
    exact = λ w h. (λ m. ⊎_elim (λ z. inl z) (λ b. inr (rw b.2 at (sp.only b.0 b.1).0)) (sp.listed w h m), ⊎_elim (λ m. sp.grows w m) (λ r. let b = reached_queued r in rw b.2 at (sp.seen b.0 b.1)));
    reached = λ w r. reached_queued r;
    only = λ j k. (sp.only j k).0;
    queued = record { inside = λ j k. (sp.only j k).1; seen = sp.seen; within = sp.within; top = sp.top; room = room };
    visits = sp.visits;
    queues = sp.queues;
  }
