-- The laws of offers: what an offer marks and queues, how a spread goes on, and that a walk offers each source.
-- Assumes nothing.
use mathlib.Core.Path.{◌≡◌, refl, sym, ◌∙◌}
use mathlib.Core.Logic.{◌⊎◌, inl, inr, ⊎_elim}
use mathlib.Core.Bool.{Bool, true, false, not, ◌&&◌, false≢true}
use mathlib.Core.List.{List}
use Prim.Native.Nat.{ℕ, ◌+◌, ◌≤◌, ◌<◌}
use native.Mathlib.Omega.{arith}
use native.Mathlib.Decide.{ℕ_discrete}
use lib.ListN.{length, get_or, length-set}
use lib.Seq.{get_or-set_same, get_or-set_other}
use Rattle.gid.specs.Systems.{Arcs}
use Rattle.tables.specs.Tables.{visited_length}
use Rattle.tables.specs.Visits.{marked}
use Rattle.tables.proofs.Keeping.{kept_trans, kept_set}
use Rattle.tables.proofs.Marking.{has-mark, marked_mark, marked_mark_other, mark_grows, kept_mark}
use Rattle.std.specs.Prelude.{Some, None}
use Rattle.adjacency.specs.Walks.{Standing, Turn, Starts}
use Rattle.search.specs.declared.spread.Span.{Span}
use Rattle.search.specs.Spreading.{Chains, into, Reached, back, unless, Before, unvisited, Queued}
use Rattle.search.specs.Offering.{Admitted, Offered, passed, taken, Spreading, Offers, SourceVisited, SourcesVisited}
use Rattle.search.proofs.Walking.{Walking, walk_first, walk_here, walk_next, walk_end, walk_done}
use Rattle.search.proofs.Marking.{unvisited_mark}

-- One node y is admitted.
module _ (n y : ℕ) {v q v' q' : List ℕ} {s s' : Span} (room : s.len + unvisited n v ≤ n) (in_v : visited_length n ≤ length v) (in_q : n ≤ length q) (h : y < n) (new : marked v y ≡ false) (adm : Admitted y v q s v' q' s') where
  less : unvisited n v ≡ unvisited n v' + 1
  less = rw adm.marks (unvisited_mark v y n h in_v new)

  at-end : get_or q' s.len 0 ≡ y
  at-end = rw adm.last (get_or-set_same q s.len y 0 (let l = less in omega arith))

  keeps : (j : ℕ) → j < s.len → get_or q' j 0 ≡ get_or q j 0
  keeps j k = rw adm.last (get_or-set_other q s.len j y 0 (λ e. absurd (omega arith)))

  admits : marked v' y ≡ true
  admits = rw adm.marks (marked_mark v y (has-mark n v y h in_v))

  others : (r : ℕ) → (r ≡ y → ⊥) → marked v' r ≡ marked v r
  others r d = rw adm.marks (marked_mark_other v y r d)

  grown : (r : ℕ) → marked v r ≡ true → marked v' r ≡ true
  grown r m = rw adm.marks (mark_grows v y r (has-mark n v y h in_v) m)

  still : (w : ℕ) → Before q s.len w → Before q' s'.len w
  still w b = let e = adm.more in (b.0, omega arith, keeps b.0 b.1 ∙ b.2)

  -- what holds of the queued nodes and of the new one holds of each in the longer queue
  each : (P : ℕ → Type 0) → ((j : ℕ) → j < s.len → P (get_or q j 0)) → P y → (j : ℕ) → j < s'.len → P (get_or q' j 0)
  each P old here j k = at (ℕ_discrete j s.len)
    where
      at : Dec (j ≡ s.len) → P (get_or q' j 0)
      at (yes e) = rw (e, at-end) here
      at (no d) =
          let l : j < s.len = let m = adm.more in omega arith in
          rw (keeps j l) (old j l)

  -- Queued nodes with one more.
  pub queued_more : Queued n v q s → Queued n v' q' s'
  queued_more o =
      record {
        inside = each (λ w. w < n) o.inside h;
        seen = each (λ w. marked v' w ≡ true) (λ j k. grown (get_or q j 0) (o.seen j k)) admits;
        within = each (λ w. (s'.low ≤ w) × (w ≤ s'.high)) (λ j k. let w = o.within j k in let l = adm.low in let g = adm.high in (omega arith, omega arith)) (adm.low.1, adm.high.1);
        top = adm.top n o.top h;
        room = let l = less in let m = adm.more in omega arith;
      }

  -- which ones they are, and which are visited
  pub queued_which : (w : ℕ) → Before q' s'.len w → Before q s.len w ⊎ (w ≡ y)
  queued_which w (j, k, e) = at (ℕ_discrete j s.len)
    where
      at : Dec (j ≡ s.len) → Before q s.len w ⊎ (w ≡ y)
      at (yes z) = inr (sym e ∙ rw z at-end)
      at (no d) = let l : j < s.len = let m = adm.more in omega arith in inl (j, l, sym (keeps j l) ∙ e)

  pub queued_still : (w : ℕ) → Before q s.len w → Before q' s'.len w
  queued_still = still

  pub queued_here : Before q' s'.len y
  queued_here = (s.len, (let m = adm.more in omega arith), at-end)

  module _ (Arc : Arcs) (ok : ℕ → ℕ → Bool) (i : ℕ) (pass : ok y i ≡ true) where
    -- A spread that queued x, into which the arc leads, goes on.
    spreads_on : (x : ℕ) (v₀ q₀ : List ℕ) (s₀ : Span) → Before q s.len x → Arc y i x → Spreading n Arc ok v₀ q₀ s₀ v q s → Spreading n Arc ok v₀ q₀ s₀ v' q' s'
    spreads_on x v₀ q₀ s₀ b link sp = record {
      begins = λ w z. still w (sp.begins w z);
      only = each (λ w. Reached n Arc (unless v₀ ok) (Before q₀ s₀.len) w × (w < n)) sp.only (back (rw b.2 at (sp.only b.0 b.1).0) link h (was_new (marked v₀ y) refl), h);
      seen = each (λ w. marked v' w ≡ true) (λ j k. grown (get_or q j 0) (sp.seen j k)) admits;
      within = each (λ w. (s'.low ≤ w) × (w ≤ s'.high)) (λ j k. let w = sp.within j k in let l = adm.low in let g = adm.high in (omega arith, omega arith)) (adm.low.1, adm.high.1);
      listed = λ r k m. found r k m (ℕ_discrete r y);
      grows = λ r m. grown r (sp.grows r m);
      top = adm.top n sp.top h;
      visits = kept_trans sp.visits (rw adm.marks (kept_mark v y n h));
      queues = kept_trans sp.queues (rw adm.last (kept_set n q s.len y (let l = less in omega arith)));
    }
      where
        was_new : (t : Bool) → marked v₀ y ≡ t → (not t && ok y i) ≡ true
        was_new true e = absurd (false≢true (sym new ∙ sp.grows y e))
        was_new false e = pass

        found : (r : ℕ) → r < n → marked v' r ≡ true → Dec (r ≡ y) → (marked v₀ r ≡ true) ⊎ Before q' s'.len r
        found r k m (yes e) = inr (s.len, (let l = adm.more in omega arith), at-end ∙ sym e)
        found r k m (no d) = ⊎_elim (λ z. inl z) (λ z. inr (still r z)) (sp.listed r k (sym (others r d) ∙ m))

module _ (n y : ℕ) {ok : Bool} {v q v' q' : List ℕ} {s s' : Span} (room : s.len + unvisited n v ≤ n) (in_v : visited_length n ≤ length v) (in_q : n ≤ length q) where
  offered_grows : Offered n ok y v q s v' q' s' → (r : ℕ) → marked v r ≡ true → marked v' r ≡ true
  offered_grows (passed f e _ _) r m = rw e m
  offered_grows (taken h pass new adm) r m = grown n y room in_v in_q h new adm r m

  offered_visited : Offered n ok y v q s v' q' s' → y < n → ok ≡ true → marked v' y ≡ true
  offered_visited (passed f e _ _) h k = rw e (f h k)
  offered_visited (taken h pass new adm) _ _ = admits n y room in_v in_q h new adm

module _ {n : ℕ} {Arc : Arcs} {ok : ℕ → ℕ → Bool} {x : ℕ} {v q : List ℕ} {s : Span} where
  pub offers_none : s.len + unvisited n v ≤ n → Offers n Arc ok x v q s v q s
  offers_none room = record {
    grows = λ r m. m;
    longer = omega arith;
    older = λ j k. refl;
    room = room;
    visits = refl;
    queues = refl;
    spreads = λ v₀ q₀ s₀ b sp. sp;
  }

  pub offers_more : {v' q' v'' q'' : List ℕ} {s' s'' : Span} (y i : ℕ) → Offers n Arc ok x v q s v' q' s' → Arc y i x → visited_length n ≤ length v → n ≤ length q → Offered n (ok y i) y v' q' s' v'' q'' s'' → Offers n Arc ok x v q s v'' q'' s''
  offers_more y i o link in_v in_q (passed f ev eq es) = rw (ev, eq, es) o
  offers_more {v'} {q'} {v''} {q''} {s'} {s''} y i o link in_v in_q (taken h pass new adm) = record {
    grows = λ r m. grown n y o.room in_v' in_q' h new adm r (o.grows r m);
    longer = let l = o.longer in let m = adm.more in omega arith;
    older = λ j k. let l = o.longer in keeps n y o.room in_v' in_q' h new adm j (omega arith) ∙ o.older j k;
    room = let l = less n y o.room in_v' in_q' h new adm in let m = adm.more in let r = o.room in omega arith;
    visits = rw adm.marks ((kept_mark v' y n h).size ∙ o.visits);
    queues = rw (adm.last, length-set q' s'.len y) o.queues;
    spreads = λ v₀ q₀ s₀ b sp. spreads_on n y o.room in_v' in_q' h new adm Arc ok i pass x v₀ q₀ s₀ (b.0, (let l = o.longer in let k = b.1 in omega arith), o.older b.0 b.1 ∙ b.2) link (o.spreads v₀ q₀ s₀ b sp);
  }
    where
      in_v' : visited_length n ≤ length v'
      in_v' = let e = o.visits in omega arith

      in_q' : n ≤ length q'
      in_q' = let e = o.queues in omega arith

-- A walk over the steps into x: the source of each step passed has been offered.
pub record OfferWalk (c : Chains) (ok : ℕ → ℕ → Bool) (x : ℕ) (v q : List ℕ) (s : Span) (v' q' : List ℕ) (s' : Span) (w : Standing) : Type 0 where
  pub offers : Offers c.n (into c) ok x v q s v' q' s'
  pub walk : Walking c.head c.next c.m x (λ i. SourceVisited c.n ok v' (get_or c.ends i 0) i) w

module _ {c : Chains} {ok : ℕ → ℕ → Bool} {x : ℕ} {v q : List ℕ} {s : Span} where
  pub offer_first : {w : Standing} → s.len + unvisited c.n v ≤ c.n → Starts c.head c.next c.m x w → OfferWalk c ok x v q s v q s w
  offer_first room e = record { offers = offers_none room; walk = walk_first e }

  pub offer_next : {v' q' v'' q'' : List ℕ} {s' s'' : Span} {w w' : Standing} (p : ℕ) → OfferWalk c ok x v q s v' q' s' w → Turn w (Some p) w' → visited_length c.n ≤ length v → c.n ≤ length q → Offered c.n (ok (get_or c.ends p 0) p) (get_or c.ends p 0) v' q' s' v'' q'' s'' → OfferWalk c ok x v q s v'' q'' s'' w'
  offer_next {v'} {q'} p o turn in_v in_q d =
      record {
        offers = offers_more (get_or c.ends p 0) p o.offers (walk_here o.walk p turn, refl) in_v in_q d;
        walk =
            walk_next (walk_done o.walk (λ i z k t. offered_grows c.n (get_or c.ends p 0) o.offers.room in_v' in_q' d (get_or c.ends i 0) (z k t))) p turn
            (offered_visited c.n (get_or c.ends p 0) o.offers.room in_v' in_q' d);
      }
    where
      in_v' : visited_length c.n ≤ length v'
      in_v' = let e = o.offers.visits in omega arith

      in_q' : c.n ≤ length q'
      in_q' = let e = o.offers.queues in omega arith

  pub offer_last : {v' q' : List ℕ} {s' : Span} {w w' : Standing} → OfferWalk c ok x v q s v' q' s' w → Turn w None w' → SourcesVisited c.n (into c) ok v' x
  offer_last o turn r i a = rw a.1 at (walk_end o.walk turn i a.0)
