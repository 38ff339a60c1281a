-- What the sweep leaves is what the system makes dead: where every unknown node but the starts has successors that lead to an open node or to a start, the unknown nodes that a sweep leaves visited are the dead ones, and the successors of all others lead to an open node.
-- Assumes nothing.
use mathlib.Core.Path.{◌≡◌, refl, sym, ◌∙◌}
use mathlib.Core.Logic.{◌↔◌, ◌⊎◌, inl, inr, ⊎_elim}
use mathlib.Core.Bool.{Bool, true, false, not, ◌&&◌, ◌||◌, true≢false, false≢true}
use mathlib.Core.List.{List}
use Prim.Native.Nat.{ℕ, zero, suc, ◌<◌, ◌≤◌}
use native.Mathlib.Omega.{arith}
use native.Mathlib.Decide.{ℕ_discrete, dec_lt}
use lib.Dec.{eqb, ltb}
use lib.ListN.{length, get_or, set}
use lib.Seq.{get_or-set_same, get_or-set_other}
use borrow.Author.Tests.{eqb-true, eq-eqb, ltb-true, lt-ltb}
use Rattle.gid.specs.Statuses.{status_open, status_unknown, status_dead}
use Rattle.gid.specs.Successors.{Chain, ends, follows, Having}
use Rattle.gid.specs.Systems.{Arcs, System, DeadIn, here}
use Rattle.gid.proofs.Systems.{dead_greatest, dead_final, dead_target}
use Rattle.tables.specs.Visits.{marked}
use Rattle.search.specs.declared.spread.Span.{Span}
use Rattle.search.specs.Spreading.{Tree, allowed, Reached, start, back, unless, Before, Queued}
use Rattle.search.specs.Releasing.{hopeful}
use Rattle.search.specs.Escaping.{Near}
use Rattle.search.specs.Searches.{SearchTables, Sweeps}

-- From s, arcs by successors lead through unknown nodes to an open one.
abbrev pub Chained : System → ℕ → List ℕ → List ℕ → ℕ → Type 0
Chained S n status successor s =
    (k : ℕ) × Chain (Having n (λ r. get_or status r 0) status_unknown) (Having n (λ r. get_or status r 0) status_open) (λ r t. S.Arc r (get_or successor r 0) t) s k

-- What a search for the dead starts from: the arcs of a system over n nodes, what the statuses say of them, and the starts.
pub record Endangers (S : System) (n : ℕ) (Start : ℕ → Type 0) (status successor : List ℕ) : Type 0 where
  pub inside : (s i t : ℕ) → S.Arc s i t → (s < n) × (t < n)
  -- An unknown node is final and no goal, an open one is not final, one that has the status dead is so.
  pub unknown : (s : ℕ) → s < n → get_or status s 0 ≡ status_unknown → S.Final s × (S.Goal s → ⊥)
  pub opened : (s : ℕ) → s < n → get_or status s 0 ≡ status_open → S.Final s → ⊥
  pub dead : (s : ℕ) → s < n → get_or status s 0 ≡ status_dead → DeadIn S s
  -- An arc of an unknown node leads to one of these three.
  pub targets : (s i t : ℕ) → S.Arc s i t → get_or status s 0 ≡ status_unknown → (get_or status t 0 ≡ status_open) ⊎ ((get_or status t 0 ≡ status_unknown) ⊎ (get_or status t 0 ≡ status_dead))
  -- The starts are unknown, and every other unknown node has successors that lead to an open node or to a start.
  pub starting : (s : ℕ) → Start s → Having n (λ r. get_or status r 0) status_unknown s
  pub chained : (s : ℕ) → Having n (λ r. get_or status r 0) status_unknown s → (Start s → ⊥) →
      (k : ℕ) × Chain (λ r. Having n (λ v. get_or status v 0) status_unknown r × (Start r → ⊥)) (λ r. Having n (λ v. get_or status v 0) status_open r ⊎ Start r) (λ r t. S.Arc r (get_or successor r 0) t) s k

-- The same with the starts said in another way.
pub same_starts : (S : System) {n : ℕ} {Start : ℕ → Type 0} (Start' : ℕ → Type 0) {status successor : List ℕ} → ((s : ℕ) → Start s → Start' s) → ((s : ℕ) → Start' s → Start s) → Endangers S n Start status successor → Endangers S n Start' status successor
same_starts S {n} {Start} Start' {status} {successor} f g e =
    record {
      inside = e.inside;
      unknown = e.unknown;
      opened = e.opened;
      dead = e.dead;
      targets = e.targets;
      starting = λ s z. e.starting s (g s z);
      chained = λ s u z. let c = e.chained s u (λ y. z (f s y)) in (c.0, go c.1);
    }
  where
    go : {s k : ℕ} → Chain (λ r. Having n (λ v. get_or status v 0) status_unknown r × (Start r → ⊥)) (λ r. Having n (λ v. get_or status v 0) status_open r ⊎ Start r) (λ r t. S.Arc r (get_or successor r 0) t) s k → Chain (λ r. Having n (λ v. get_or status v 0) status_unknown r × (Start' r → ⊥)) (λ r. Having n (λ v. get_or status v 0) status_open r ⊎ Start' r) (λ r t. S.Arc r (get_or successor r 0) t) s k
    go (ends {s = s} o) = ends (⊎_elim inl (λ z. inr (f s z)) o)
    go (follows {s = s} {t = t} u c d) = follows {t = t} (u.0, λ z. u.1 (g s z)) c (go d)

-- a node whose chain ends in an open one is not dead
pub chained_undead : (S : System) (n : ℕ) (status successor : List ℕ) → ((s : ℕ) → s < n → get_or status s 0 ≡ status_open → S.Final s → ⊥) → {s : ℕ} → Chained S n status successor s → DeadIn S s → ⊥
chained_undead S n status successor o (k, c) d = go c d
  where
    go : {s k : ℕ} → Chain (Having n (λ r. get_or status r 0) status_unknown) (Having n (λ r. get_or status r 0) status_open) (λ r t. S.Arc r (get_or successor r 0) t) s k → DeadIn S s → ⊥
    go (ends {s = s} h) d = o s h.0 h.1 (dead_final S d)
    go (follows {s = s} u a c) d = go c (dead_target S {p = get_or successor s 0} a d)

-- a test that does not pass fails
fails : (b : Bool) → (b ≡ true → ⊥) → b ≡ false
fails true n = absurd (n refl)
fails false n = refl

-- The sweep: w, from the tables b to the tables a.
module _ (S : System) {n : ℕ} {Into Out : Arcs} {starts : Span} {b a : SearchTables} {k : ℕ} (e : Endangers S n (Before b.queue starts.len) b.status b.successor) (into : (s i t : ℕ) → t < n → Into s i t ↔ S.Arc s i t) (out : (s i t : ℕ) → s < n → Out s i t ↔ S.Arc s i t)
    (queued : Queued n b.visited b.queue starts) (marks : (s : ℕ) → s < n → marked b.visited s ≡ true → Before b.queue starts.len s) (w : Sweeps n Into Out starts b a k) where
  abbrev stands : ℕ → ℕ
  stands s = get_or b.status s 0

  abbrev visits : ℕ → Bool
  visits s = marked w.visits s

  -- what stays visited
  abbrev pub dies : ℕ → Bool
  dies s = marked w.visits₂ s

  abbrev Visited : ℕ → Type 0
  Visited s = Reached n Into (unless b.visited (allowed Tree b.status b.successor)) (Before b.queue starts.len) s

  is_visited : (s : ℕ) → s < n → visits s ≡ true → Visited s
  is_visited s h m = ⊎_elim (λ o. start (marks s h o)) (λ r. r) ((w.spread.exact s h).0 m)

  visits_is : (s : ℕ) → s < n → Visited s → visits s ≡ true
  visits_is s h r = (w.spread.exact s h).1 (inr r)

  start_visits : (s : ℕ) → Before b.queue starts.len s → visits s ≡ true
  start_visits s z = visits_is s (e.starting s z).0 (start z)

  -- A visited node is unknown.
  visited_unknown : {s : ℕ} → Visited s → stands s ≡ status_unknown
  visited_unknown {s} (start z) = (e.starting s z).1
  visited_unknown {s} (back {i = i} r c h o) = eqb-true (stands s) status_unknown (middle (not (marked b.visited s)) (eqb (stands s) status_unknown) (eqb (get_or b.successor s 0) i) o)
    where
      middle : (x y z : Bool) → x && (y && z) ≡ true → y ≡ true
      middle true true z q = refl
      middle true false z q = q
      middle false true z q = refl
      middle false false z q = q

  visits_unknown : (s : ℕ) → s < n → visits s ≡ true → stands s ≡ status_unknown
  visits_unknown s h m = visited_unknown (is_visited s h m)

  -- An unknown node whose successor leads to a visited one is visited.
  visits_source : (s t : ℕ) → stands s ≡ status_unknown → S.Arc s (get_or b.successor s 0) t → visits t ≡ true → visits s ≡ true
  visits_source s t u c m = at (marked b.visited s) refl
    where
      r : (s < n) × (t < n)
      r = e.inside s (get_or b.successor s 0) t c

      at : (x : Bool) → marked b.visited s ≡ x → visits s ≡ true
      at true z = start_visits s (marks s r.0 z)
      at false z =
          visits_is s r.0
          (back (is_visited t r.1 m) ((into s (get_or b.successor s 0) t r.1).1 c) r.0
          (rw (z, eq-eqb (stands s) status_unknown u, eq-eqb (get_or b.successor s 0) (get_or b.successor s 0) refl)))

  -- The releases, one behind the other.
  dies_visits : (s : ℕ) → dies s ≡ true → visits s ≡ true
  dies_visits s m = w.escapes.releases.shrinks s (w.rescues.releases.shrinks s m)

  pub dies_unknown : (s : ℕ) → s < n → dies s ≡ true → stands s ≡ status_unknown
  dies_unknown s h m = visits_unknown s h (dies_visits s m)

  visits_dies : (s : ℕ) → visits s ≡ false → dies s ≡ false
  visits_dies s f = fails (dies s) (λ m. true≢false (sym (dies_visits s m) ∙ f))

  -- a node that is visited no more stands among the released ones
  released : (s : ℕ) → visits s ≡ true → dies s ≡ false → Before a.queue w.rescued s
  released s m f = at (marked w.visits₁ s) refl
    where
      r : (j : ℕ) → j < w.escaped → get_or a.queue j 0 ≡ get_or w.queue₁ j 0
      r = w.rescues.releases.stable

      at : (x : Bool) → marked w.visits₁ s ≡ x → Before a.queue w.rescued s
      at true z = w.rescues.releases.listed s z f
      at false z = let q = w.escapes.releases.listed s m z in (q.0, omega (arith, q.1, w.rescues.releases.more), r q.0 q.1 ∙ q.2)

  -- An arc from a node that stays visited to one that is open or unknown: its target stays visited too.
  module _ (s i t : ℕ) (arc : S.Arc s i t) (stays : dies s ≡ true) (hopes : (stands t ≡ status_open) ⊎ (stands t ≡ status_unknown)) where
    range : (s < n) × (t < n)
    range = e.inside s i t arc

    target_hopeful : hopeful n b.status t ≡ true
    target_hopeful = rw (lt-ltb t n range.1) (at hopes)
      where
        at : (stands t ≡ status_open) ⊎ (stands t ≡ status_unknown) → eqb (stands t) status_open || eqb (stands t) status_unknown ≡ true
        at (inl z) = rw (eq-eqb (stands t) status_open z)
        at (inr z) = rw z

    target_visits : visits t ≡ true
    target_visits = at (visits t) refl
      where
        at : (x : Bool) → visits t ≡ x → x ≡ true
        at true z = refl
        at false z =
            let j = w.spread.reached s (is_visited s range.0 (dies_visits s stays)) in
            let m = w.rescues.releases.shrinks s stays in
            let l = (out s i t range.0).1 arc in
            let f = w.escapes.no_escape j.0 j.1 (rw j.2 m) i t (rw j.2 l) in
            absurd (false≢true (sym f ∙ rw (target_hopeful, z)))

    target_dies : dies t ≡ true
    target_dies = at (dies t) refl
      where
        at : (x : Bool) → dies t ≡ x → x ≡ true
        at true z = refl
        at false z =
            let j = released t target_visits z in
            let l = (into s i t range.1).1 arc in
            absurd (true≢false (sym stays ∙ w.rescues.no_rescue j.0 j.1 s i (rw j.2 l) range.0))

  -- What stays visited is dead: its arcs lead to such nodes, or to dead ones.
  pub dies_dead : (s : ℕ) → s < n → dies s ≡ true → DeadIn S s
  dies_dead s h m = dead_greatest S Dies final unmarked onward (inl (h, m))
    where
      Dies : ℕ → Type 0
      Dies r = ((r < n) × (dies r ≡ true)) ⊎ DeadIn S r

      final : (r : ℕ) → Dies r → S.Final r
      final r (inl q) = (e.unknown r q.0 (dies_unknown r q.0 q.1)).0
      final r (inr d) = dead_final S d

      unmarked : (r : ℕ) → Dies r → S.Goal r → ⊥
      unmarked r (inl q) g = (e.unknown r q.0 (dies_unknown r q.0 q.1)).1 g
      unmarked r (inr d) g = (d r here).1 g

      further : (r i t : ℕ) → S.Arc r i t → dies r ≡ true → (stands t ≡ status_open) ⊎ ((stands t ≡ status_unknown) ⊎ (stands t ≡ status_dead)) → Dies t
      further r i t c q (inl o) = inl ((e.inside r i t c).1, target_dies r i t c q (inl o))
      further r i t c q (inr (inl u)) = inl ((e.inside r i t c).1, target_dies r i t c q (inr u))
      further r i t c q (inr (inr d)) = inr (e.dead t (e.inside r i t c).1 d)

      onward : (r i t : ℕ) → S.Arc r i t → Dies r → Dies t
      onward r i t c (inl q) = further r i t c q.1 (e.targets r i t c (dies_unknown r q.0 q.1))
      onward r i t c (inr d) = inr (dead_target S {p = i} c d)

  -- The chain of a node, by the new successors, outside of what stays visited.
  abbrev pub Goes : ℕ → Type 0
  Goes s = (j : ℕ) × Chain (λ r. Having n (λ v. get_or b.status v 0) status_unknown r × (dies r ≡ false)) (Having n (λ v. get_or b.status v 0) status_open) (λ r t. S.Arc r (get_or w.successor₂ r 0) t) s j

  goes_open : (s : ℕ) → Having n (λ v. get_or b.status v 0) status_open s → Goes s
  goes_open s o = (0, ends o)

  goes_on : (s t : ℕ) → stands s ≡ status_unknown → dies s ≡ false → S.Arc s (get_or w.successor₂ s 0) t → Goes t → Goes s
  goes_on s t u f c g = (suc g.0, follows {t = t} (((e.inside s (get_or w.successor₂ s 0) t c).0, u), f) c g.1)

  -- a node that is not visited keeps its successor
  pub successor_kept : (s : ℕ) → visits s ≡ false → get_or w.successor₂ s 0 ≡ get_or b.successor s 0
  successor_kept s f =
      w.rescues.releases.others s (inl (fails (marked w.visits₁ s) (λ m. true≢false (sym (w.escapes.releases.shrinks s m) ∙ f)))) ∙
      w.escapes.releases.others s (inl f)

  pub known_kept : (s : ℕ) → s < n → (stands s ≡ status_unknown → ⊥) → get_or w.successor₂ s 0 ≡ get_or b.successor s 0
  known_kept s h u = successor_kept s (fails (visits s) (λ m. u (visits_unknown s h m)))

  -- and its chain, in which none is visited
  goes_unvisited : (s : ℕ) → Having n (λ v. get_or b.status v 0) status_unknown s → visits s ≡ false → Goes s
  goes_unvisited s u f = walk f (e.chained s u (λ z. true≢false (sym (start_visits s z) ∙ f))).1
    where
      walk : {s j : ℕ} → visits s ≡ false → Chain (λ r. Having n (λ v. get_or b.status v 0) status_unknown r × (Before b.queue starts.len r → ⊥)) (λ r. Having n (λ v. get_or b.status v 0) status_open r ⊎ Before b.queue starts.len r) (λ r t. S.Arc r (get_or b.successor r 0) t) s j → Goes s
      walk {s} f (ends (inl o)) = goes_open s o
      walk {s} f (ends (inr z)) = absurd (true≢false (sym (start_visits s z) ∙ f))
      walk {s} f (follows {t = t} u c d) =
          goes_on s t u.0.1 (visits_dies s f) (rw (successor_kept s f) c)
          (walk (fails (visits t) (λ m. true≢false (sym (visits_source s t u.0.1 c m) ∙ f))) d)

  -- the node released at the place j
  abbrev freed : ℕ → ℕ
  freed j = get_or a.queue j 0

  -- it is unknown, does not stay visited, and its new successor leads to a node that goes on, where those released before it do
  freed_on : (j : ℕ) → j < w.rescued → ((i : ℕ) → i < j → Goes (freed i)) → Goes (freed j)
  freed_on j h before = at (dec_lt j w.escaped)
    where
      stable : (i : ℕ) → i < w.escaped → get_or a.queue i 0 ≡ get_or w.queue₁ i 0
      stable = w.rescues.releases.stable

      target : (t : ℕ) → hopeful n b.status t ≡ true → visits t ≡ false → Goes t
      target t o f = hoped (ltb t n) refl (eqb (stands t) status_open) refl (eqb (stands t) status_unknown) refl o
        where
          hoped : (x : Bool) → ltb t n ≡ x → (y : Bool) → eqb (stands t) status_open ≡ y → (z : Bool) → eqb (stands t) status_unknown ≡ z → x && (y || z) ≡ true → Goes t
          hoped true ex true ey z ez q = goes_open t (ltb-true t n ex, eqb-true (stands t) status_open ey)
          hoped true ex false ey true ez q = goes_unvisited t (ltb-true t n ex, eqb-true (stands t) status_unknown ez) f
          hoped true ex false ey false ez q = absurd (false≢true q)
          hoped false ex y ey z ez q = absurd (false≢true q)

      at : Dec (j < w.escaped) → Goes (freed j)
      at (yes l) =
          let x = w.escapes.releases.front j (omega arith) l in
          let (t, c, o, v) = w.escapes.releases.ways j (omega arith) l in
          let s = get_or w.queue₁ j 0 in
          let f : dies s ≡ false = fails (dies s) (λ m. true≢false (sym (w.rescues.releases.shrinks s m) ∙ x.2)) in
          let p : get_or w.successor₂ s 0 ≡ get_or w.successor₁ s 0 = w.rescues.releases.others s (inl x.2) in
          rw (stable j l)
          (goes_on s t (visits_unknown s x.0 x.1) f (rw p ((out s (get_or w.successor₁ s 0) t x.0).0 c))
          (⊎_elim (target t o) (λ z. rw (stable z.0 (omega (arith, z.1)), z.2) at (before z.0 z.1)) v))
      at (no l) =
          let x = w.rescues.releases.front j (omega arith) h in
          let (t, c, z) = w.rescues.releases.ways j (omega arith) h in
          let m = w.escapes.releases.shrinks (freed j) x.1 in
          let g : Goes t = rw z.2 at (before z.0 z.1) in
          goes_on (freed j) t (visits_unknown (freed j) x.0 m) x.2 ((into (freed j) (get_or w.successor₂ (freed j) 0) t (goes_range g)).0 c) g
        where
          goes_range : {r : ℕ} → Goes r → r < n
          goes_range (j, ends o) = o.0
          goes_range (j, follows u c d) = u.0.0

  goes_freed : (m j : ℕ) → j < m → j < w.rescued → Goes (freed j)
  goes_freed zero j l h = absurd (omega arith)
  goes_freed (suc m) j l h = freed_on j h (λ i q. goes_freed m i (omega arith) (omega arith))

  -- So every unknown node that does not stay visited has a chain,
  pub goes_all : (s : ℕ) → Having n (λ v. get_or b.status v 0) status_unknown s → dies s ≡ false → Goes s
  goes_all s u f = at (visits s) refl
    where
      at : (v : Bool) → visits s ≡ v → Goes s
      at true q = let j = released s q f in rw j.2 at (goes_freed w.rescued j.0 j.1 j.1)
      at false q = goes_unvisited s u q

  -- and is not dead.
  pub goes_undead : (s : ℕ) → Having n (λ v. get_or b.status v 0) status_unknown s → dies s ≡ false → DeadIn S s → ⊥
  goes_undead s u f d = go (goes_all s u f).1 d
    where
      go : {s j : ℕ} → Chain (λ r. Having n (λ v. get_or b.status v 0) status_unknown r × (dies r ≡ false)) (Having n (λ v. get_or b.status v 0) status_open) (λ r t. S.Arc r (get_or w.successor₂ r 0) t) s j → DeadIn S s → ⊥
      go (ends {s = s} o) d = e.opened s o.0 o.1 (dead_final S d)
      go (follows {s = s} u c q) d = go q (dead_target S {p = get_or w.successor₂ s 0} c d)

  pub dies_within : (s : ℕ) → s < n → dies s ≡ true → (w.span.low ≤ s) × (s ≤ w.span.high)
  dies_within s h m =
      let j = w.spread.reached s (is_visited s h (dies_visits s m)) in
      rw j.2 at (w.spread.queued.within j.0 j.1)

-- The near escape of the one start u, by the arc p to t: with p for its successor, the successors of every unknown node lead to an open one.
module _ (S : System) {n : ℕ} (Follow : Arcs) {status successor : List ℕ} (u p t : ℕ) (e : Endangers S n (λ s. s ≡ u) status successor) (arc : S.Arc u p t) (long : n ≤ length successor)
    (followed : (r v : ℕ) → Having n (λ s. get_or status s 0) status_unknown r → Follow r (get_or successor r 0) v → (r ≡ u → ⊥) × S.Arc r (get_or successor r 0) v) (near : Near n Follow status successor t) where
  here_is : get_or (set successor u p) u 0 ≡ p
  here_is = get_or-set_same successor u p 0 (let r = e.inside u p t arc in omega arith)

  else_is : (s : ℕ) → (s ≡ u → ⊥) → get_or (set successor u p) s 0 ≡ get_or successor s 0
  else_is s d = get_or-set_other successor u s p 0 d

  target_goes : Chained S n status (set successor u p) t
  target_goes = go near.1
    where
      go : {s k : ℕ} → Chain (Having n (λ r. get_or status r 0) status_unknown) (Having n (λ r. get_or status r 0) status_open) (λ r v. Follow r (get_or successor r 0) v) s k → Chained S n status (set successor u p) s
      go (ends o) = (0, ends o)
      go (follows {s = s} {t = v} x f c) =
          let y = followed s v x f in
          let g = go c in
          (suc g.0, follows {t = v} x (rw (else_is s y.0) y.1) g.1)

  start_goes : Chained S n status (set successor u p) u
  start_goes = (suc target_goes.0, follows {t = t} (e.starting u refl) (rw here_is arc) target_goes.1)

  pub near_goes : (s : ℕ) → Having n (λ r. get_or status r 0) status_unknown s → Chained S n status (set successor u p) s
  near_goes s x = at (ℕ_discrete s u)
    where
      go : {s k : ℕ} → Chain (λ r. Having n (λ v. get_or status v 0) status_unknown r × (r ≡ u → ⊥)) (λ r. Having n (λ v. get_or status v 0) status_open r ⊎ (r ≡ u)) (λ r v. S.Arc r (get_or successor r 0) v) s k → Chained S n status (set successor u p) s
      go (ends (inl o)) = (0, ends o)
      go (ends (inr z)) = rw z start_goes
      go (follows {s = s} {t = v} y c d) = let g = go d in (suc g.0, follows {t = v} y.0 (rw (else_is s y.1) c) g.1)

      at : Dec (s ≡ u) → Chained S n status (set successor u p) s
      at (yes z) = rw z start_goes
      at (no d) = go (e.chained s x d).1
