-- What life visits is what the system makes live: where the starts are live in a system, and all else that becomes live leads to them, the nodes that a spread of life visits are those that become live.
-- Assumes nothing.
use mathlib.Core.Path.{◌≡◌, refl, subst}
use mathlib.Core.Logic.{◌↔◌, ◌⊎◌, inl, inr, ⊎_elim}
use mathlib.Core.Bool.{Bool, true, false, not, ◌&&◌, false≢true}
use mathlib.Core.List.{List}
use Prim.Native.Nat.{ℕ, ◌<◌, ◌≤◌}
use native.Mathlib.Decide.{ℕ_discrete}
use lib.ListN.{get_or}
use borrow.Author.Tests.{eq-eqb, ne_eqb}
use Rattle.gid.specs.Statuses.{status_live}
use Rattle.gid.specs.Systems.{Arcs, System, LiveIn, by_arc}
use Rattle.gid.proofs.Systems.{live_least}
use Rattle.tables.specs.Visits.{marked}
use Rattle.search.specs.declared.spread.Span.{Span}
use Rattle.search.specs.Spreading.{Live, allowed, Reached, start, back, unless, Before, Spread}

-- What a spread of life starts from: the arcs of a system over n nodes, each with one target, the statuses as they were, and the starts.
pub record Quickens (S : System) (n : ℕ) (Into : Arcs) (status visited queue : List ℕ) (starts : Span) : Type 0 where
  pub arcs : (s i t : ℕ) → t < n → Into s i t ↔ S.Arc s i t
  pub inside : (s i t : ℕ) → S.Arc s i t → (s < n) × (t < n)
  pub single : (s i t v : ℕ) → S.Arc s i t → S.Arc s i v → t ≡ v
  -- Whoever has the status live is live. A goal has it, or is a start, and so does a node with an arc to one that has it.
  pub lives : (s : ℕ) → s < n → get_or status s 0 ≡ status_live → LiveIn S s
  pub goals : (s : ℕ) → S.Goal s → ((s < n) × (get_or status s 0 ≡ status_live)) ⊎ Before queue starts.len s
  pub sources : (s i t : ℕ) → S.Arc s i t → get_or status t 0 ≡ status_live → (get_or status s 0 ≡ status_live) ⊎ Before queue starts.len s
  -- The starts are live, do not have the status yet, and they alone are visited.
  pub starting : (s : ℕ) → Before queue starts.len s → (s < n) × LiveIn S s × (get_or status s 0 ≡ status_live → ⊥)
  pub marks : (s : ℕ) → s < n → marked visited s ≡ true → Before queue starts.len s

module _ (S : System) {n : ℕ} {Into : Arcs} {status : List ℕ} (successor : List ℕ) {visited queue : List ℕ} {starts : Span} (q : Quickens S n Into status visited queue starts) where
  -- visited, by the spread from the starts
  abbrev Revived : ℕ → Type 0
  Revived s = Reached n Into (unless visited (allowed Live status successor)) (Before queue starts.len) s

  revived_range : {s : ℕ} → Revived s → s < n
  revived_range {s} (start b) = (q.starting s b).0
  revived_range (back r a h o) = h

  revived_live : {s : ℕ} → Revived s → LiveIn S s
  revived_live {s} (start b) = (q.starting s b).1
  revived_live {s} (back {v = v} {i = i} r a h o) =
      let c = (q.arcs s i v (revived_range r)).0 a in
      by_arc {p = i} c (λ w d. subst (LiveIn S) (q.single s i v w c d) (revived_live r))

  -- what is visited had not the status
  revived_new : {s : ℕ} → Revived s → get_or status s 0 ≡ status_live → ⊥
  revived_new {s} (start b) e = (q.starting s b).2 e
  revived_new {s} (back r a h o) e = at (marked visited s) (rw (eq-eqb (get_or status s 0) status_live e) at o)
    where
      at : (b : Bool) → not b && false ≡ true → ⊥
      at true z = false≢true z
      at false z = false≢true z

  -- a node without the status, with an arc to a visited one, is visited
  revived_source : {s i t : ℕ} → S.Arc s i t → (get_or status s 0 ≡ status_live → ⊥) → Revived t → Revived s
  revived_source {s} {i} {t} a n r = at (marked visited s) refl
    where
      at : (b : Bool) → marked visited s ≡ b → Revived s
      at true m = start (q.marks s (q.inside s i t a).0 m)
      at false m = back r ((q.arcs s i t (q.inside s i t a).1).1 a) (q.inside s i t a).0 (rw (m, ne_eqb (get_or status s 0) status_live n))

  live_revived : {s : ℕ} → LiveIn S s → ((s < n) × (get_or status s 0 ≡ status_live)) ⊎ Revived s
  live_revived =
      live_least S (λ s. ((s < n) × (get_or status s 0 ≡ status_live)) ⊎ Revived s) (λ s g. ⊎_elim inl (λ b. inr (start b)) (q.goals s g))
      (λ s i t a f. by a (f t a) (ℕ_discrete (get_or status s 0) status_live))
    where
      by : {s i t : ℕ} → S.Arc s i t → ((t < n) × (get_or status t 0 ≡ status_live)) ⊎ Revived t → Dec (get_or status s 0 ≡ status_live) → ((s < n) × (get_or status s 0 ≡ status_live)) ⊎ Revived s
      by {s} {i} {t} a p (yes e) = inl ((q.inside s i t a).0, e)
      by {s} {i} {t} a (inl l) (no d) = ⊎_elim (λ e. absurd (d e)) (λ b. inr (start b)) (q.sources s i t a l.1)
      by {s} {i} {t} a (inr r) (no d) = inr (revived_source a d r)

  module _ {visited' queue' : List ℕ} {span : Span} (d : Spread n Into (allowed Live status successor) visited queue starts visited' queue' span) where
    visited_revived : (s : ℕ) → s < n → (marked visited' s ≡ true) ↔ Revived s
    visited_revived s h = (λ m. ⊎_elim (λ e. start (q.marks s h e)) (λ r. r) ((d.exact s h).0 m), λ r. (d.exact s h).1 (inr r))

    -- The nodes that are live are those that have the status, and those that are visited.
    pub live_now : (s : ℕ) → s < n → LiveIn S s ↔ ((get_or status s 0 ≡ status_live) ⊎ (marked visited' s ≡ true))
    live_now s h = (
      λ l. ⊎_elim (λ o. inl o.1) (λ r. inr ((visited_revived s h).1 r)) (live_revived l),
      λ p. ⊎_elim (λ e. q.lives s h e) (λ m. revived_live ((visited_revived s h).0 m)) p,
    )

    pub visited_new : (s : ℕ) → s < n → marked visited' s ≡ true → get_or status s 0 ≡ status_live → ⊥
    visited_new s h m = revived_new ((visited_revived s h).0 m)

    -- Whoever has an arc to a visited node, and has not the status, is visited.
    pub visited_source : (s i t : ℕ) → S.Arc s i t → (get_or status s 0 ≡ status_live → ⊥) → marked visited' t ≡ true → marked visited' s ≡ true
    visited_source s i t a n m =
        let w = q.inside s i t a in
        (visited_revived s w.0).1 (revived_source a n ((visited_revived t w.1).0 m))

    pub visited_within : (s : ℕ) → s < n → marked visited' s ≡ true → (span.low ≤ s) × (s ≤ span.high)
    visited_within s h m =
        let b = d.reached s ((visited_revived s h).0 m) in
        rw b.2 at (d.queued.within b.0 b.1)
