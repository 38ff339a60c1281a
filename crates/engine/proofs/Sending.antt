-- A step or a terminal mark: tables that fit for a history fit for the history with it, and the news is the definition's.
-- Assumes nothing.
use mathlib.Core.Path.{◌≡◌, refl, sym, ◌∙◌, ap}
use mathlib.Core.Bool.{Bool, true, false, not, cond, ◌&&◌, ◌||◌, true≢false}
use mathlib.Core.List.{List, ◌∷◌}
use Prim.Native.Nat.{ℕ, suc, ◌<◌, ◌≤◌}
use native.Mathlib.Omega.{arith}
use native.Mathlib.Decide.{ℕ_discrete}
use lib.Dec.{eqb}
use lib.ListN.{length, get_or, take, length-set}
use borrow.Author.Tests.{ne_eqb}
use Rattle.gid.specs.declared.Update.{Update}
use Rattle.gid.specs.declared.Update.TheVariants.{Step, Terminal, Close}
use Rattle.gid.specs.Updates.{source}
use Rattle.gid.specs.Histories.{History, IsClosed}
use Rattle.gid.specs.Statuses.{is_named, is_closed, is_live, is_dead, status, status_unseen, status_open, status_unknown, status_live}
use Rattle.gid.specs.News.{settles, below, news}
use Rattle.gid.specs.Successors.{Chain, ends, follows, Having, SuccessorRule, no_successor}
use Rattle.gid.specs.Systems.{ListedAt}
use Rattle.gid.proofs.Decide.{refutes}
use Rattle.gid.proofs.Tests.{decides_live}
use Rattle.gid.proofs.Statuses.{status-live}
use Rattle.gid.proofs.Listing.{stays_arc}
use Rattle.gid.proofs.Chains.{successor_rule}
use Rattle.gid.proofs.After.{same_dead_sent}
use Rattle.tables.specs.declared.Graph.{Graph}
use Rattle.tables.specs.Tables.{Tables}
use Rattle.tables.specs.Visits.{NoneVisited}
use Rattle.tables.specs.Fitting.{Consistent}
use Rattle.search.specs.Searches.{SearchTables}
use Rattle.engine.specs.Effects.{named_byte, name_at, names_after}
use Rattle.engine.specs.Preparing.{InRange}
use Rattle.engine.specs.Outcomes.{Right}
use Rattle.engine.proofs.Naming.{set_at}
use Rattle.engine.proofs.Settlement.{sent_status}
use Rattle.engine.proofs.Preparing.{rule_listed}

-- an update that is no close
abbrev pub Sent : Update → Type 0
Sent x = (s : ℕ) → Close s ≡ x → ⊥

-- the update mentions the state
abbrev pub mentions : Update → ℕ → Bool
mentions (Step e) s = eqb e.from s || eqb e.to s
mentions (Terminal u) s = eqb u s
mentions (Close u) s = eqb u s

pub named_after : (h : History) (x : Update) (s : ℕ) → is_named (x ∷ h) s ≡ mentions x s || is_named h s
unfolding is_named
named_after h (Step e) s = refl
named_after h (Terminal u) s = refl
named_after h (Close u) s = refl

closed_after : (h : History) (x : Update) → Sent x → (s : ℕ) → is_closed (x ∷ h) s ≡ is_closed h s
unfolding is_closed
closed_after h (Step e) n s = refl
closed_after h (Terminal u) n s = refl
closed_after h (Close u) n s = absurd (n u refl)

-- naming twice is naming once
named_again : (k : ℕ) → named_byte (named_byte k) ≡ named_byte k
named_again k = at (eqb k status_unseen) refl
  where
    at : (c : Bool) → eqb k status_unseen ≡ c → named_byte (cond c status_open k) ≡ cond c status_open k
    at true e = refl
    at false e = rw e

named_twice : (a b : Bool) (k : ℕ) → cond b (named_byte (cond a (named_byte k) k)) (cond a (named_byte k) k) ≡ cond (a || b) (named_byte k) k
named_twice true true k = named_again k
named_twice true false k = refl
named_twice false true k = refl
named_twice false false k = refl

named_one : (l : List ℕ) (u : ℕ) → u < length l → (s : ℕ) → get_or (name_at u l) s 0 ≡ cond (eqb u s) (named_byte (get_or l s 0)) (get_or l s 0)
named_one l u b s = set_at l u (named_byte (get_or l u 0)) b s ∙ at (ℕ_discrete u s)
  where
    at : Dec (u ≡ s) → cond (eqb u s) (named_byte (get_or l u 0)) (get_or l s 0) ≡ cond (eqb u s) (named_byte (get_or l s 0)) (get_or l s 0)
    at (yes e) = rw e
    at (no d) = rw (ne_eqb u s d)

-- the statuses once the update's states are named
pub names_at : (x : Update) (l : List ℕ) (n : ℕ) → n ≤ length l → InRange n x → (s : ℕ) → get_or (names_after x l) s 0 ≡ cond (mentions x s) (named_byte (get_or l s 0)) (get_or l s 0)
names_at (Step e) l n b r s =
    named_one (name_at e.from l) e.to (rw length-set (omega arith)) s ∙
    rw (named_one l e.from (omega arith) s) (named_twice (eqb e.from s) (eqb e.to s) (get_or l s 0))
names_at (Terminal u) l n b r s = named_one l u (omega arith) s
names_at (Close u) l n b r s = named_one l u (omega arith) s

-- What a step or a terminal mark leaves: the states of the test W become live, those named are no longer unseen, and nothing else changes.
pub record Spreads (h : History) (x : Update) (n : ℕ) (b a : SearchTables) (k : ℕ) (W : ℕ → Bool) : Type 0 where
  pub statuses : (s : ℕ) → s < n → get_or a.status s 0 ≡ cond (W s) status_live (get_or b.status s 0)
  pub successors : (s : ℕ) → s < n → get_or a.successor s 0 ≡ cond (W s) no_successor (get_or b.successor s 0)
  pub unvisited : NoneVisited n a.visited
  pub named : (f : ℕ → Bool) → ((s : ℕ) → s < n → f s ≡ W s) → take k a.news ≡ below n f
  pub lives : (s : ℕ) → s < n → is_live (x ∷ h) s ≡ W s || is_live h s
  pub new : (s : ℕ) → s < n → W s ≡ true → is_live h s ≡ false
  pub sources : (s p t : ℕ) → ListedAt h s p t → is_live h s ≡ false → W t ≡ true → W s ≡ true

settles_is : (w l d : Bool) → (w ≡ true → l ≡ false) → (w || l) && not l || d && not d ≡ w
settles_is true l d q = rw (q refl)
settles_is false true true q = refl
settles_is false true false q = refl
settles_is false false true q = refl
settles_is false false false q = refl

-- what is unknown or open after was so before, and did not become live
unknown_was : (w m : Bool) (k : ℕ) → cond w status_live (cond m (named_byte k) k) ≡ status_unknown → (w ≡ false) × (k ≡ status_unknown)
unknown_was true m k e = absurd (omega arith)
unknown_was false false k e = (refl, e)
unknown_was false true k e = (refl, at (eqb k status_unseen) e)
  where
    at : (c : Bool) → cond c status_open k ≡ status_unknown → k ≡ status_unknown
    at true q = absurd (omega arith)
    at false q = q

seen_stays : (m : Bool) (k : ℕ) → (k ≡ status_unseen → ⊥) → cond m (named_byte k) k ≡ k
seen_stays true k n = rw (ne_eqb k status_unseen n)
seen_stays false k n = refl

module _ {h : History} {g : Graph} {t : Tables} (c : Consistent h g t) {x : Update} (sent : Sent x) (range : InRange g.n x) (unclosed : IsClosed h (source x) → ⊥) (long : g.n ≤ length t.status)
    {b a : SearchTables} {k : ℕ} {W : ℕ → Bool} (named : b.status ≡ names_after x t.status) (same : b.successor ≡ t.successor) (w : Spreads h x g.n b a k W) where
  status_at : (s : ℕ) → s < g.n → get_or a.status s 0 ≡ cond (W s) status_live (cond (mentions x s) (named_byte (get_or t.status s 0)) (get_or t.status s 0))
  status_at s q = w.statuses s q ∙ rw named (ap (λ (y : ℕ). cond (W s) status_live y) (names_at x t.status g.n long range s))

  successor_at : (s : ℕ) → s < g.n → get_or a.successor s 0 ≡ cond (W s) no_successor (get_or t.successor s 0)
  successor_at s q = w.successors s q ∙ rw same

  statuses_right : (s : ℕ) → s < g.n → get_or a.status s 0 ≡ status (x ∷ h) s
  unfolding status
  statuses_right s q =
      status_at s q ∙
      rw (c.status s q, w.lives s q, same_dead_sent sent unclosed s, closed_after h x sent s, named_after h x s)
      (sent_status (mentions x s) (W s) (is_live h s) (is_dead h s) (is_closed h s) (is_named h s))

  was_unknown : {s : ℕ} → Having g.n (λ r. get_or a.status r 0) status_unknown s → (W s ≡ false) × Having g.n (λ r. get_or t.status r 0) status_unknown s
  was_unknown {s} u = let r = unknown_was (W s) (mentions x s) (get_or t.status s 0) (sym (status_at s u.0) ∙ u.1) in (r.0, (u.0, r.1))

  stays : (s j : ℕ) → s < g.n → (j ≡ status_unseen → ⊥) → W s ≡ false → get_or t.status s 0 ≡ j → get_or a.status s 0 ≡ j
  stays s j q n e z = status_at s q ∙ rw (e, z) (seen_stays (mentions x s) j n)

  kept : (s : ℕ) → s < g.n → W s ≡ false → get_or a.successor s 0 ≡ get_or t.successor s 0
  kept s q e = successor_at s q ∙ rw e

  unlive : {s : ℕ} → Having g.n (λ r. get_or t.status r 0) status_unknown s → is_live h s ≡ false
  unlive {s} u = refutes (is_live h s) (decides_live h s) (λ l. let e = sym (c.status s u.0) ∙ u.1 in let f = (status-live h s).1 l in omega arith)

  abbrev Goes : ℕ → Type 0
  Goes s = (j : ℕ) × Chain (Having g.n (λ r. get_or a.status r 0) status_unknown) (Having g.n (λ r. get_or a.status r 0) status_open) (λ r v. ListedAt (x ∷ h) r (get_or a.successor r 0) v) s j

  -- the old chain goes on, outside of what becomes live
  chain : {s j : ℕ} → W s ≡ false → Chain (Having g.n (λ r. get_or t.status r 0) status_unknown) (Having g.n (λ r. get_or t.status r 0) status_open) (λ r v. ListedAt h r (get_or t.successor r 0) v) s j → Goes s
  chain {s} e (ends o) = (0, ends (o.0, stays s status_open o.0 (λ z. omega arith) e o.1))
  chain {s} e (follows {t = v} u l d) =
      let r = chain (outside (W v) refl) d in
      (suc r.0, follows {t = v} (u.0, stays s status_unknown u.0 (λ z. omega arith) e u.1) (rw (kept s u.0 e) (stays_arc h x l)) r.1)
    where
      outside : (z : Bool) → W v ≡ z → W v ≡ false
      outside false q = q
      outside true q = absurd (true≢false (sym (w.sources s (get_or t.successor s 0) v l (unlive u) q) ∙ e))

  successors_right : SuccessorRule g.n (ListedAt (x ∷ h)) (λ s. get_or a.status s 0) (λ s. get_or a.successor s 0)
  successors_right =
      successor_rule g.n (ListedAt (x ∷ h)) (λ s. get_or a.status s 0) (λ s. get_or a.successor s 0)
      (λ s u. let v = was_unknown u in chain v.0 ((rule_listed c).escapes s v.1).2)
      others
    where
      others : (s : ℕ) → s < g.n → (get_or a.status s 0 ≡ status_unknown → ⊥) → get_or a.successor s 0 ≡ no_successor
      others s q n = at (W s) refl
        where
          at : (z : Bool) → W s ≡ z → get_or a.successor s 0 ≡ no_successor
          at true e = successor_at s q ∙ rw e
          at false e = kept s q e ∙ c.successor.others s q (λ z. n (stays s status_unknown q (λ y. omega arith) e z))

  -- The outcome is right.
  pub spread_right : Right h x g.n a k
  unfolding news settles
  spread_right =
      record {
        statuses = statuses_right;
        successors = successors_right;
        unvisited = w.unvisited;
        named = w.named (settles h x) (λ s q. rw (w.lives s q, same_dead_sent sent unclosed s) (settles_is (W s) (is_live h s) (is_dead h s) (w.new s q)));
      }
