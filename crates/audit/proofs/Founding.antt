-- Tables of which the facts hold fit: the canonical history gives them.
-- Assumes nothing.
use mathlib.Core.Path.{◌≡◌, refl, sym, ◌∙◌}
use mathlib.Core.Logic.{inl, inr}
use mathlib.Core.Bool.{Bool, true, false, false≢true}
use mathlib.Core.List.{List}
use Prim.Native.Nat.{ℕ, suc, ◌+◌, ◌-◌, ◌<◌, ◌≤◌}
use native.Mathlib.Omega.{arith}
use native.Mathlib.Decide.{ℕ_discrete}
use lib.Dec.{eqb}
use lib.ListN.{length, get_or}
use borrow.Author.Tests.{eqb-true, leb-true}
use Rattle.gid.specs.declared.Edge.{Edge}
use Rattle.gid.specs.declared.Update.{Update}
use Rattle.gid.specs.declared.Update.TheVariants.{Step, Terminal, Close}
use Rattle.gid.specs.Updates.{Mentions}
use Rattle.gid.specs.Histories.{History, Has, IsTerminal, IsClosed, IsNamed}
use Rattle.gid.specs.Verdicts.{Live, DeadByReach}
use Rattle.gid.specs.Refusals.{max_key}
use Rattle.gid.specs.Statuses.{is_named, is_terminal, is_closed, status, status_open, status_unknown, status_live, status_dead}
use Rattle.gid.specs.Successors.{Chain, ends as chain-ends, follows as chain-follows, Having, SuccessorRule}
use Rattle.gid.proofs.Decide.{same_test}
use Rattle.gid.proofs.Tests.{decides_named, decides_terminal, decides_closed}
use Rattle.gid.proofs.Deadness.{live_terminal, live_source, live_least, dead_closed, dead_target, dead_greatest}
use Rattle.gid.proofs.Statuses.{status-live, status_dead_by_reach, status_unknown_by_reach, status-open, status-unseen}
use Rattle.gid.proofs.Chains.{successor_rule}
use Rattle.tables.specs.declared.Graph.{Graph}
use Rattle.tables.specs.Tables.{Tables}
use Rattle.tables.specs.Marks.{has_named, has_terminal, has_closed}
use Rattle.tables.specs.Work.{ListRule}
use Rattle.tables.specs.Fitting.{StepAt, marks_of, Consistent}
use Rattle.tables.proofs.Bits.{bits, byte_sum}
use Rattle.tables.proofs.Listed.{ListsSteps, step_in_list, list_has_step}
use Rattle.adjacency.specs.Walks.{now'}
use Rattle.adjacency.proofs.Walks.{linked, clamp_keeps, last_inside}
use Rattle.search.specs.Spreading.{Tree, Claimed, Reached, start, back}
use Rattle.audit.specs.Facts.{Passes, starts, starts_at, Backed, steps_into, key_fits, TableFacts}
use Rattle.audit.proofs.Reading.{Suited, as_unseen, as_open, as_unknown, as_dead, as_live, suited_low, suited_terminal, suited_closed, suited_byte, decides_same, both_true, StateFacts, decides_state, StepFacts, decides_step}
use Rattle.audit.proofs.Gathering.{reached_range}
use Rattle.audit.proofs.Canonical.{canonical, canonical_terminal, canonical_closed, terminal_canonical, closed_canonical, canonical_lists, canonical_keys, canonical_key}

-- a list of steps that is not empty has a step
last_step : {n m : ℕ} {ends head next : List ℕ} → ListRule n m ends head next → (v : ℕ) → v < n → (get_or head v 0 ≡ 0 → ⊥) → (p : ℕ) × (p < m) × (get_or ends p 0 ≡ v)
last_step {m = m} {ends} {head} r v h d =
    let e = r.heads v h in
    let l = last_inside ends m v in
    let p = get_or head v 0 - 1 in
    let k = (linked r v h p).0 (rw (clamp_keeps (get_or head v 0) (m + 1) (omega arith)) (now' {at = get_or head v 0} (omega arith))) in
    (p, k.0, k.1)

abbrev terminal_of : Tables → ℕ → Bool
terminal_of t s = has_terminal (get_or t.marks s 0)

abbrev closed_of : Tables → ℕ → Bool
closed_of t s = has_closed (get_or t.marks s 0)

-- The history of the tables.
abbrev pub canonical_of : Graph → Tables → History
canonical_of g t = canonical g.n g.steps t.from t.to t.key (terminal_of t) (closed_of t)

module _ (g : Graph) (t : Tables) (f : TableFacts g.n g.steps t) (in_from : g.steps ≤ length t.from) (in_to : g.steps ≤ length t.to) (in_key : g.steps ≤ length t.key) where
  state : (s : ℕ) → s < g.n → StateFacts g.steps t.status t.marks t.from t.successor t.in_head t.out_head t.visited s
  state s h = (decides_state g.steps t.status t.marks t.from t.successor t.in_head t.out_head t.visited s).sound (f.states s h)

  step : (p : ℕ) → p < g.steps → StepFacts g.n t.status t.marks (get_or t.from p 0) (get_or t.to p 0)
  step p h = (decides_step g.n t.status t.marks (get_or t.from p 0) (get_or t.to p 0)).sound (f.steps p h)

  -- The steps, marks and closes of the history, as the tables have them.
  lists : ListsSteps (canonical_of g t) g.steps t.from t.to
  lists = canonical_lists g.n g.steps t.from t.to t.key (terminal_of t) (closed_of t) f.distinct in_from in_to

  has-terminal : {s : ℕ} → IsTerminal (canonical_of g t) s → (s < g.n) × (terminal_of t s ≡ true)
  has-terminal = terminal_canonical g.n g.steps t.from t.to t.key (terminal_of t) (closed_of t)

  has-closed : {s : ℕ} → IsClosed (canonical_of g t) s → (s < g.n) × (closed_of t s ≡ true)
  has-closed = closed_canonical g.n g.steps t.from t.to t.key (terminal_of t) (closed_of t)

  is-terminal : (s : ℕ) → s < g.n → terminal_of t s ≡ true → IsTerminal (canonical_of g t) s
  is-terminal = canonical_terminal g.n g.steps t.from t.to t.key (terminal_of t) (closed_of t)

  is-closed : (s : ℕ) → s < g.n → closed_of t s ≡ true → IsClosed (canonical_of g t) s
  is-closed = canonical_closed g.n g.steps t.from t.to t.key (terminal_of t) (closed_of t)

  -- Its named states are those with the mark.
  has-named : {s : ℕ} → IsNamed (canonical_of g t) s → (s < g.n) × (has_named (get_or t.marks s 0) ≡ true)
  has-named {s} (x, q, e) = at x q e
    where
      at : (y : Update) → Has (canonical_of g t) y → Mentions y s → (s < g.n) × (has_named (get_or t.marks s 0) ≡ true)
      at (Step e) k (inl z) = let r = step_in_list lists e.from e.to (e.key, k) in let w = step r.0 r.1.0 in rw (← z, ← r.1.1) (w.source, w.source_named)
      at (Step e) k (inr z) = let r = step_in_list lists e.from e.to (e.key, k) in let w = step r.0 r.1.0 in rw (← z, ← r.1.2) (w.target, w.target_named)
      at (Terminal u) k z = let r = has-terminal k in rw (← z) (r.0, (suited_terminal (state u r.0).suited r.1).1)
      at (Close u) k z = let r = has-closed k in rw (← z) (r.0, suited_closed (state u r.0).suited r.1)

  is-named : (s : ℕ) → s < g.n → has_named (get_or t.marks s 0) ≡ true → IsNamed (canonical_of g t) s
  unfolding bits
  is-named s h e = at (terminal_of t s) (closed_of t s) refl refl
    where
      -- with no other mark, one of the lists is not empty
      ends_here : get_or t.marks s 0 ≡ 1 → Dec (get_or t.in_head s 0 ≡ 0) → Dec (get_or t.out_head s 0 ≡ 0) → IsNamed (canonical_of g t) s
      ends_here one (yes i) (yes o) = absurd ((state s h).named one i o)
      ends_here one (no i) k = let r = last_step f.into s h i in let q = list_has_step lists (r.1, refl, refl) in (Step _, q.1, inr r.2)
      ends_here one (yes i) (no o) = let r = last_step f.out_of s h o in let q = list_has_step lists (r.1, refl, refl) in (Step _, q.1, inl r.2)

      at : (a b : Bool) → terminal_of t s ≡ a → closed_of t s ≡ b → IsNamed (canonical_of g t) s
      at true b p q = (Terminal s, is-terminal s h p, refl)
      at false true p q = (Close s, is-closed s h q, refl)
      at false false p q =
          ends_here (sym (byte_sum (get_or t.marks s 0) (suited_low (state s h).suited)) ∙ rw (e, p, q)) (ℕ_discrete (get_or t.in_head s 0) 0) (ℕ_discrete (get_or t.out_head s 0) 0)

  marks_given : (s : ℕ) → s < g.n → get_or t.marks s 0 ≡ marks_of (canonical_of g t) s
  unfolding marks_of bits
  marks_given s h =
      rw (
        same_test (is_named (canonical_of g t) s) (has_named (get_or t.marks s 0)) (decides_named (canonical_of g t) s) (decides_same (has_named (get_or t.marks s 0))) (λ q. (has-named q).1) (is-named s h),
        same_test (is_terminal (canonical_of g t) s) (terminal_of t s) (decides_terminal (canonical_of g t) s) (decides_same (terminal_of t s)) (λ q. (has-terminal q).1) (is-terminal s h),
        same_test (is_closed (canonical_of g t) s) (closed_of t s) (decides_closed (canonical_of g t) s) (decides_same (closed_of t s)) (λ q. (has-closed q).1) (is-closed s h),
      )
      (sym (byte_sum (get_or t.marks s 0) (suited_low (state s h).suited)))

  -- a step backwards of a search is a listed one
  search_step : {ok : ℕ → ℕ → Bool} {start : ℕ → Bool} {v i s : ℕ} → Reached g.n (steps_into g.n g.steps t) ok (Passes g.n start) v → steps_into g.n g.steps t s i v → StepAt g.steps t.from t.to s i v
  search_step {v = v} {i = i} r (l, e) = let k = (linked f.into v (reached_range r) i).0 l in (k.0, e, k.1)

  -- The live states are those with the status live.
  has_live : {s : ℕ} → Live (canonical_of g t) s → (s < g.n) × (get_or t.status s 0 ≡ status_live)
  has_live =
      live_least (λ s. (s < g.n) × (get_or t.status s 0 ≡ status_live))
      (λ s q. let r = has-terminal q in (r.0, (suited_terminal (state s r.0).suited r.1).0))
      (λ u v q l. let r = step_in_list lists u v q in let w = step r.0 r.1.0 in rw (← r.1.1) (w.source, w.lives (rw r.1.2 l.1)))

  is_live : (s : ℕ) → s < g.n → get_or t.status s 0 ≡ status_live → Live (canonical_of g t) s
  unfolding starts
  is_live s h e = spread (f.lives s h e)
    where
      spread : {w : ℕ} → Backed g.n (steps_into g.n g.steps t) Claimed status_live t.status t.marks t.successor w → Live (canonical_of g t) w
      spread {w} (start p) = live_terminal (is-terminal w p.0 p.1)
      spread (back r l b o) = live_source (list_has_step lists (search_step r l)) (spread r)

  -- Those with the status dead are dead.
  is-dead : (s : ℕ) → s < g.n → get_or t.status s 0 ≡ status_dead → DeadByReach (canonical_of g t) s
  is-dead s h e =
      dead_greatest (λ r. (r < g.n) × (get_or t.status r 0 ≡ status_dead))
      (λ r q. is-closed r q.0 (rw (suited_byte (state r q.0).suited (λ z. absurd (omega (arith, q.1))), q.1)))
      (λ r q k. omega (arith, (suited_terminal (state r q.0).suited (has-terminal k).1).0, q.1))
      (λ u v q d. let r = step_in_list lists u v q in let w = step r.0 r.1.0 in rw (← r.1.2) (w.target, w.deads (rw r.1.1 d.1)))
      (h, e)

  -- an open state is not closed
  unclosed : (s : ℕ) → s < g.n → get_or t.status s 0 ≡ status_open → IsClosed (canonical_of g t) s → ⊥
  unclosed s h e q = false≢true (rw (suited_byte (state s h).suited (λ z. absurd (omega arith)), e) at (has-closed q).1)

  -- a start of the unknown states is open
  from_open : (s : ℕ) → starts_at status_unknown t.status t.marks s ≡ true → get_or t.status s 0 ≡ status_open
  unfolding starts
  from_open s e = eqb-true (get_or t.status s 0) status_open e

  -- An unknown state is not dead: its successors lead to an open one.
  undead : (s : ℕ) → s < g.n → get_or t.status s 0 ≡ status_unknown → DeadByReach (canonical_of g t) s → ⊥
  undead s h e = spread (f.escapes s h e)
    where
      spread : {w : ℕ} → Backed g.n (steps_into g.n g.steps t) Tree status_unknown t.status t.marks t.successor w → DeadByReach (canonical_of g t) w → ⊥
      spread {w} (start p) q = unclosed w p.0 (from_open w p.1) (dead_closed q)
      spread (back r l b o) q = spread r (dead_target (list_has_step lists (search_step r l)) q)

  statuses_given : (s : ℕ) → s < g.n → get_or t.status s 0 ≡ status (canonical_of g t) s
  statuses_given s h = at (state s h).suited refl refl
    where
      named : {b : ℕ} → get_or t.marks s 0 ≡ b → has_named b ≡ true → IsNamed (canonical_of g t) s
      named e q = is-named s h (rw e q)

      shut : {b : ℕ} → get_or t.marks s 0 ≡ b → has_closed b ≡ true → IsClosed (canonical_of g t) s
      shut e q = is-closed s h (rw e q)

      -- a state with another status is not live
      unlive : {k : ℕ} → get_or t.status s 0 ≡ k → (k ≡ status_live → ⊥) → Live (canonical_of g t) s → ⊥
      unlive e n l = n (sym e ∙ (has_live l).1)

      at : {k b : ℕ} → Suited k b → get_or t.status s 0 ≡ k → get_or t.marks s 0 ≡ b → k ≡ status (canonical_of g t) s
      at (as_unseen k b) p q = k ∙ sym ((status-unseen (canonical_of g t) s).1 (λ m. false≢true (rw (q, b) at (has-named m).1)))
      at (as_open k b) p q = k ∙ sym ((status-open (canonical_of g t) s).1 (named (q ∙ b) refl, unclosed s h (p ∙ k), unlive (p ∙ k) (λ z. absurd (omega arith))))
      at (as_unknown k b) p q = k ∙ sym ((status_unknown_by_reach (canonical_of g t) s).1 (shut (q ∙ b) refl, unlive (p ∙ k) (λ z. absurd (omega arith)), undead s h (p ∙ k)))
      at (as_dead k b) p q = k ∙ sym ((status_dead_by_reach (canonical_of g t) s).1 (is-dead s h (p ∙ k)))
      at (as_live k l b) p q = k ∙ sym ((status-live (canonical_of g t) s).1 (is_live s h (p ∙ k)))

  successors_given : SuccessorRule g.n (StepAt g.steps t.from t.to) (λ s. get_or t.status s 0) (λ s. get_or t.successor s 0)
  successors_given =
      successor_rule g.n (StepAt g.steps t.from t.to) (λ s. get_or t.status s 0) (λ s. get_or t.successor s 0)
      (λ s u. chain (f.escapes s u.0 u.1))
      (λ s h n. (state s h).follows.1 n)
    where
      chain : {w : ℕ} → Backed g.n (steps_into g.n g.steps t) Tree status_unknown t.status t.marks t.successor w → (k : ℕ) × Chain (Having g.n (λ s. get_or t.status s 0) status_unknown) (Having g.n (λ s. get_or t.status s 0) status_open) (λ s v. StepAt g.steps t.from t.to s (get_or t.successor s 0) v) w k
      chain {w} (start p) = (0, chain-ends (p.0, from_open w p.1))
      chain (back {v = v} {i = i} {s = w} r l b o) =
          let c = chain r in
          let y = both_true (eqb (get_or t.status w 0) status_unknown) (eqb (get_or t.successor w 0) i) o in
          let a : StepAt g.steps t.from t.to w (get_or t.successor w 0) v = rw (eqb-true (get_or t.successor w 0) i y.1) (search_step r l) in
          (suc c.0, chain-follows (b, eqb-true (get_or t.status w 0) status_unknown y.0) a c.1)

  key_range : (e : Edge) → Has (canonical_of g t) (Step e) → e.key ≤ max_key
  unfolding key_fits
  key_range e q =
      let r = canonical_key g.n g.steps t.from t.to t.key (terminal_of t) (closed_of t) q in
      rw r.2 (leb-true (get_or t.key r.0 0) max_key (f.keys r.0 r.1))

  -- The canonical history gives the tables.
  pub founded : Consistent (canonical_of g t) g t
  founded =
      record {
        in_range = λ s q. (has-named q).0;
        keys_in_range = key_range;
        marks = marks_given;
        steps = lists.count;
        from = lists.froms;
        to = lists.tos;
        key = canonical_keys g.n g.steps t.from t.to t.key (terminal_of t) (closed_of t) f.distinct in_key;
        status = statuses_given;
        successor = successors_given;
        into = f.into;
        out_of = f.out_of;
        unvisited = λ s h. (state s h).unvisited;
      }
