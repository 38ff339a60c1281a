-- Tables that some legal history gives have the facts.
-- Assumes nothing.
use mathlib.Core.Path.{◌≡◌, refl, sym, ◌∙◌, subst}
use mathlib.Core.Logic.{inl, inr}
use mathlib.Core.Bool.{Bool, true, false, false≢true}
use mathlib.Core.List.{List}
use Prim.Native.Nat.{ℕ, ◌+◌, ◌<◌, ◌≤◌}
use native.Mathlib.Omega.{arith}
use lib.ListN.{get_or}
use borrow.Author.Tests.{eq-eqb, le-leb}
use Rattle.gid.specs.declared.Update.{Update}
use Rattle.gid.specs.declared.Update.TheVariants.{Step, Terminal, Close}
use Rattle.gid.specs.Updates.{edge, Mentions}
use Rattle.gid.specs.Histories.{History, Has, IsTerminal, IsClosed, IsNamed}
use Rattle.gid.specs.Verdicts.{Reaches, here, along, Live}
use Rattle.gid.specs.Statuses.{is_named, is_terminal, is_closed, status, status_open, status_unknown, status_live}
use Rattle.gid.specs.Successors.{Chain, ends as chain-ends, follows as chain-follows, Having}
use Rattle.gid.proofs.Decide.{refutes}
use Rattle.gid.specs.Refusals.{max_key}
use Rattle.gid.proofs.Tests.{decides_named, decides_terminal, decides_closed}
use Rattle.gid.proofs.Deadness.{live_terminal, live_source, dead_closed, dead_target, dead_not_live}
use Rattle.gid.proofs.Statuses.{live_named, closed_named, Classified, as_live as is_live, as_dead as is-dead, as_unknown as is-unknown, as_open as is_open, as_unseen as is-unseen, classified, status-live, status_dead_by_reach}
use Rattle.tables.specs.declared.Graph.{Graph}
use Rattle.tables.specs.Tables.{Tables}
use Rattle.tables.specs.Marks.{has_named, has_terminal, has_closed}
use Rattle.tables.specs.Work.{ListRule}
use Rattle.tables.specs.Fitting.{StepAt, marks_of, Consistent}
use Rattle.tables.proofs.Bits.{bits, byte, marks_bits, decides_closed_mark}
use Rattle.tables.proofs.Listed.{lists_of, step_in_list, list_has_step, listed_key, consistent_distinct}
use Rattle.adjacency.proofs.Walks.{linked, meets_none, clamp_keeps}
use Rattle.search.specs.Spreading.{Tree, Claimed, start, back}
use Rattle.audit.specs.Facts.{starts, Backed, steps_into, key_fits, TableFacts}
use Rattle.audit.proofs.Reading.{Suited, as_unseen, as_open, as_unknown, as_dead, as_live, StateFacts, decides_state, StepFacts, decides_step}

-- The byte of each status.
module _ (h : History) (s : ℕ) where
  marks_are : {a b c : Bool} → is_named h s ≡ a → is_terminal h s ≡ b → is_closed h s ≡ c → marks_of h s ≡ bits a b c
  unfolding marks_of bits
  marks_are p q r = rw (p, q, r)

  named : IsNamed h s → is_named h s ≡ true
  named = (decides_named h s).complete

  unlive : (Live h s → ⊥) → is_terminal h s ≡ false
  unlive n = refutes (is_terminal h s) (decides_terminal h s) (λ t. n (live_terminal t))

  shut : IsClosed h s → is_closed h s ≡ true
  shut = (decides_closed h s).complete

  low : marks_of h s ≤ 7
  low = rw (marks_are refl refl refl) (byte (is_named h s) (is_terminal h s) (is_closed h s)).low

  -- Each status has its byte of marks.
  suited : Suited (status h s) (marks_of h s)
  unfolding bits
  suited = at (classified h s)
    where
      at : {k : ℕ} → Classified h s k → Suited k (marks_of h s)
      at (is_live e l) = as_live e low ((marks_bits h s).0 ∙ named (live_named l))
      at (is-dead e d) = as_dead e (marks_are (named (closed_named (dead_closed d))) (unlive (dead_not_live d)) (shut (dead_closed d)))
      at (is-unknown e c l d) = as_unknown e (marks_are (named (closed_named c)) (unlive l) (shut c))
      at (is_open e n c l) = as_open e (marks_are (named n) (unlive l) (refutes (is_closed h s) (decides_closed h s) c))
      at (is-unseen e n) =
          as_unseen e
          (marks_are (refutes (is_named h s) (decides_named h s) n) (unlive (λ l. n (live_named l))) (refutes (is_closed h s) (decides_closed h s) (λ c. n (closed_named c))))

module _ {h : History} {g : Graph} {t : Tables} (c : Consistent h g t) where
  -- the marks that the tables have
  named_mark : (s : ℕ) → s < g.n → IsNamed h s → has_named (get_or t.marks s 0) ≡ true
  named_mark s k q = rw (c.marks s k) ((marks_bits h s).0 ∙ (decides_named h s).complete q)

  terminal_mark : (s : ℕ) → s < g.n → IsTerminal h s → has_terminal (get_or t.marks s 0) ≡ true
  terminal_mark s k q = rw (c.marks s k) ((marks_bits h s).1 ∙ (decides_terminal h s).complete q)

  closed_mark : (s : ℕ) → s < g.n → IsClosed h s → has_closed (get_or t.marks s 0) ≡ true
  closed_mark s k q = (decides_closed_mark c s k).complete q

  mark_named : (s : ℕ) → s < g.n → has_named (get_or t.marks s 0) ≡ true → IsNamed h s
  mark_named s k e = (decides_named h s).sound (sym (marks_bits h s).0 ∙ rw (c.marks s k) at e)

  -- a state that is only named is an end of a step
  head_some : (s : ℕ) → s < g.n → get_or t.marks s 0 ≡ 1 → get_or t.in_head s 0 ≡ 0 → get_or t.out_head s 0 ≡ 0 → ⊥
  head_some s k e i o = let q = mark_named s k (rw e) in met q.0 q.1 q.2
    where
      -- a list with a step is not empty
      unlisted : {ends head next : List ℕ} → ListRule g.n g.steps ends head next → get_or head s 0 ≡ 0 → {p : ℕ} → p < g.steps → get_or ends p 0 ≡ s → ⊥
      unlisted r z {p} l y = meets_none (rw (z, clamp_keeps 0 (g.steps + 1) (omega arith)) at ((linked r s k p).1 (l, y)))

      met : (x : Update) → Has h x → Mentions x s → ⊥
      met (Step d) q (inl z) = let r = step_in_list (lists_of c) d.from d.to (d.key, q) in unlisted c.out_of o r.1.0 (r.1.1 ∙ z)
      met (Step d) q (inr z) = let r = step_in_list (lists_of c) d.from d.to (d.key, q) in unlisted c.into i r.1.0 (r.1.2 ∙ z)
      met (Terminal u) q z = false≢true (rw e at (terminal_mark s k (subst (IsTerminal h) z q)))
      met (Close u) q z = false≢true (rw e at (closed_mark s k (subst (IsClosed h) z q)))

  state : (s : ℕ) → s < g.n → StateFacts g.steps t.status t.marks t.from t.successor t.in_head t.out_head t.visited s
  state s k =
      record {
        unvisited = c.unvisited s k;
        suited = rw (c.status s k, c.marks s k) (suited h s);
        named = head_some s k;
        follows = (λ e. let r = (c.successor.listed s (k, e)).1 in (r.0, r.1), λ n. c.successor.others s k n);
      }

  step : (p : ℕ) → p < g.steps → StepFacts g.n t.status t.marks (get_or t.from p 0) (get_or t.to p 0)
  step p k =
      let u = get_or t.from p 0 in
      let v = get_or t.to p 0 in
      let q = list_has_step (lists_of c) (k, refl, refl) in
      let a : IsNamed h u = (Step (edge u v q.0), q.1, inl refl) in
      let b : IsNamed h v = (Step (edge u v q.0), q.1, inr refl) in
      let i = c.in_range u a in
      let j = c.in_range v b in
      record {
        source = i;
        target = j;
        source_named = named_mark u i a;
        target_named = named_mark v j b;
        lives = λ e. c.status u i ∙ (status-live h u).1 (live_source q ((status-live h v).0 (sym (c.status v j) ∙ e)));
        deads = λ e. c.status v j ∙ (status_dead_by_reach h v).1 (dead_target q ((status_dead_by_reach h u).0 (sym (c.status u i) ∙ e)));
      }

  -- A walk over the steps into a state meets each of them.
  walked : {s p v : ℕ} → StepAt g.steps t.from t.to s p v → steps_into g.n g.steps t s p v
  walked {s} {p} {v} a =
      let q = list_has_step (lists_of c) a in
      ((linked c.into v (c.in_range v (Step (edge s v q.0), q.1, inr refl)) p).1 (a.0, a.2), a.1)

  -- A live state is reached backwards from a terminal one, through live states.
  live_backed : {s v : ℕ} → Reaches h s v → IsTerminal h v → s < g.n → Backed g.n (steps_into g.n g.steps t) Claimed status_live t.status t.marks t.successor s
  unfolding starts
  live_backed {s} here e k = start (k, terminal_mark s k e)
  live_backed {s} (along {v = w} q p) e k =
      let r = step_in_list (lists_of c) s w q in
      back (live_backed p e (c.in_range w (Step (edge s w q.0), q.1, inr refl))) (walked r.1) k
      (eq-eqb (get_or t.status s 0) status_live (c.status s k ∙ (status-live h s).1 (_, along q p, e)))

  -- An unknown state is reached backwards from an open one, by successors.
  chain_backed : {s k : ℕ} → Chain (Having g.n (λ r. get_or t.status r 0) status_unknown) (Having g.n (λ r. get_or t.status r 0) status_open) (λ r v. StepAt g.steps t.from t.to r (get_or t.successor r 0) v) s k → Backed g.n (steps_into g.n g.steps t) Tree status_unknown t.status t.marks t.successor s
  unfolding starts
  chain_backed {s} (chain-ends (k, e)) = start (k, eq-eqb (get_or t.status s 0) status_open e)
  chain_backed {s} (chain-follows (k, e) a q) =
      let p = get_or t.successor s 0 in
      back (chain_backed q) (walked a) k (rw (eq-eqb (get_or t.status s 0) status_unknown e) (eq-eqb p p refl))

  pub met : TableFacts g.n g.steps t
  unfolding key_fits
  met =
      record {
        states = λ s k. (decides_state g.steps t.status t.marks t.from t.successor t.in_head t.out_head t.visited s).complete (state s k);
        steps = λ p k. (decides_step g.n t.status t.marks (get_or t.from p 0) (get_or t.to p 0)).complete (step p k);
        keys = λ p k. le-leb (get_or t.key p 0) max_key (listed_key c p k);
        distinct = consistent_distinct c;
        into = c.into;
        out_of = c.out_of;
        lives = λ s k e. let l = (status-live h s).0 (sym (c.status s k) ∙ e) in live_backed l.1 l.2 k;
        escapes = λ s k e. chain_backed (c.successor.escapes s (k, e)).2;
      }
