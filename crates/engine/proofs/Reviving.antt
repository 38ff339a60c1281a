-- Life after a step or a terminal mark: the search's theorem at the system of the history with it, and where no life spreads nothing becomes live.
-- Assumes nothing.
use mathlib.Core.Path.{◌≡◌, refl, sym, ◌∙◌, ap, subst}
use mathlib.Core.Logic.{◌↔◌, ◌⊎◌, inl, inr, ⊎_elim}
use mathlib.Core.Bool.{Bool, true, false, cond, ◌||◌, false≢true}
use mathlib.Core.List.Memᴰ
use mathlib.Core.List.{List, ◌∷◌}
use Prim.Native.Nat.{ℕ, ◌+◌, ◌<◌, ◌≤◌}
use native.Mathlib.Omega.{arith}
use lib.Dec.{eqb}
use lib.ListN.{length, get_or}
use borrow.Author.Tests.{eqb-true, eqb-false}
use Rattle.gid.specs.declared.Edge.{Edge}
use Rattle.gid.specs.declared.Update.{Update}
use Rattle.gid.specs.declared.Update.TheVariants.{Step, Terminal, Close}
use Rattle.gid.specs.Updates.{edge, source}
use Rattle.gid.specs.Histories.{History, IsStep, IsTerminal}
use Rattle.gid.specs.Verdicts.{Live}
use Rattle.gid.specs.Statuses.{is_live, status_live}
use Rattle.gid.specs.Systems.{system}
use Rattle.gid.proofs.Decide.{refuted, refutes, same_test, decides_or}
use Rattle.gid.proofs.Paths.{within_newer, newest_step, step_cases, same_ends}
use Rattle.gid.proofs.Tests.{decides_live, step_terminal}
use Rattle.gid.proofs.Listing.{arc_step, one_target, stays_arc}
use Rattle.gid.proofs.Deadness.{live_system, live_within, live_terminal, live_source, live_least}
use Rattle.gid.proofs.Statuses.{status-live}
use Rattle.gid.proofs.News.{below_none}
use Rattle.gid.proofs.Pruning.{live_before}
use Rattle.gid.proofs.After.{older}
use Rattle.tables.specs.declared.Graph.{Graph}
use Rattle.tables.specs.Tables.{Tables, visited_length}
use Rattle.tables.specs.Visits.{marked}
use Rattle.tables.specs.Fitting.{Consistent}
use Rattle.search.specs.declared.spread.Span.{Span}
use Rattle.search.specs.Spreading.{chains, into, Before}
use Rattle.search.specs.Offering.{Begun}
use Rattle.search.specs.Searches.{SearchTables, Revives}
use Rattle.search.proofs.Spreading.{begun_which, begun_here, begun_visited}
use Rattle.search.proofs.Living.{Quickens, live_now, visited_new, visited_source, visited_within}
use Rattle.engine.specs.Effects.{names_after}
use Rattle.engine.specs.Preparing.{InRange}
use Rattle.engine.specs.Judging.{unless_live, quickened, begun_with}
use Rattle.engine.specs.Done.{search_tables, naming}
use Rattle.engine.proofs.Naming.{named_live}
use Rattle.engine.proofs.Settlement.{status_is, successor_is, none_left, news_are}
use Rattle.engine.proofs.Preparing.{Prepared, arc_inside, arcs_into}
use Rattle.engine.proofs.Sending.{mentions, names_at, Sent, Spreads}

-- What `unless_live` answers.
pub unless_some : (s : ℕ) (status : List ℕ) (u : ℕ) → unless_live s status ≡ u + 1 → (s ≡ u) × (get_or status u 0 ≡ status_live → ⊥)
unless_some s status u q = at (eqb (get_or status s 0) status_live) refl q
  where
    at : (b : Bool) → eqb (get_or status s 0) status_live ≡ b → cond b 0 (s + 1) ≡ u + 1 → (s ≡ u) × (get_or status u 0 ≡ status_live → ⊥)
    at true e z = absurd (omega arith)
    at false e z = let d : s ≡ u = omega arith in (d, rw d at (eqb-false (get_or status s 0) status_live e))

pub unless_none : (s : ℕ) (status : List ℕ) → unless_live s status ≡ 0 → get_or status s 0 ≡ status_live
unless_none s status q = at (eqb (get_or status s 0) status_live) refl q
  where
    at : (b : Bool) → eqb (get_or status s 0) status_live ≡ b → cond b 0 (s + 1) ≡ 0 → get_or status s 0 ≡ status_live
    at true e z = eqb-true (get_or status s 0) status_live e
    at false e z = absurd (omega arith)

-- Why life spreads from u: it is marked terminal, or has a new step to a live state.
data Quickened (x : Update) (status : List ℕ) (u : ℕ) : Type 0 where
  by_mark : x ≡ Terminal u → Quickened x status u
  by_step : (e : Edge) → x ≡ Step e → e.from ≡ u → get_or status e.to 0 ≡ status_live → Quickened x status u

quickened_is : (x : Update) (status : List ℕ) (u : ℕ) → quickened x status ≡ u + 1 → (get_or status u 0 ≡ status_live → ⊥) × Quickened x status u
unfolding quickened
quickened_is (Step e) status u q = at (eqb (get_or status e.to 0) status_live) refl q
  where
    at : (b : Bool) → eqb (get_or status e.to 0) status_live ≡ b → cond b (unless_live e.from status) 0 ≡ u + 1 → (get_or status u 0 ≡ status_live → ⊥) × Quickened (Step e) status u
    at true z r = let d = unless_some e.from status u r in (d.1, by_step e refl d.0 (eqb-true (get_or status e.to 0) status_live z))
    at false z r = absurd (omega arith)
quickened_is (Terminal s) status u q = let d = unless_some s status u q in (d.1, by_mark (ap Terminal d.0))
quickened_is (Close s) status u q = absurd (omega arith)

quickened_source : {x : Update} {status : List ℕ} {u : ℕ} → Quickened x status u → source x ≡ u
quickened_source (by_mark e) = ap source e
quickened_source (by_step e z d l) = ap source z ∙ d

-- Why no life spreads: its state is live, or a step leads to one that is not.
data Quiet (x : Update) (status : List ℕ) : Type 0 where
  lives : get_or status (source x) 0 ≡ status_live → Quiet x status
  leads : (e : Edge) → x ≡ Step e → (get_or status e.to 0 ≡ status_live → ⊥) → Quiet x status

quickened_none : (x : Update) (status : List ℕ) → Sent x → quickened x status ≡ 0 → Quiet x status
unfolding quickened
quickened_none (Step e) status n q = at (eqb (get_or status e.to 0) status_live) refl q
  where
    at : (b : Bool) → eqb (get_or status e.to 0) status_live ≡ b → cond b (unless_live e.from status) 0 ≡ 0 → Quiet (Step e) status
    at true z r = lives (unless_none e.from status r)
    at false z r = leads e refl (eqb-false (get_or status e.to 0) status_live z)
quickened_none (Terminal u) status n q = lives (unless_none u status q)
quickened_none (Close u) status n q = absurd (n u refl)

-- a step to a state that is not live makes no state live
unjoined : {h : History} (e : Edge) → (Live h e.to → ⊥) → {s : ℕ} → Live (Step e ∷ h) s → Live h s
unjoined {h} e n =
    live_least (Live h) (λ r t. live_terminal (older (λ z. step_terminal e r (sym z)) t))
    (λ a b q p. ⊎_elim (λ z. absurd (n (subst (Live h) (same_ends z.1).1 p))) (λ o. live_source o p) (step_cases q))

source_range : (n : ℕ) (x : Update) → InRange n x → source x < n
source_range n (Step e) r = r.0
source_range n (Terminal u) r = r
source_range n (Close u) r = r

module _ {h : History} {g : Graph} {t : Tables} (c : Consistent h g t) (x : Update) (range : InRange g.n x) (long : g.n ≤ length t.status) where
  -- the named statuses show what is live
  pub live_shown : (s : ℕ) → s < g.n → (get_or (names_after x t.status) s 0 ≡ status_live) ↔ Live h s
  live_shown s q = (
    λ e. (status-live h s).0 (sym (c.status s q) ∙ (named_live (mentions x s) (get_or t.status s 0)).0 (sym (names_at x t.status g.n long range s) ∙ e)),
    λ l. names_at x t.status g.n long range s ∙ (named_live (mentions x s) (get_or t.status s 0)).1 (c.status s q ∙ (status-live h s).1 l),
  )

  -- Where no life spreads, no state becomes live.
  still_dead : Quiet x (names_after x t.status) → (s : ℕ) → Live (x ∷ h) s → Live h s
  still_dead (lives e) s l = live_before {x = x} ((live_shown (source x) (source_range g.n x range)).0 e) l
  still_dead (leads e z n) s l = unjoined e (λ q. n ((live_shown e.to (in_range x range z)).1 q)) (subst (λ (y : Update). Live (y ∷ h) s) z l)
    where
      in_range : (y : Update) → InRange g.n y → y ≡ Step e → e.to < g.n
      in_range y r q = (subst (InRange g.n) q r).1

  pub quiet_spreads : Sent x → quickened x (names_after x t.status) ≡ 0 → {a : SearchTables} {k : ℕ} → a ≡ naming x (search_tables t) → k ≡ 0 → Spreads h x g.n (naming x (search_tables t)) a k (λ s. false)
  quiet_spreads sent q {a} {k} e z =
      record {
        statuses = λ s b. rw e;
        successors = λ s b. rw e;
        unvisited = rw e c.unvisited;
        named = λ f n. rw (z, below_none g.n f n);
        lives = λ s b. same_test (is_live (x ∷ h) s) (is_live h s) (decides_live (x ∷ h) s) (decides_live h s) (still_dead (quickened_none x (names_after x t.status) sent q) s) (live_within (within_newer x));
        new = λ s b n. absurd (false≢true n);
        sources = λ s p v l n o. absurd (false≢true o);
      }

  module _ {m : ℕ} {t' : Tables} (p : Prepared (x ∷ h) g.n m t') (u : ℕ) (q : quickened x (names_after x t.status) ≡ u + 1) {starts : Span} {visited queue : List ℕ} (begun : Begun u t.visited t.queue visited queue starts) (in_v : visited_length g.n ≤ length t.visited) (in_q : g.n ≤ length t.queue) where
    why : (get_or (names_after x t.status) u 0 ≡ status_live → ⊥) × Quickened x (names_after x t.status) u
    why = quickened_is x (names_after x t.status) u q

    inside : u < g.n
    inside = rw (quickened_source why.1) at (source_range g.n x range)

    alive : Quickened x (names_after x t.status) u → Live (x ∷ h) u
    alive (by_mark e) = live_terminal (Memᴰ.head (sym e))
    alive (by_step e z d l) =
        live_source (rw (z, ← d) (newest_step e))
        (live_within (within_newer x) ((live_shown e.to (subst (InRange g.n) z range).1).0 l))

    -- the update's state is the one start
    starts_here : (s : ℕ) → s ≡ source x → Before queue starts.len s
    starts_here s e = rw (e ∙ quickened_source why.1) (begun_here begun g.n inside in_v in_q)

    abbrev status' : ℕ → ℕ
    status' s = get_or (names_after x t.status) s 0

    goal_is : (s : ℕ) → (Terminal s ≡ x) ⊎ IsTerminal h s → ((s < g.n) × (status' s ≡ status_live)) ⊎ Before queue starts.len s
    goal_is s (inl e) = inr (starts_here s (ap source e))
    goal_is s (inr m) = let b = c.in_range s (Terminal s, m, refl) in inl (b, (live_shown s b).1 (live_terminal m))

    source_is : (s v : ℕ) → (s < g.n) × (v < g.n) → status' v ≡ status_live → ((k : ℕ) × (Step (edge s v k) ≡ x)) ⊎ IsStep h s v → (status' s ≡ status_live) ⊎ Before queue starts.len s
    source_is s v b l (inl e) = inr (starts_here s (ap source e.1))
    source_is s v b l (inr m) = inl ((live_shown s b.0).1 (live_source m ((live_shown v b.1).0 l)))

    pub quickens : Quickens (system (x ∷ h)) g.n (into (chains g.n m t'.from t'.in_head t'.in_next)) (names_after x t.status) visited queue starts
    quickens =
        record {
          arcs = arcs_into p;
          inside = arc_inside p;
          single = λ s i v w. one_target (x ∷ h);
          lives = λ s b e. (live_system (x ∷ h)).0 (live_within (within_newer x) ((live_shown s b).0 e));
          goals = λ s m. goal_is s (Memᴰ.cases_cons m);
          sources = λ s i v a e. source_is s v (arc_inside p s i v a) e (step_cases (arc_step (x ∷ h) a));
          starting = λ s b. rw (begun_which begun g.n inside in_v in_q s b) (inside, (live_system (x ∷ h)).0 (alive why.1), why.0);
          marks = λ s b m. rw (begun_visited begun g.n inside in_v in_q s (c.unvisited s b) m) (begun_here begun g.n inside in_v in_q);
        }

    -- Life spreads to the visited states.
    pub revived_spreads : {a : SearchTables} {k : ℕ} (r : Revives g.n (into (chains g.n m t'.from t'.in_head t'.in_next)) starts (begun_with visited queue (naming x (search_tables t))) a k) → Spreads h x g.n (naming x (search_tables t)) a k (marked r.visits)
    revived_spreads {a} {k} r =
        let top = r.spread.queued.top in
        let within = visited_within (system (x ∷ h)) t.successor quickens r.spread in
        record {
          statuses = status_is r.settle g.n top within;
          successors = successor_is r.settle g.n top within;
          unvisited = none_left r.settle g.n top within;
          named = news_are r.settle g.n top within;
          lives = live;
          new = λ s b v. refutes (is_live h s) (decides_live h s) (λ l. visited_new (system (x ∷ h)) t.successor quickens r.spread s b v ((live_shown s b).1 l));
          sources = λ s i v l n w. visited_source (system (x ∷ h)) t.successor quickens r.spread s i v (stays_arc h x l) (λ e. refuted (decides_live h s) n ((live_shown s (arc_inside p s i v (stays_arc h x l)).0).0 e)) w;
        }
      where
        live : (s : ℕ) → s < g.n → is_live (x ∷ h) s ≡ marked r.visits s || is_live h s
        live s b =
            let q = live_now (system (x ∷ h)) t.successor quickens r.spread s b in
            same_test (is_live (x ∷ h) s) (marked r.visits s || is_live h s) (decides_live (x ∷ h) s)
            (decides_or (marked r.visits s) (is_live h s) {P = marked r.visits s ≡ true} (record { sound = λ e. e; complete = λ e. e }) (decides_live h s))
            (λ l. ⊎_elim (λ e. inr ((live_shown s b).0 e)) inl (q.0 ((live_system (x ∷ h)).0 l)))
            (λ o. (live_system (x ∷ h)).1 (q.1 (⊎_elim inr (λ l. inl ((live_shown s b).1 l)) o)))
