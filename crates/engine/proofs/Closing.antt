-- A close leaves the tables right: the statuses, the successors and the news are those of the history with it. Which states are dead then, and the chains of the others, is the search's theorem at the system of the history with the close.
-- Assumes nothing.
use mathlib.Core.Path.{◌≡◌, refl, sym, ◌∙◌, ap, subst}
use mathlib.Core.Logic.{◌⊎◌, inl, inr, ⊎_elim}
use mathlib.Core.Bool.{Bool, true, false, not, cond, ◌&&◌, ◌||◌, false≢true}
use mathlib.Core.List.Memᴰ
use mathlib.Core.List.{List, [], ◌∷◌}
use Prim.Native.Nat.{ℕ, ◌<◌, ◌≤◌}
use native.Mathlib.Omega.{arith}
use native.Mathlib.Decide.{ℕ_discrete}
use lib.Dec.{eqb}
use lib.ListN.{length, get_or, set, length-set}
use lib.Seq.{get_or-set_other}
use borrow.Author.Tests.{eqb-true, eq-eqb, ne_eqb}
use Rattle.gid.specs.declared.Update.TheVariants.{Step, Close}
use Rattle.gid.specs.Updates.{edge}
use Rattle.gid.specs.Histories.{History, IsStep, IsTerminal, IsClosed}
use Rattle.gid.specs.Verdicts.{Reaches, here, Live, DeadByReach}
use Rattle.gid.specs.Statuses.{is_named, is_closed, is_live, is_dead, status, status_open, status_unknown, status_live, status_dead}
use Rattle.gid.specs.News.{settles, news}
use Rattle.gid.specs.Successors.{Having, no_successor}
use Rattle.gid.specs.Systems.{ListedAt, system}
use Rattle.gid.proofs.Decide.{decided, refutes, same_test, decides_or}
use Rattle.gid.proofs.Paths.{path_within, within_newer, join, unsplit}
use Rattle.gid.proofs.Tests.{decides_live, decides_dead, step_close, terminal_close}
use Rattle.gid.proofs.Listing.{arc_step, stays_arc}
use Rattle.gid.proofs.Deadness.{dead_system, dead_continued, live_within, live_terminal, live_source, dead_closed, dead_not_live}
use Rattle.gid.proofs.Statuses.{status-live, status_dead_by_reach, status_unknown_by_reach, status-open, Classified, as_live, as_dead, as_unknown, as_open, as_unseen, classified}
use Rattle.gid.proofs.News.{below_none}
use Rattle.gid.proofs.Chains.{chain_map, successor_rule, same_rule}
use Rattle.gid.proofs.After.{older, same_live_close}
use Rattle.tables.specs.declared.Graph.{Graph}
use Rattle.tables.specs.Tables.{Tables, visited_length}
use Rattle.tables.specs.Visits.{marked}
use Rattle.tables.specs.Fitting.{Consistent}
use Rattle.tables.proofs.Listed.{arcs_listed}
use Rattle.search.specs.declared.spread.Span.{Span}
use Rattle.search.specs.Spreading.{chains, into, out_of, Before}
use Rattle.search.specs.Offering.{Begun}
use Rattle.search.specs.Escaping.{toward, Near}
use Rattle.search.specs.Searches.{SearchTables, Sweeps}
use Rattle.search.proofs.Spreading.{begun_queued, begun_which, begun_here, begun_visited}
use Rattle.search.proofs.Dying.{Endangers, same_starts, chained_undead, Chained, dies_unknown, dies_dead, dies_within, known_kept, goes_all, goes_undead, near_goes}
use Rattle.engine.specs.Effects.{name_at, named_byte}
use Rattle.engine.specs.Judging.{unknown_at, followed_by, begun_with}
use Rattle.engine.specs.Outcomes.{Right}
use Rattle.engine.proofs.Naming.{set_at, named_live}
use Rattle.engine.proofs.Settlement.{status_is, successor_is, none_left, news_are, closed_status}
use Rattle.engine.proofs.Preparing.{Prepared, arc_inside, arcs_into, arcs_out, rule_listed}

-- a test that does not pass fails
fails : (b : Bool) → (b ≡ true → ⊥) → b ≡ false
fails true n = absurd (n refl)
fails false n = refl

-- The close of u, after h.
module _ (h : History) (u : ℕ) where
  closed_now : {s : ℕ} → IsClosed (Close u ∷ h) s → (s ≡ u) ⊎ IsClosed h s
  closed_now {s} m = ⊎_elim (λ e. inl (let q : s ≡ u = cc in q)) (λ q. inr q) (Memᴰ.cases_cons m)

  terminal_was : {s : ℕ} → IsTerminal (Close u ∷ h) s → IsTerminal h s
  terminal_was {s} = older (terminal_close s u)

  step_was : {a b : ℕ} → IsStep (Close u ∷ h) a b → IsStep h a b
  step_was {a} {b} m = (m.0, older (step_close (edge a b m.0) u) m.1)

  path_was : {a b : ℕ} → Reaches (Close u ∷ h) a b → Reaches h a b
  path_was = unsplit (Close u) (λ e. step_close e u)

  -- What is dead stays dead.
  dead_kept : {s : ℕ} → DeadByReach h s → DeadByReach (Close u ∷ h) s
  dead_kept d v p = let q = d v (path_was p) in (Memᴰ.tail q.0, λ t. q.1 (terminal_was t))

  -- Where u is not dead now, nothing becomes dead.
  dead_was : (DeadByReach (Close u ∷ h) u → ⊥) → {s : ℕ} → DeadByReach (Close u ∷ h) s → DeadByReach h s
  dead_was n {s} d v p = (⊎_elim (λ e. absurd (n (through e))) (λ q. q) (closed_now q.0), λ t. q.1 (Memᴰ.tail t))
    where
      q : IsClosed (Close u ∷ h) v × (IsTerminal (Close u ∷ h) v → ⊥)
      q = d v (path_within (within_newer (Close u)) p)

      through : v ≡ u → DeadByReach (Close u ∷ h) u
      through e w r = d w (join (path_within (within_newer (Close u)) (subst (λ (x : ℕ). Reaches h s x) e p)) r)

  same_dead : (DeadByReach (Close u ∷ h) u → ⊥) → (s : ℕ) → is_dead (Close u ∷ h) s ≡ is_dead h s
  same_dead n s = same_test (is_dead (Close u ∷ h) s) (is_dead h s) (decides_dead (Close u ∷ h) s) (decides_dead h s) (dead_was n) dead_kept

  -- The status after the close, of a state that becomes dead (w) or not.
  status_closed : (s : ℕ) (w : Bool) → is_live h u ≡ false → is_dead h u ≡ false → is_dead (Close u ∷ h) s ≡ w || is_dead h s → (w ≡ true → is_live h s ≡ false) → status (Close u ∷ h) s ≡ cond w status_dead (cond (eqb u s) status_unknown (status h s))
  unfolding status is_closed is_named
  status_closed s w l d e f =
      rw (same_live_close h u s, e)
      (sym (closed_status (eqb u s) w (is_live h s) (is_dead h s) (is_closed h s) (is_named h s) at f))
    where
      at : eqb u s ≡ true → (is_live h s ≡ false) × (is_dead h s ≡ false)
      at q = let z = eqb-true u s q in (rw z at l, rw z at d)

  -- Which states the close settles.
  settles_closed : (s : ℕ) (w : Bool) → is_dead (Close u ∷ h) s ≡ w || is_dead h s → (w ≡ true → is_dead h s ≡ false) → settles h (Close u) s ≡ w
  unfolding settles
  settles_closed s w e f = rw (same_live_close h u s, e) (at w (is_live h s) (is_dead h s) f)
    where
      at : (w l d : Bool) → (w ≡ true → d ≡ false) → (l && not l) || ((w || d) && not d) ≡ w
      at true true d f = rw (f refl)
      at true false d f = rw (f refl)
      at false true true f = refl
      at false true false f = refl
      at false false true f = refl
      at false false false f = refl

  -- Where none becomes dead there is no news.
  no_news : (n : ℕ) → ((s : ℕ) → is_dead (Close u ∷ h) s ≡ is_dead h s) → news n h (Close u) ≡ []
  unfolding news
  no_news n e = below_none n (settles h (Close u)) (λ s b. settles_closed s false (e s) (λ q. absurd (false≢true q)))

-- The tables that a search writes, with u named.
abbrev pub named_tables : ℕ → Tables → SearchTables
named_tables u t = record { status = name_at u t.status; successor = t.successor; news = t.news; visited = t.visited; queue = t.queue }

-- Tables that fit, and a state u that is not closed in their history.
module _ {h : History} {g : Graph} {t : Tables} (c : Consistent h g t) (u : ℕ) (range : u < g.n) (unclosed : IsClosed h u → ⊥) (long : g.n ≤ length t.status) where
  -- The statuses once u is named, and once it is unknown.
  named_is : (s : ℕ) → s < g.n → get_or (name_at u t.status) s 0 ≡ cond (eqb u s) (named_byte (status h u)) (status h s)
  named_is s b = set_at t.status u (named_byte (get_or t.status u 0)) (omega arith) s ∙ rw (c.status u range, c.status s b)

  unknown_is : (s : ℕ) → s < g.n → get_or (set (name_at u t.status) u status_unknown) s 0 ≡ cond (eqb u s) status_unknown (status h s)
  unknown_is s b =
      set_at (name_at u t.status) u status_unknown (simp length-set (omega arith)) s ∙ rw (named_is s b) (at (eqb u s))
    where
      at : (e : Bool) → cond e status_unknown (cond e (named_byte (status h u)) (status h s)) ≡ cond e status_unknown (status h s)
      at true = refl
      at false = refl

  unknown_here : get_or (set (name_at u t.status) u status_unknown) u 0 ≡ status_unknown
  unknown_here = unknown_is u range ∙ rw (eq-eqb u u refl)

  unknown_else : (s : ℕ) → s < g.n → (s ≡ u → ⊥) → get_or (set (name_at u t.status) u status_unknown) s 0 ≡ status h s
  unknown_else s b d = unknown_is s b ∙ rw (ne_eqb u s (λ e. d (sym e)))

  -- u was not dead and not unknown, and had no successor
  undead : DeadByReach h u → ⊥
  undead d = unclosed (dead_closed d)

  not_dead : is_dead h u ≡ false
  not_dead = refutes (is_dead h u) (decides_dead h u) undead

  was_known : (s : ℕ) → s < g.n → get_or t.status s 0 ≡ status_unknown → s ≡ u → ⊥
  was_known s b e z = unclosed ((status_unknown_by_reach h u).0 (rw z at (sym (c.status s b) ∙ e))).0

  no-successor : get_or t.successor u 0 ≡ no_successor
  no-successor = c.successor.others u range (λ e. was_known u range e refl)

  -- a state that is open once u is unknown is not closed
  open_else : (s : ℕ) → s < g.n → get_or (set (name_at u t.status) u status_unknown) s 0 ≡ status_open → IsClosed (Close u ∷ h) s → ⊥
  open_else s b e m = at (ℕ_discrete s u)
    where
      at : Dec (s ≡ u) → ⊥
      at (yes z) = let q : get_or (set (name_at u t.status) u status_unknown) u 0 ≡ status_open = rw z at e in omega (arith, unknown_here)
      at (no d) = ⊎_elim d ((status-open h s).0 (sym (unknown_else s b d) ∙ e)).1 (closed_now h u m)

  -- where u was not live, the unknown states are those that are closed now and were neither live nor dead
  module _ (unlive : Live h u → ⊥) where
    unknown_now : (s : ℕ) → s < g.n → get_or (set (name_at u t.status) u status_unknown) s 0 ≡ status_unknown → IsClosed (Close u ∷ h) s × (Live h s → ⊥) × (DeadByReach h s → ⊥)
    unknown_now s b e = at (ℕ_discrete s u)
      where
        at : Dec (s ≡ u) → IsClosed (Close u ∷ h) s × (Live h s → ⊥) × (DeadByReach h s → ⊥)
        at (yes z) = rw z (Memᴰ.head refl, unlive, undead)
        at (no d) = let q = (status_unknown_by_reach h s).0 (sym (unknown_else s b d) ∙ e) in (Memᴰ.tail q.0, q.1, q.2)

    now_unknown : (s : ℕ) → s < g.n → IsClosed (Close u ∷ h) s → (Live h s → ⊥) → (DeadByReach h s → ⊥) → get_or (set (name_at u t.status) u status_unknown) s 0 ≡ status_unknown
    now_unknown s b m l d = at (ℕ_discrete s u)
      where
        at : Dec (s ≡ u) → get_or (set (name_at u t.status) u status_unknown) s 0 ≡ status_unknown
        at (yes z) = rw z unknown_here
        at (no n) = unknown_else s b n ∙ (status_unknown_by_reach h s).1 (⊎_elim (λ e. absurd (n e)) (λ q. q) (closed_now h u m), l, d)

  pub was_live : get_or (name_at u t.status) u 0 ≡ status_live → Live h u
  was_live e = (status-live h u).0 ((named_live true (status h u)).0 (at (eq-eqb u u refl)))
    where
      at : eqb u u ≡ true → named_byte (status h u) ≡ status_live
      at q = (rw q at (sym (named_is u range))) ∙ e

  pub was_unlive : (get_or (name_at u t.status) u 0 ≡ status_live → ⊥) → Live h u → ⊥
  was_unlive n l = n (named_is u range ∙ rw (eq-eqb u u refl, (status-live h u).1 l))

  -- A close of a live state changes nothing.
  module _ (live : Live h u) where
    lives_undead : DeadByReach (Close u ∷ h) u → ⊥
    lives_undead d = dead_not_live d (live_within (within_newer (Close u)) live)

    lives_same : (s : ℕ) → s < g.n → get_or (name_at u t.status) s 0 ≡ get_or t.status s 0
    lives_same s b = named_is s b ∙ at (ℕ_discrete u s) ∙ sym (c.status s b)
      where
        at : Dec (u ≡ s) → cond (eqb u s) (named_byte (status h u)) (status h s) ≡ status h s
        at (yes e) = rw (← e, eq-eqb u u refl, (status-live h u).1 live)
        at (no d) = rw (ne_eqb u s d)

    lives_status : (s : ℕ) → s < g.n → status (Close u ∷ h) s ≡ status h s
    unfolding status is_closed is_named
    lives_status s b = at (ℕ_discrete u s)
      where
        at : Dec (u ≡ s) → status (Close u ∷ h) s ≡ status h s
        at (yes e) = let l : is_live h s ≡ true = rw e at ((decides_live h u).complete live) in rw (same_live_close h u s, l)
        at (no d) = rw (same_live_close h u s, same_dead h u lives_undead s, ne_eqb u s d)

    pub right_lives : Right h (Close u) g.n (named_tables u t) 0
    right_lives =
        record {
          statuses = λ s b. lives_same s b ∙ c.status s b ∙ sym (lives_status s b);
          successors = same_rule g.n (ListedAt h) (ListedAt (Close u ∷ h)) (λ s. get_or t.status s 0) (λ s. get_or (name_at u t.status) s 0) (λ s. get_or t.successor s 0) (λ s p v. stays_arc h (Close u)) lives_same (rule_listed c);
          unvisited = c.unvisited;
          named = sym (no_news h u g.n (same_dead h u lives_undead));
        }

  module _ (unlive : Live h u → ⊥) {m : ℕ} {t' : Tables} (p : Prepared (Close u ∷ h) g.n m t') where
    abbrev stands : List ℕ
    stands = set (name_at u t.status) u status_unknown

    -- where an arc of an unknown state leads
    targets_are : (s v : ℕ) → s < g.n → v < g.n → IsStep h s v → get_or stands s 0 ≡ status_unknown → (get_or stands v 0 ≡ status_open) ⊎ ((get_or stands v 0 ≡ status_unknown) ⊎ (get_or stands v 0 ≡ status_dead))
    targets_are s v b b' q e = at (ℕ_discrete v u)
      where
        by_case : (v ≡ u → ⊥) → {j : ℕ} → status h v ≡ j → Classified h v j → (get_or stands v 0 ≡ status_open) ⊎ ((get_or stands v 0 ≡ status_unknown) ⊎ (get_or stands v 0 ≡ status_dead))
        by_case d z (as_live y l) = absurd ((unknown_now unlive s b e).1 (live_source q l))
        by_case d z (as_dead y l) = inr (inr (unknown_else v b' d ∙ z ∙ y))
        by_case d z (as_unknown y _ _ _) = inr (inl (unknown_else v b' d ∙ z ∙ y))
        by_case d z (as_open y _ _ _) = inl (unknown_else v b' d ∙ z ∙ y)
        by_case d z (as_unseen y n) = absurd (n (Step (edge s v q.0), q.1, inr refl))

        at : Dec (v ≡ u) → (get_or stands v 0 ≡ status_open) ⊎ ((get_or stands v 0 ≡ status_unknown) ⊎ (get_or stands v 0 ≡ status_dead))
        at (yes z) = inr (inl (rw z unknown_here))
        at (no d) = by_case d refl (classified h v)

    -- a state other than u that is unknown was so, and u was open
    old_unknown : (s : ℕ) → Having g.n (λ r. get_or t.status r 0) status_unknown s → Having g.n (λ r. get_or stands r 0) status_unknown s × (s ≡ u → ⊥)
    old_unknown s q = let d = was_known s q.0 q.1 in ((q.0, unknown_else s q.0 d ∙ sym (c.status s q.0) ∙ q.1), d)

    old_open : (s : ℕ) → Having g.n (λ r. get_or t.status r 0) status_open s → Dec (s ≡ u) → Having g.n (λ r. get_or stands r 0) status_open s ⊎ (s ≡ u)
    old_open s o (yes e) = inr e
    old_open s o (no d) = inl (o.0, unknown_else s o.0 d ∙ sym (c.status s o.0) ∙ o.1)

    unknown_was : (s : ℕ) → Having g.n (λ r. get_or stands r 0) status_unknown s → (s ≡ u → ⊥) → Having g.n (λ r. get_or t.status r 0) status_unknown s
    unknown_was s q d = (q.0, c.status s q.0 ∙ sym (unknown_else s q.0 d) ∙ q.1)

    endangers : Endangers (system (Close u ∷ h)) g.n (λ s. s ≡ u) stands t.successor
    endangers =
        record {
          inside = arc_inside p;
          unknown = λ s b e. let q = unknown_now unlive s b e in (q.0, λ z. q.1 (live_terminal (terminal_was h u z)));
          opened = open_else;
          dead = λ s b e. (dead_system (Close u ∷ h)).0 (dead_continued (Close u ∷ []) h (tt, tt) ((status_dead_by_reach h s).0 (sym (unknown_else s b (λ z. not_both e (rw z unknown_here))) ∙ e)));
          targets = λ s i v a e. let b = arc_inside p s i v a in targets_are s v b.0 b.1 (step_was h u (arc_step (Close u ∷ h) a)) e;
          starting = λ s e. rw e (range, unknown_here);
          chained = λ s q d. let r = (rule_listed c).escapes s (unknown_was s q d) in (r.0, chain_map {Next' = λ v w. ListedAt (Close u ∷ h) v (get_or t.successor v 0) w} (λ v o. old_open v o (ℕ_discrete v u)) old_unknown (λ v w x a. stays_arc h (Close u) a) r.2);
        }
      where
        not_both : {k : ℕ} → k ≡ status_dead → k ≡ status_unknown → ⊥
        not_both a b = omega arith

    -- the successors of states that are not unknown
    others_are : (s : ℕ) → s < g.n → (get_or stands s 0 ≡ status_unknown → ⊥) → get_or t.successor s 0 ≡ no_successor
    others_are s b n = c.successor.others s b (λ q. n (old_unknown s (b, q)).0.1)

    -- A near escape: nothing becomes dead.
    module _ (longer : g.n ≤ length t.successor) (few : m < 65535) {i v : ℕ} (arc : out_of (chains g.n m t'.to t'.out_head t'.out_next) u i v) (near : Near g.n (toward m t'.to) stands t.successor v) where
      followed : (r w : ℕ) → Having g.n (λ s. get_or stands s 0) status_unknown r → toward m t'.to r (get_or t.successor r 0) w → (r ≡ u → ⊥) × ListedAt (Close u ∷ h) r (get_or t.successor r 0) w
      followed r w q f = (apart, at ((rule_listed c).listed r (unknown_was r q apart)))
        where
          apart : r ≡ u → ⊥
          apart e = let z : get_or t.successor u 0 < m = rw e at f.0 in omega (arith, no-successor)

          at : (x : ℕ) × ListedAt h r (get_or t.successor r 0) x → ListedAt (Close u ∷ h) r (get_or t.successor r 0) w
          at (x, a) =
              let k = (arcs_listed p.lists r (get_or t.successor r 0) x).1 (stays_arc h (Close u) a) in
              (arcs_listed p.lists r (get_or t.successor r 0) w).0 (f.0, k.1, f.1)

      goes : (s : ℕ) → Having g.n (λ r. get_or stands r 0) status_unknown s → Chained (system (Close u ∷ h)) g.n stands (set t.successor u i) s
      goes = near_goes (system (Close u ∷ h)) (toward m t'.to) u i v endangers ((arcs_out p u i v range).0 arc) longer followed near

      near_undead : DeadByReach (Close u ∷ h) u → ⊥
      near_undead d = chained_undead (system (Close u ∷ h)) g.n stands (set t.successor u i) endangers.opened (goes u (range, unknown_here)) ((dead_system (Close u ∷ h)).0 d)

      pub right_nears : Right h (Close u) g.n (followed_by u i (unknown_at u (named_tables u t))) 0
      right_nears =
          record {
            statuses = λ s b.
                unknown_is s b ∙
                sym
                (status_closed h u s false (refutes (is_live h u) (decides_live h u) unlive) not_dead (same_dead h u near_undead s)
                (λ q. absurd (false≢true q)));
            successors = successor_rule g.n (ListedAt (Close u ∷ h)) (λ s. get_or stands s 0) (λ s. get_or (set t.successor u i) s 0) goes (λ s b n. others s b n (ℕ_discrete s u));
            unvisited = c.unvisited;
            named = sym (no_news h u g.n (same_dead h u near_undead));
          }
        where
          others : (s : ℕ) → s < g.n → (get_or stands s 0 ≡ status_unknown → ⊥) → Dec (s ≡ u) → get_or (set t.successor u i) s 0 ≡ no_successor
          others s b n (yes e) = absurd (n (rw e unknown_here))
          others s b n (no d) = get_or-set_other t.successor u s i 0 d ∙ others_are s b n

    -- The search for the dead.
    module _ {starts : Span} {visited queue : List ℕ} (begun : Begun u t.visited t.queue visited queue starts) (in_v : visited_length g.n ≤ length t.visited) (in_q : g.n ≤ length t.queue) {a : SearchTables} {k : ℕ}
        (w : Sweeps g.n (into (chains g.n m t'.from t'.in_head t'.in_next)) (out_of (chains g.n m t'.to t'.out_head t'.out_next)) starts (begun_with visited queue (unknown_at u (named_tables u t))) a k) where
      abbrev dying : ℕ → Bool
      dying s = marked w.visits₂ s

      started : Endangers (system (Close u ∷ h)) g.n (Before queue starts.len) stands t.successor
      started =
          same_starts (system (Close u ∷ h)) (Before queue starts.len) (λ s e. rw e (begun_here begun g.n range in_v in_q)) (begun_which begun g.n range in_v in_q) endangers

      only : (s : ℕ) → s < g.n → marked visited s ≡ true → Before queue starts.len s
      only s b e = rw (begun_visited begun g.n range in_v in_q s (c.unvisited s b) e) (begun_here begun g.n range in_v in_q)

      within : (s : ℕ) → s < g.n → dying s ≡ true → (w.span.low ≤ s) × (s ≤ w.span.high)
      within = dies_within (system (Close u ∷ h)) started (arcs_into p) (arcs_out p) (begun_queued begun g.n range in_v in_q) only w

      unknowns : (s : ℕ) → s < g.n → dying s ≡ true → get_or stands s 0 ≡ status_unknown
      unknowns = dies_unknown (system (Close u ∷ h)) started (arcs_into p) (arcs_out p) (begun_queued begun g.n range in_v in_q) only w

      status_now : (s : ℕ) → s < g.n → get_or a.status s 0 ≡ cond (dying s) status_dead (get_or stands s 0)
      status_now = status_is w.settle g.n w.spread.queued.top within

      successor_now : (s : ℕ) → s < g.n → get_or a.successor s 0 ≡ cond (dying s) no_successor (get_or w.successor₂ s 0)
      successor_now = successor_is w.settle g.n w.spread.queued.top within

      -- The states that are dead now are those that were, and those that stay visited.
      dead_now : (s : ℕ) → s < g.n → is_dead (Close u ∷ h) s ≡ dying s || is_dead h s
      dead_now s b =
          same_test (is_dead (Close u ∷ h) s) (dying s || is_dead h s) (decides_dead (Close u ∷ h) s)
          (decides_or (dying s) (is_dead h s) {P = dying s ≡ true} (record { sound = λ e. e; complete = λ e. e }) (decides_dead h s))
          (λ d. found d (dying s) refl (decided (is_dead h s) (decides_dead h s)))
          (λ o. ⊎_elim (λ e. (dead_system (Close u ∷ h)).1 (dies_dead (system (Close u ∷ h)) started (arcs_into p) (arcs_out p) (begun_queued begun g.n range in_v in_q) only w s b e)) (dead_continued (Close u ∷ []) h (tt, tt)) o)
        where
          found : DeadByReach (Close u ∷ h) s → (x : Bool) → dying s ≡ x → Dec (DeadByReach h s) → (dying s ≡ true) ⊎ DeadByReach h s
          found d true e q = inl e
          found d false e (yes q) = inr q
          found d false e (no n) =
              let z = now_unknown unlive s b (d s here).0 (λ l. dead_not_live d (live_within (within_newer (Close u)) l)) n in
              absurd (goes_undead (system (Close u ∷ h)) started (arcs_into p) (arcs_out p) (begun_queued begun g.n range in_v in_q) only w s (b, z) e ((dead_system (Close u ∷ h)).0 d))

      unknown_after : (s : ℕ) → Having g.n (λ r. get_or a.status r 0) status_unknown s → (get_or stands s 0 ≡ status_unknown) × (dying s ≡ false)
      unknown_after s q = at (dying s) refl (sym (status_now s q.0) ∙ q.1)
        where
          at : (d : Bool) → dying s ≡ d → cond d status_dead (get_or stands s 0) ≡ status_unknown → (get_or stands s 0 ≡ status_unknown) × (dying s ≡ false)
          at true e z = absurd (omega arith)
          at false e z = (z, e)

      -- an open or unknown state that does not stay visited keeps its status, and such a one its successor
      still : (s j : ℕ) → Having g.n (λ r. get_or stands r 0) j s → dying s ≡ false → Having g.n (λ r. get_or a.status r 0) j s
      still s j q f = (q.0, status_now s q.0 ∙ rw f q.1)

      successor_kept : (s : ℕ) → s < g.n → dying s ≡ false → get_or a.successor s 0 ≡ get_or w.successor₂ s 0
      successor_kept s b f = successor_now s b ∙ rw f

      goes_on : (s : ℕ) → Having g.n (λ r. get_or a.status r 0) status_unknown s → Chained (system (Close u ∷ h)) g.n a.status a.successor s
      goes_on s q =
          let x = unknown_after s q in
          let r = goes_all (system (Close u ∷ h)) started (arcs_into p) (arcs_out p) (begun_queued begun g.n range in_v in_q) only w s (q.0, x.0) x.1 in
          (r.0, chain_map {Next' = λ v e. ListedAt (Close u ∷ h) v (get_or a.successor v 0) e} opens (λ v y. still v status_unknown y.0 y.1) (λ v e y l. rw (successor_kept v y.0.0 y.1) l) r.1)
        where
          opens : (v : ℕ) → Having g.n (λ r. get_or stands r 0) status_open v → Having g.n (λ r. get_or a.status r 0) status_open v
          opens v o = still v status_open o (fails (dying v) (λ e. absurd (omega (arith, unknowns v o.0 e, o.1))))

      others_after : (s : ℕ) → s < g.n → (get_or a.status s 0 ≡ status_unknown → ⊥) → get_or a.successor s 0 ≡ no_successor
      others_after s b n = successor_now s b ∙ at (dying s) refl
        where
          at : (d : Bool) → dying s ≡ d → cond d no_successor (get_or w.successor₂ s 0) ≡ no_successor
          at true e = refl
          at false e =
              let y : get_or stands s 0 ≡ status_unknown → ⊥ = λ z. n (still s status_unknown (b, z) e).1 in
              known_kept (system (Close u ∷ h)) started (arcs_into p) (arcs_out p) (begun_queued begun g.n range in_v in_q) only w s b y ∙ others_are s b y

      pub right_swept : Right h (Close u) g.n a k
      unfolding news
      right_swept =
          record {
            statuses = λ s b.
                status_now s b ∙ ap (λ (y : ℕ). cond (dying s) status_dead y) (unknown_is s b) ∙
                sym
                (status_closed h u s (dying s) (refutes (is_live h u) (decides_live h u) unlive) not_dead (dead_now s b)
                (λ e. refutes (is_live h s) (decides_live h s) (unknown_now unlive s b (unknowns s b e)).1));
            successors = successor_rule g.n (ListedAt (Close u ∷ h)) (λ s. get_or a.status s 0) (λ s. get_or a.successor s 0) goes_on others_after;
            unvisited = none_left w.settle g.n w.spread.queued.top within;
            named =
                news_are w.settle g.n w.spread.queued.top within (settles h (Close u))
                (λ s b. settles_closed h u s (dying s) (dead_now s b) (λ e. refutes (is_dead h s) (decides_dead h s) (unknown_now unlive s b (unknowns s b e)).2));
          }
