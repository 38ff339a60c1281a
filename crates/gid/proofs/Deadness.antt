-- The verdicts of a history are those of its system; so the two forms of dead are equal on legal histories, verdicts stay under every legal continuation, and live and dead go by one step at a time.
-- Assumes nothing.
use mathlib.Core.Path.{refl, sym, subst, ◌∙◌}
use mathlib.Core.Logic.{⊎_elim, ◌↔◌}
use mathlib.Core.List.Memᴰ
use mathlib.Core.List.{[], ◌∷◌, ◌++◌, append_assoc}
use Prim.Native.Nat.{ℕ}
use Rattle.gid.specs.declared.Update.{Update}
use Rattle.gid.specs.declared.Update.TheVariants.{Step, Terminal, Close}
use Rattle.gid.specs.Updates.{edge, source}
use Rattle.gid.specs.Histories.{History, Has, IsStep, IsTerminal, IsClosed, MayFollow, Legal, Continues}
use Rattle.gid.specs.Verdicts.{Reaches, here, along, Live, Dead, DeadByReach}
use Rattle.gid.specs.Systems.{LiveIn, goal, by_arc, ReachesIn, here as at-node, along as by-target, DeadIn, Grows, system}
use Rattle.gid.specs.Statuses.{is_closed}
use Rattle.gid.proofs.Decide.{decided}
use Rattle.gid.proofs.Paths.{Inside, path_within}
use Rattle.gid.proofs.Tests.{decides_closed}
use Rattle.gid.proofs.Listing.{step_arc, arc_step, one_target, within_steps}
use Rattle.gid.proofs.Systems.{live_least as least, dead_greatest as greatest, dead_not_live as apart, dead_grows}

-- The verdicts of a history are those of its system.
module _ (h : History) where
  pub live_system : {s : ℕ} → Live h s ↔ LiveIn (system h) s
  live_system = (λ l. back l.1 (goal l.2), least (system h) (Live h) (λ s t. (s, here, t)) (λ s p t a f. source_of (arc_step h a) (f t a)))
    where
      source_of : {u v : ℕ} → IsStep h u v → Live h v → Live h u
      source_of m l = (l.0, along m l.1, l.2)

      back : {u v : ℕ} → Reaches h u v → LiveIn (system h) v → LiveIn (system h) u
      back here l = l
      back (along m p) l = let a = step_arc h m in by_arc {p = a.0} a.1 (λ v b. subst (LiveIn (system h)) (one_target h a.1 b) (back p l))

  reaches_in : {u v : ℕ} → Reaches h u v → ReachesIn (system h) u v
  reaches_in here = at-node
  reaches_in (along m p) = let a = step_arc h m in by-target {p = a.0} a.1 (reaches_in p)

  reaches_of : {u v : ℕ} → ReachesIn (system h) u v → Reaches h u v
  reaches_of at-node = here
  reaches_of (by-target a p) = along (arc_step h a) (reaches_of p)

  pub dead_system : {s : ℕ} → DeadByReach h s ↔ DeadIn (system h) s
  dead_system = (λ d v p. d v (reaches_of p), λ d v p. d v (reaches_in p))

pub live_within : {h g : History} → Inside h g → {s : ℕ} → Live h s → Live g s
live_within i l = (l.0, path_within i l.1, i _ l.2)

pub within_continued : {h g : History} → Continues h g → Inside h g
within_continued {h} (k, e) x m = subst (λ (g : History). Has g x) (sym e) (Memᴰ.append_right k m)

-- Verdicts stay: what is live stays live.
pub live_stays : {h g : History} {s : ℕ} → Continues h g → Live h s → Live g s
live_stays c l = live_within (within_continued c) l

pub continues_trans : {h g f : History} → Continues h g → Continues g f → Continues h f
continues_trans {h} (k, e) (l, d) = (l ++ k, d ∙ (rw e (sym (append_assoc l k h))))

-- Verdicts stay: what is dead stays dead.
pub dead_stays : {h g : History} {s : ℕ} → Continues h g → Dead h s → Dead g s
dead_stays c d f e = d f (continues_trans c e)

-- The updates of k are legal behind h.
abbrev pub LegalBehind : History → History → Type 0
LegalBehind h [] = Unit {0}
LegalBehind h (y ∷ k) = LegalBehind h k × MayFollow (k ++ h) y

legal_behind : (k h : History) → Legal (k ++ h) → LegalBehind h k
legal_behind [] h l = tt
legal_behind (y ∷ k) h l = (legal_behind k h l.0, l.1)

-- What was sent from a state closed in h was sent by then.
frozen : (k h : History) → LegalBehind h k → (x : Update) → IsClosed h (source x) → Has (k ++ h) x → Has h x
frozen [] h l x c m = m
frozen (y ∷ k) h l x c m = ⊎_elim (λ e. newest x c (subst (λ (z : Update). MayFollow (k ++ h) z) (sym e) l.1)) (frozen k h l.0 x c) (Memᴰ.cases_cons m)
  where
    -- of what is sent from a closed state, a close alone may come again
    newest : (z : Update) → IsClosed h (source z) → MayFollow (k ++ h) z → Has h z
    newest (Step e) q f = absurd (f (Memᴰ.append_right k q))
    newest (Terminal u) q f = absurd (f (Memᴰ.append_right k q))
    newest (Close u) q f = q

-- A legal continuation grows at states that are not closed.
pub grows : (k h : History) → LegalBehind h k → Grows (system h) (system (k ++ h))
grows k h l =
    record {
      arcs = λ s. within_steps h (k ++ h) s (λ t m. (m.0, Memᴰ.append_right k m.1));
      goals = λ s m. Memᴰ.append_right k m;
      finals = λ s m. Memᴰ.append_right k m;
      late_arcs = λ s c. within_steps (k ++ h) h s (λ t m. (m.0, frozen k h l (Step (edge s t m.0)) c m.1));
      late_goals = λ s c m. frozen k h l (Terminal s) c m;
    }

-- So what is dead by reach is dead by reach after it.
pub dead_continued : (k h : History) → LegalBehind h k → {s : ℕ} → DeadByReach h s → DeadByReach (k ++ h) s
dead_continued k h l d = (dead_system (k ++ h)).1 (dead_grows (system h) (system (k ++ h)) (grows k h l) ((dead_system h).0 d))

pub dead_not_live : {h : History} {s : ℕ} → DeadByReach h s → Live h s → ⊥
dead_not_live {h} d l = apart (system h) ((dead_system h).0 d) ((live_system h).0 l)

reach_dead : {h : History} {s : ℕ} → DeadByReach h s → Dead h s
reach_dead {h} {s} d g (k, e) l q =
    dead_not_live (dead_continued k h (legal_behind k h (subst (λ (f : History). Legal f) e l)) d) (subst (λ (f : History). Live f s) e q)

dead_reach : {h : History} {s : ℕ} → Legal h → Dead h s → DeadByReach h s
dead_reach {h} {s} l d v p = (closed (decided (is_closed h v) (decides_closed h v)), λ t. d h ([], refl) l (v, p, t))
  where
    -- an open state could still be marked terminal
    closed : Dec (IsClosed h v) → IsClosed h v
    closed (yes c) = c
    closed (no n) =
        absurd (d (Terminal v ∷ h) (Terminal v ∷ [], refl) (l, n) (v, path_within (λ x m. Memᴰ.tail m) p, Memᴰ.head refl))

-- "Both forms are written and proved equal."
pub dead_equal : {h : History} → Legal h → (s : ℕ) → Dead h s ↔ DeadByReach h s
dead_equal l s = (dead_reach l, reach_dead)

-- Live is the least set that holds the terminal states and, with the target of a step, its source.
pub live_terminal : {h : History} {s : ℕ} → IsTerminal h s → Live h s
live_terminal {s = s} t = (s, here, t)

pub live_source : {h : History} {u v : ℕ} → IsStep h u v → Live h v → Live h u
live_source m l = (l.0, along m l.1, l.2)

pub live_least : {h : History} (P : ℕ → Type 0) → ((s : ℕ) → IsTerminal h s → P s) → ((u v : ℕ) → IsStep h u v → P v → P u) → {s : ℕ} → Live h s → P s
live_least {h} P t c l = least (system h) P t (λ s p v a f. c s v (arc_step h a) (f v a)) ((live_system h).0 l)

-- Dead is the largest set of closed states, none of them terminal, that holds the targets of its members' steps.
pub dead_closed : {h : History} {s : ℕ} → DeadByReach h s → IsClosed h s
dead_closed d = (d _ here).0

pub dead_target : {h : History} {u v : ℕ} → IsStep h u v → DeadByReach h u → DeadByReach h v
dead_target m d w p = d w (along m p)

pub dead_greatest : {h : History} (P : ℕ → Type 0) → ((s : ℕ) → P s → IsClosed h s) → ((s : ℕ) → P s → IsTerminal h s → ⊥) → ((u v : ℕ) → IsStep h u v → P u → P v) → {s : ℕ} → P s → DeadByReach h s
dead_greatest {h} P c t n q = (dead_system h).1 (greatest (system h) P c t (λ s p v a. n s v (arc_step h a)) q)
