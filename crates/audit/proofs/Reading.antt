-- What the tests on a state's entries and on a step's say.
-- Assumes nothing.
use mathlib.Core.Path.{◌≡◌, refl}
use mathlib.Core.Logic.{◌⊎◌, inl, inr, ⊎_elim}
use mathlib.Core.Bool.{Bool, true, false, not, cond, ◌&&◌, ◌||◌, false≢true}
use mathlib.Core.List.{List}
use Prim.Native.Nat.{ℕ, ◌<◌, ◌≤◌}
use native.Mathlib.Omega.{arith}
use native.Mathlib.Decide.{ℕ_discrete}
use lib.Dec.{eqb, leb, ltb}
use lib.ListN.{get_or}
use borrow.Author.Tests.{leb-true, le-leb, ltb-true, lt-ltb, not-true}
use Rattle.gid.specs.Statuses.{status_unseen, status_open, status_unknown, status_live, status_dead}
use Rattle.gid.specs.Successors.{no_successor}
use Rattle.gid.proofs.Decide.{Decides, decides_iff, decides_eq, decides_and, decides_or, decides_not, decides_false}
use Rattle.tables.specs.Marks.{has_named, has_terminal, has_closed}
use Rattle.tables.specs.Visits.{marked}
use Rattle.audit.specs.Facts.{suits, mentioned, successor_fits, state_fits, both_named, agrees, step_fits}

-- A status with a byte of marks.
pub data Suited (status mark : ℕ) : Type 0 where
  as_unseen : status ≡ status_unseen → mark ≡ 0 → Suited status mark
  as_open : status ≡ status_open → mark ≡ 1 → Suited status mark
  as_unknown : status ≡ status_unknown → mark ≡ 5 → Suited status mark
  as_dead : status ≡ status_dead → mark ≡ 5 → Suited status mark
  as_live : status ≡ status_live → mark ≤ 7 → has_named mark ≡ true → Suited status mark

abbrev byte_of : ℕ → ℕ
byte_of k = cond (eqb k status_unseen) 0 (cond (eqb k status_open) 1 5)

module _ {k b : ℕ} where
  pub suited_low : Suited k b → b ≤ 7
  suited_low (as_unseen a e) = omega arith
  suited_low (as_open a e) = omega arith
  suited_low (as_unknown a e) = omega arith
  suited_low (as_dead a e) = omega arith
  suited_low (as_live a l e) = l

  -- a terminal state is live, and named
  pub suited_terminal : Suited k b → has_terminal b ≡ true → (k ≡ status_live) × (has_named b ≡ true)
  suited_terminal (as_unseen a e) q = absurd (false≢true (rw e at q))
  suited_terminal (as_open a e) q = absurd (false≢true (rw e at q))
  suited_terminal (as_unknown a e) q = absurd (false≢true (rw e at q))
  suited_terminal (as_dead a e) q = absurd (false≢true (rw e at q))
  suited_terminal (as_live a l e) q = (a, e)

  -- a closed one is named
  pub suited_closed : Suited k b → has_closed b ≡ true → has_named b ≡ true
  suited_closed (as_unseen a e) q = absurd (false≢true (rw e at q))
  suited_closed (as_open a e) q = rw e
  suited_closed (as_unknown a e) q = rw e
  suited_closed (as_dead a e) q = rw e
  suited_closed (as_live a l e) q = e

  -- a status other than live has one byte
  pub suited_byte : Suited k b → (k ≡ status_live → ⊥) → b ≡ byte_of k
  suited_byte (as_unseen a e) n = rw (a, e)
  suited_byte (as_open a e) n = rw (a, e)
  suited_byte (as_unknown a e) n = rw (a, e)
  suited_byte (as_dead a e) n = rw (a, e)
  suited_byte (as_live a l e) n = absurd (n a)

-- a test that is chosen by another
chosen : (b : Bool) {P Q R : Type 0} {x y : Bool} → Decides b P → Decides x Q → Decides y R → Decides (cond b x y) ((P × Q) ⊎ ((P → ⊥) × R))
chosen true d e f = record { sound = λ z. inl (d.sound refl, e.sound z); complete = λ z. ⊎_elim (λ q. e.complete q.1) (λ q. absurd (q.0 (d.sound refl))) z }
chosen false d e f =
    record {
      sound = λ z. inr (λ p. false≢true (d.complete p), f.sound z);
      complete = λ z. ⊎_elim (λ q. absurd (false≢true (d.complete q.0))) (λ q. f.complete q.1) z;
    }

pub decides_same : (b : Bool) → Decides b (b ≡ true)
decides_same b = record { sound = λ e. e; complete = λ e. e }

pub both_true : (a b : Bool) → a && b ≡ true → (a ≡ true) × (b ≡ true)
both_true a b = (decides_and a b (decides_same a) (decides_same b)).sound

decides_le : (a b : ℕ) → Decides (leb a b) (a ≤ b)
decides_le a b = record { sound = leb-true a b; complete = le-leb a b }

decides_lt : (a b : ℕ) → Decides (ltb a b) (a < b)
decides_lt a b = record { sound = ltb-true a b; complete = lt-ltb a b }

pub decides_suits : (k m : ℕ) → Decides (suits k m) (Suited k m)
unfolding suits
decides_suits k m =
    decides_iff
    (chosen (eqb k status_unseen) (decides_eq k status_unseen) (decides_eq m 0)
    (chosen (eqb k status_open) (decides_eq k status_open) (decides_eq m 1)
    (chosen (eqb k status_unknown) (decides_eq k status_unknown) (decides_eq m 5)
    (chosen (eqb k status_dead) (decides_eq k status_dead) (decides_eq m 5)
    (chosen (eqb k status_live) (decides_eq k status_live) (decides_and (leb m 7) (has_named m) (decides_le m 7) (decides_same (has_named m))) (decides_false {P = ⊥} (λ z. z)))))))
    to
    of
  where
    to : ((k ≡ 0) × (m ≡ 0)) ⊎ ((k ≡ 0 → ⊥) × (((k ≡ 1) × (m ≡ 1)) ⊎ ((k ≡ 1 → ⊥) × (((k ≡ 2) × (m ≡ 5)) ⊎ ((k ≡ 2 → ⊥) × (((k ≡ 4) × (m ≡ 5)) ⊎ ((k ≡ 4 → ⊥) × (((k ≡ 3) × ((m ≤ 7) × (has_named m ≡ true))) ⊎ ((k ≡ 3 → ⊥) × ⊥))))))))) → Suited k m
    to (inl q) = as_unseen q.0 q.1
    to (inr (_, inl q)) = as_open q.0 q.1
    to (inr (_, inr (_, inl q))) = as_unknown q.0 q.1
    to (inr (_, inr (_, inr (_, inl q)))) = as_dead q.0 q.1
    to (inr (_, inr (_, inr (_, inr (_, inl q))))) = as_live q.0 q.1.0 q.1.1
    to (inr (_, inr (_, inr (_, inr (_, inr q))))) = absurd q.1

    of : Suited k m → ((k ≡ 0) × (m ≡ 0)) ⊎ ((k ≡ 0 → ⊥) × (((k ≡ 1) × (m ≡ 1)) ⊎ ((k ≡ 1 → ⊥) × (((k ≡ 2) × (m ≡ 5)) ⊎ ((k ≡ 2 → ⊥) × (((k ≡ 4) × (m ≡ 5)) ⊎ ((k ≡ 4 → ⊥) × (((k ≡ 3) × ((m ≤ 7) × (has_named m ≡ true))) ⊎ ((k ≡ 3 → ⊥) × ⊥)))))))))
    of (as_unseen a b) = inl (a, b)
    of (as_open a b) = inr (λ z. absurd (omega arith), inl (a, b))
    of (as_unknown a b) = inr (λ z. absurd (omega arith), inr (λ z. absurd (omega arith), inl (a, b)))
    of (as_dead a b) = inr (λ z. absurd (omega arith), inr (λ z. absurd (omega arith), inr (λ z. absurd (omega arith), inl (a, b))))
    of (as_live a b c) = inr (λ z. absurd (omega arith), inr (λ z. absurd (omega arith), inr (λ z. absurd (omega arith), inr (λ z. absurd (omega arith), inl (a, (b, c))))))

decides_mentioned : (mark i o : ℕ) → Decides (mentioned mark i o) (mark ≡ 1 → i ≡ 0 → o ≡ 0 → ⊥)
unfolding mentioned
decides_mentioned mark i o =
    decides_iff
    (decides_or (not (eqb mark 1)) (not (eqb i 0) || not (eqb o 0)) (decides_not (eqb mark 1) (decides_eq mark 1))
    (decides_or (not (eqb i 0)) (not (eqb o 0)) (decides_not (eqb i 0) (decides_eq i 0)) (decides_not (eqb o 0) (decides_eq o 0))))
    (λ q a b c. ⊎_elim (λ z. z a) (⊎_elim (λ z. z b) (λ z. z c)) q)
    (λ q. of q (ℕ_discrete mark 1) (ℕ_discrete i 0))
  where
    of : (mark ≡ 1 → i ≡ 0 → o ≡ 0 → ⊥) → Dec (mark ≡ 1) → Dec (i ≡ 0) → (mark ≡ 1 → ⊥) ⊎ ((i ≡ 0 → ⊥) ⊎ (o ≡ 0 → ⊥))
    of q (no d) e = inl d
    of q (yes a) (no d) = inr (inl d)
    of q (yes a) (yes b) = inr (inr (q a b))

-- the successor p of the state s with the status k
abbrev SuccessorSays : ℕ → List ℕ → ℕ → ℕ → ℕ → Type 0
SuccessorSays m from s k p = (k ≡ status_unknown → (p < m) × (get_or from p 0 ≡ s)) × ((k ≡ status_unknown → ⊥) → p ≡ no_successor)

decides_successor : (m : ℕ) (from : List ℕ) (s k p : ℕ) → Decides (successor_fits m from s k p) (SuccessorSays m from s k p)
unfolding successor_fits
decides_successor m from s k p =
    decides_iff
    (chosen (eqb k status_unknown) (decides_eq k status_unknown)
    (decides_and (ltb p m) (eqb (get_or from p 0) s) (decides_lt p m) (decides_eq (get_or from p 0) s)) (decides_eq p no_successor))
    to
    (λ q. of q (ℕ_discrete k status_unknown))
  where
    to : ((k ≡ status_unknown) × ((p < m) × (get_or from p 0 ≡ s))) ⊎ ((k ≡ status_unknown → ⊥) × (p ≡ no_successor)) → SuccessorSays m from s k p
    to (inl q) = (λ z. q.1, λ z. absurd (z q.0))
    to (inr q) = (λ z. absurd (q.0 z), λ z. q.1)

    of : SuccessorSays m from s k p → Dec (k ≡ status_unknown) → ((k ≡ status_unknown) × ((p < m) × (get_or from p 0 ≡ s))) ⊎ ((k ≡ status_unknown → ⊥) × (p ≡ no_successor))
    of q (yes e) = inl (e, q.0 e)
    of q (no d) = inr (d, q.1 d)

-- What the test of a state's entries says.
pub record StateFacts (m : ℕ) (status marks from successor in_head out_head visited : List ℕ) (s : ℕ) : Type 0 where
  pub unvisited : marked visited s ≡ false
  pub suited : Suited (get_or status s 0) (get_or marks s 0)
  pub named : get_or marks s 0 ≡ 1 → get_or in_head s 0 ≡ 0 → get_or out_head s 0 ≡ 0 → ⊥
  pub follows : SuccessorSays m from s (get_or status s 0) (get_or successor s 0)

pub decides_state : (m : ℕ) (status marks from successor in_head out_head visited : List ℕ) (s : ℕ) → Decides (state_fits m status marks from successor in_head out_head visited s) (StateFacts m status marks from successor in_head out_head visited s)
unfolding state_fits
decides_state m status marks from successor in_head out_head visited s =
    let k = get_or status s 0 in
    let b = get_or marks s 0 in
    decides_iff
    (decides_and (not (marked visited s)) _ (decides_same (not (marked visited s)))
    (decides_and (suits k b) _ (decides_suits k b)
    (decides_and (mentioned b (get_or in_head s 0) (get_or out_head s 0)) _ (decides_mentioned b (get_or in_head s 0) (get_or out_head s 0)) (decides_successor m from s k (get_or successor s 0)))))
    (λ q. record { unvisited = not-true (marked visited s) q.0; suited = q.1.0; named = q.1.1.0; follows = q.1.1.1 })
    (λ q. (rw q.unvisited, (q.suited, (q.named, q.follows))))

-- What the test of a step from u to v says.
pub record StepFacts (n : ℕ) (status marks : List ℕ) (u v : ℕ) : Type 0 where
  pub source : u < n
  pub target : v < n
  pub source_named : has_named (get_or marks u 0) ≡ true
  pub target_named : has_named (get_or marks v 0) ≡ true
  pub lives : get_or status v 0 ≡ status_live → get_or status u 0 ≡ status_live
  pub deads : get_or status u 0 ≡ status_dead → get_or status v 0 ≡ status_dead

abbrev StatusesAgree : ℕ → ℕ → Type 0
StatusesAgree a b = (b ≡ status_live → a ≡ status_live) × (a ≡ status_dead → b ≡ status_dead)

decides_agrees : (a b : ℕ) → Decides (agrees a b) (StatusesAgree a b)
unfolding agrees
decides_agrees a b =
    decides_iff
    (chosen (eqb b status_live) (decides_eq b status_live) (decides_eq a status_live)
    (chosen (eqb a status_dead) (decides_eq a status_dead) (decides_eq b status_dead) (decides_same true)))
    to
    (λ q. of q (ℕ_discrete b status_live) (ℕ_discrete a status_dead))
  where
    to : ((b ≡ status_live) × (a ≡ status_live)) ⊎ ((b ≡ status_live → ⊥) × (((a ≡ status_dead) × (b ≡ status_dead)) ⊎ ((a ≡ status_dead → ⊥) × (true ≡ true)))) → StatusesAgree a b
    to (inl (e, f)) = (λ z. f, λ z. absurd (omega arith))
    to (inr (d, inl (e, f))) = (λ z. absurd (d z), λ z. f)
    to (inr (d, inr (e, f))) = (λ z. absurd (d z), λ z. absurd (e z))

    of : StatusesAgree a b → Dec (b ≡ status_live) → Dec (a ≡ status_dead) → ((b ≡ status_live) × (a ≡ status_live)) ⊎ ((b ≡ status_live → ⊥) × (((a ≡ status_dead) × (b ≡ status_dead)) ⊎ ((a ≡ status_dead → ⊥) × (true ≡ true))))
    of q (yes e) f = inl (e, q.0 e)
    of q (no d) (yes f) = inr (d, inl (f, q.1 f))
    of q (no d) (no f) = inr (d, inr (f, refl))

pub decides_step : (n : ℕ) (status marks : List ℕ) (u v : ℕ) → Decides (step_fits n status marks u v) (StepFacts n status marks u v)
unfolding step_fits both_named
decides_step n status marks u v =
    let a = get_or marks u 0 in
    let b = get_or marks v 0 in
    decides_iff
    (decides_and (ltb u n) _ (decides_lt u n)
    (decides_and (ltb v n) _ (decides_lt v n)
    (decides_and (has_named a && has_named b) _ (decides_and (has_named a) (has_named b) (decides_same (has_named a)) (decides_same (has_named b))) (decides_agrees (get_or status u 0) (get_or status v 0)))))
    (λ q. record { source = q.0; target = q.1.0; source_named = q.1.1.0.0; target_named = q.1.1.0.1; lives = q.1.1.1.0; deads = q.1.1.1.1 })
    (λ q. (q.source, (q.target, ((q.source_named, q.target_named), (q.lives, q.deads)))))
