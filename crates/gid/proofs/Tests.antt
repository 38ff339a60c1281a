-- The computed tests of specs/Statuses.antt decide the statements of specs/Histories.antt and specs/Verdicts.antt.
-- Assumes nothing.
use mathlib.Core.Path.{◌≡◌, refl, sym, subst}
use mathlib.Core.Logic.{◌⊎◌, inl, inr, ⊎_elim}
use mathlib.Core.Bool.{Bool, ◌&&◌, ◌||◌, not}
use mathlib.Core.List.Memᴰ
use mathlib.Core.List.{[], ◌∷◌}
use Prim.Native.Nat.{ℕ}
use native.Mathlib.Omega.{arith}
use lib.Dec.{eqb}
use Rattle.gid.specs.declared.Edge.{Edge}
use Rattle.gid.specs.declared.Update.{Update}
use Rattle.gid.specs.declared.Update.TheVariants.{Step, Terminal, Close}
use Rattle.gid.specs.Updates.{edge, Mentions}
use Rattle.gid.specs.Histories.{History, Has, IsStep, IsTerminal, IsClosed, IsNamed}
use Rattle.gid.specs.Verdicts.{Reaches, here, along, Live, DeadByReach}
use Rattle.gid.specs.Statuses.{is_named, is_terminal, is_closed, reaches, reaches_mark, is_live, is_stuck, reaches_stuck, is_dead}
use Rattle.gid.proofs.Decide.{Decides, decided, decides_iff, decides_eq, decides_false, decides_or, decides_and, decides_not}
use Rattle.gid.proofs.Paths.{path_within, within_newer, step_within, no_step, newest_step, step_cases, same_ends, join, split, unsplit}

-- no update is of two kinds
pub step_terminal : (e : Edge) (s : ℕ) → Step e ≡ Terminal s → ⊥
step_terminal e s q = let z : ◌≡◌ {A = ℕ} 0 1 = cc in omega arith

pub step_close : (e : Edge) (s : ℕ) → Step e ≡ Close s → ⊥
step_close e s q = let z : ◌≡◌ {A = ℕ} 0 1 = cc in omega arith

pub terminal_close : (u s : ℕ) → Terminal u ≡ Close s → ⊥
terminal_close u s e = let z : ◌≡◌ {A = ℕ} 0 1 = cc in omega arith

-- a newest update that is not x leaves the question whether x is there as it was
skips : {h : History} {b : Bool} (y x : Update) → (x ≡ y → ⊥) → Decides b (Has h x) → Decides b (Has (y ∷ h) x)
skips {h} y x n d = decides_iff d (λ m. Memᴰ.tail m) (λ m. ⊎_elim (λ e. absurd (n e)) (λ m'. m') (Memᴰ.cases_cons m))

-- one that may be x is compared with it
meets : {h : History} {b c : Bool} (y x : Update) → Decides b (x ≡ y) → Decides c (Has h x) → Decides (b || c) (Has (y ∷ h) x)
meets {h} {b} {c} y x d e =
    decides_iff (decides_or b c d e) (λ m. ⊎_elim (λ q. Memᴰ.head q) (λ q. Memᴰ.tail q) m) (λ m. Memᴰ.cases_cons m)

pub decides_terminal : (h : History) (s : ℕ) → Decides (is_terminal h s) (IsTerminal h s)
unfolding is_terminal
decides_terminal [] s = decides_false Memᴰ.not-nil
decides_terminal (Step e ∷ h) s = skips (Step e) (Terminal s) (λ q. step_terminal e s (sym q)) (decides_terminal h s)
decides_terminal (Terminal u ∷ h) s =
    meets (Terminal u) (Terminal s) (decides_iff (decides_eq u s) (λ e. cc) (λ e. cc)) (decides_terminal h s)
decides_terminal (Close u ∷ h) s = skips (Close u) (Terminal s) (terminal_close s u) (decides_terminal h s)

pub decides_closed : (h : History) (s : ℕ) → Decides (is_closed h s) (IsClosed h s)
unfolding is_closed
decides_closed [] s = decides_false Memᴰ.not-nil
decides_closed (Step e ∷ h) s = skips (Step e) (Close s) (λ q. step_close e s (sym q)) (decides_closed h s)
decides_closed (Terminal u ∷ h) s = skips (Terminal u) (Close s) (λ e. terminal_close u s (sym e)) (decides_closed h s)
decides_closed (Close u ∷ h) s = meets (Close u) (Close s) (decides_iff (decides_eq u s) (λ e. cc) (λ e. cc)) (decides_closed h s)

-- named by the newest update, or before
names : {h : History} {b c : Bool} (y : Update) (s : ℕ) → Decides b (Mentions y s) → Decides c (IsNamed h s) → Decides (b || c) (IsNamed (y ∷ h) s)
names {h} {b} {c} y s d e = decides_iff (decides_or b c d e) to of
  where
    to : Mentions y s ⊎ IsNamed h s → IsNamed (y ∷ h) s
    to (inl m) = (y, Memᴰ.head refl, m)
    to (inr m) = (m.0, Memᴰ.tail m.1, m.2)

    pick : (x : Update) → (x ≡ y) ⊎ Has h x → Mentions x s → Mentions y s ⊎ IsNamed h s
    pick x (inl q) m = inl (subst (λ (z : Update). Mentions z s) q m)
    pick x (inr q) m = inr (x, q, m)

    of : IsNamed (y ∷ h) s → Mentions y s ⊎ IsNamed h s
    of m = pick m.0 (Memᴰ.cases_cons m.1) m.2

pub decides_named : (h : History) (s : ℕ) → Decides (is_named h s) (IsNamed h s)
unfolding is_named
decides_named [] s = decides_false (λ m. Memᴰ.not-nil m.1)
decides_named (Step e ∷ h) s =
    names (Step e) s (decides_or (eqb e.from s) (eqb e.to s) (decides_eq e.from s) (decides_eq e.to s)) (decides_named h s)
decides_named (Terminal u ∷ h) s = names (Terminal u) s (decides_eq u s) (decides_named h s)
decides_named (Close u ∷ h) s = names (Close u) s (decides_eq u s) (decides_named h s)

-- with no step, a path is empty
stays : {u w : ℕ} → Reaches [] u w → u ≡ w
stays here = refl
stays (along m p) = absurd (no_step m)

pub decides_reaches : (h : History) (u w : ℕ) → Decides (reaches h u w) (Reaches h u w)
unfolding reaches
decides_reaches [] u w = decides_iff (decides_eq u w) (λ e. subst (λ (x : ℕ). Reaches [] u x) e here) stays
decides_reaches (Step e ∷ h) u w =
    decides_iff
    (decides_or (reaches h u w) (reaches h u e.from && reaches h e.to w) (decides_reaches h u w)
    (decides_and (reaches h u e.from) (reaches h e.to w) (decides_reaches h u e.from) (decides_reaches h e.to w)))
    through
    (split e)
  where
    through : Reaches h u w ⊎ (Reaches h u e.from × Reaches h e.to w) → Reaches (Step e ∷ h) u w
    through (inl p) = path_within (within_newer (Step e)) p
    through (inr p) =
        join (path_within (within_newer (Step e)) p.0) (along (newest_step e) (path_within (within_newer (Step e)) p.1))
decides_reaches (Terminal a ∷ h) u w =
    decides_iff (decides_reaches h u w) (path_within (within_newer (Terminal a))) (unsplit (Terminal a) (λ e. step_terminal e a))
decides_reaches (Close a ∷ h) u w =
    decides_iff (decides_reaches h u w) (path_within (within_newer (Close a))) (unsplit (Close a) (λ e. step_close e a))

-- s reaches, by g's steps, a state that h marks terminal
abbrev ReachesMark : History → ℕ → History → Type 0
ReachesMark g s h = (v : ℕ) × Reaches g s v × IsTerminal h v

mark_older : (g : History) (s : ℕ) {h : History} (y : Update) → ((v : ℕ) → Terminal v ≡ y → ⊥) → {b : Bool} → Decides b (ReachesMark g s h) → Decides b (ReachesMark g s (y ∷ h))
mark_older g s {h} y n d = decides_iff d (λ m. (m.0, m.1, Memᴰ.tail m.2)) of
  where
    of : ReachesMark g s (y ∷ h) → ReachesMark g s h
    of m = (m.0, m.1, ⊎_elim (λ e. absurd (n m.0 e)) (λ q. q) (Memᴰ.cases_cons m.2))

decides_mark : (g : History) (s : ℕ) (h : History) → Decides (reaches_mark g s h) (ReachesMark g s h)
unfolding reaches_mark
decides_mark g s [] = decides_false (λ m. Memᴰ.not-nil m.2)
decides_mark g s (Step e ∷ h) = mark_older g s (Step e) (λ v q. step_terminal e v (sym q)) (decides_mark g s h)
decides_mark g s (Terminal v ∷ h) =
    decides_iff (decides_or (reaches g s v) (reaches_mark g s h) (decides_reaches g s v) (decides_mark g s h)) to of
  where
    to : Reaches g s v ⊎ ReachesMark g s h → ReachesMark g s (Terminal v ∷ h)
    to (inl p) = (v, p, Memᴰ.head refl)
    to (inr m) = (m.0, m.1, Memᴰ.tail m.2)

    pick : (w : ℕ) → Reaches g s w → (Terminal w ≡ Terminal v) ⊎ IsTerminal h w → Reaches g s v ⊎ ReachesMark g s h
    pick w p (inl e) = inl (subst (λ (x : ℕ). Reaches g s x) (let q : w ≡ v = cc in q) p)
    pick w p (inr m) = inr (w, p, m)

    of : ReachesMark g s (Terminal v ∷ h) → Reaches g s v ⊎ ReachesMark g s h
    of m = pick m.0 m.1 (Memᴰ.cases_cons m.2)
decides_mark g s (Close a ∷ h) = mark_older g s (Close a) (λ v e. terminal_close v a e) (decides_mark g s h)

pub decides_live : (h : History) (s : ℕ) → Decides (is_live h s) (Live h s)
unfolding is_live
decides_live h s = decides_mark h s h

-- closed and not terminal
abbrev Stuck : History → ℕ → Type 0
Stuck h v = IsClosed h v × (IsTerminal h v → ⊥)

decides_stuck : (h : History) (v : ℕ) → Decides (is_stuck h v) (Stuck h v)
unfolding is_stuck
decides_stuck h v =
    decides_and (is_closed h v) (not (is_terminal h v)) (decides_closed h v) (decides_not (is_terminal h v) (decides_terminal h v))

-- s, and each target of h's steps that it reaches by g's steps, is stuck in g
abbrev ReachesStuck : History → ℕ → History → Type 0
ReachesStuck g s h = Stuck g s × ((a b : ℕ) → IsStep h a b → Reaches g s b → Stuck g b)

stuck_older : (g : History) (s : ℕ) {h : History} (y : Update) → ((e : Edge) → Step e ≡ y → ⊥) → {b : Bool} → Decides b (ReachesStuck g s h) → Decides b (ReachesStuck g s (y ∷ h))
stuck_older g s {h} y n d = decides_iff d to (λ r. (r.0, λ a b m. r.1 a b (step_within (within_newer y) m)))
  where
    to : ReachesStuck g s h → ReachesStuck g s (y ∷ h)
    to r = (r.0, λ a b m. ⊎_elim (λ e. absurd (n (edge a b e.0) e.1)) (λ m'. r.1 a b m') (step_cases m))

decides_reaches_stuck : (g : History) (s : ℕ) (h : History) → Decides (reaches_stuck g s h) (ReachesStuck g s h)
unfolding reaches_stuck
decides_reaches_stuck g s [] = decides_iff (decides_stuck g s) (λ p. (p, λ a b m. absurd (no_step m))) (λ r. r.0)
decides_reaches_stuck g s (Step e ∷ h) =
    decides_iff
    (decides_and (not (reaches g s e.to) || is_stuck g e.to) (reaches_stuck g s h)
    (decides_or (not (reaches g s e.to)) (is_stuck g e.to) (decides_not (reaches g s e.to) (decides_reaches g s e.to)) (decides_stuck g e.to))
    (decides_reaches_stuck g s h))
    to
    of
  where
    at : {b : ℕ} → b ≡ e.to → ((Reaches g s e.to → ⊥) ⊎ Stuck g e.to) → Reaches g s b → Stuck g b
    at q (inl n) p = absurd (n (subst (λ (x : ℕ). Reaches g s x) q p))
    at q (inr k) p = subst (λ (x : ℕ). Stuck g x) (sym q) k

    to : ((Reaches g s e.to → ⊥) ⊎ Stuck g e.to) × ReachesStuck g s h → ReachesStuck g s (Step e ∷ h)
    to r = (
      r.1.0,
      λ a b m. ⊎_elim (λ z. at (same_ends z.1).1 r.0) (λ m'. r.1.1 a b m') (step_cases m),
    )

    either : Dec (Reaches g s e.to) → (Reaches g s e.to → Stuck g e.to) → (Reaches g s e.to → ⊥) ⊎ Stuck g e.to
    either (yes p) f = inr (f p)
    either (no n) f = inl n

    of : ReachesStuck g s (Step e ∷ h) → ((Reaches g s e.to → ⊥) ⊎ Stuck g e.to) × ReachesStuck g s h
    of r = (
      either (decided (reaches g s e.to) (decides_reaches g s e.to)) (r.1 e.from e.to (newest_step e)),
      (r.0, λ a b m. r.1 a b (step_within (within_newer (Step e)) m)),
    )
decides_reaches_stuck g s (Terminal a ∷ h) = stuck_older g s (Terminal a) (λ e. step_terminal e a) (decides_reaches_stuck g s h)
decides_reaches_stuck g s (Close a ∷ h) = stuck_older g s (Close a) (λ e. step_close e a) (decides_reaches_stuck g s h)

-- a path is empty, or ends in the target of a step
last_step : {h : History} {s v : ℕ} → Reaches h s v → (s ≡ v) ⊎ ((a : ℕ) × IsStep h a v)
last_step here = inl refl
last_step {h} {s} (along {v = w} {w = v} m p) = either (last_step p)
  where
    either : (w ≡ v) ⊎ ((a : ℕ) × IsStep h a v) → (s ≡ v) ⊎ ((a : ℕ) × IsStep h a v)
    either (inl e) = inr (s, subst (λ (x : ℕ). IsStep h s x) e m)
    either (inr q) = inr q

pub decides_dead : (h : History) (s : ℕ) → Decides (is_dead h s) (DeadByReach h s)
unfolding is_dead
decides_dead h s = decides_iff (decides_reaches_stuck h s h) to (λ d. (d s here, λ a b m p. d b p))
  where
    at : ReachesStuck h s h → (v : ℕ) → Reaches h s v → (s ≡ v) ⊎ ((a : ℕ) × IsStep h a v) → Stuck h v
    at r v p (inl e) = subst (λ (x : ℕ). Stuck h x) e r.0
    at r v p (inr q) = r.1 q.0 v q.1 p

    to : ReachesStuck h s h → DeadByReach h s
    to r v p = at r v p (last_step p)
