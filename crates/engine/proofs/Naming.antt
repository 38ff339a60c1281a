-- The marks after an update are those of the history with it, and naming a state makes none live.
-- Assumes nothing.
use mathlib.Core.Path.{◌≡◌, refl, sym, ◌∙◌, ap}
use mathlib.Core.Logic.{◌↔◌}
use mathlib.Core.Bool.{Bool, true, false, cond, ◌&&◌, ◌||◌, and-true, and-false}
use mathlib.Core.List.{List, ◌∷◌}
use Prim.Native.Nat.{ℕ, ◌<◌, ◌≤◌}
use native.Mathlib.Omega.{arith}
use native.Mathlib.Decide.{ℕ_discrete}
use lib.Dec.{eqb}
use lib.ListN.{length, get_or, set, length-set}
use lib.Seq.{get_or-set_same, get_or-set_other}
use borrow.Author.Tests.{eq-eqb, ne_eqb}
use Rattle.gid.specs.declared.Update.{Update}
use Rattle.gid.specs.declared.Update.TheVariants.{Step, Terminal, Close}
use Rattle.gid.specs.Histories.{History}
use Rattle.gid.specs.Statuses.{is_named, is_terminal, is_closed, status_unseen, status_open, status_live}
use Rattle.tables.specs.Marks.{with_named, with_terminal, with_closed}
use Rattle.tables.specs.Fitting.{marks_of}
use Rattle.tables.proofs.Bits.{bits, byte}
use Rattle.engine.specs.Effects.{mark_at, set_marks, named_byte}
use Rattle.engine.specs.Preparing.{InRange}

-- an entry after a store at u
pub set_at : (l : List ℕ) (u v : ℕ) → u < length l → (s : ℕ) → get_or (set l u v) s 0 ≡ cond (eqb u s) v (get_or l s 0)
set_at l u v h s = at (ℕ_discrete s u)
  where
    at : Dec (s ≡ u) → get_or (set l u v) s 0 ≡ cond (eqb u s) v (get_or l s 0)
    at (yes e) = rw (e, eq-eqb u u refl, get_or-set_same l u v 0 h)
    at (no d) = rw (ne_eqb u s (λ e. d (sym e)), get_or-set_other l u s v 0 d)

-- a live state stays so when it is named, and no other becomes so
pub named_live : (m : Bool) (k : ℕ) → (cond m (named_byte k) k ≡ status_live) ↔ (k ≡ status_live)
named_live false k = (λ e. e, λ e. e)
named_live true k = (λ e. at (eqb k status_unseen) e, λ e. rw e)
  where
    at : (c : Bool) → cond c status_open k ≡ status_live → k ≡ status_live
    at true q = absurd (omega arith)
    at false q = q

module _ (marks : List ℕ) (n u : ℕ) (long : n ≤ length marks) (range : u < n) (N T C : ℕ → Bool) (given : (s : ℕ) → s < n → get_or marks s 0 ≡ bits (N s) (T s) (C s)) where
  -- a mark set at u: one of the three, by which of a, b and c is true
  mark_set : (f : ℕ → ℕ) (a b c : Bool) → ((x y z : Bool) → f (bits x y z) ≡ bits (a || x) (b || y) (c || z)) → (s : ℕ) → s < n → get_or (mark_at f u marks) s 0 ≡ bits (a && eqb u s || N s) (b && eqb u s || T s) (c && eqb u s || C s)
  mark_set f a b c e s h = rw (set_at marks u (f (get_or marks u 0)) (omega arith) s, given u range, given s h) (at (ℕ_discrete u s))
    where
      at : Dec (u ≡ s) → cond (eqb u s) (f (bits (N u) (T u) (C u))) (bits (N s) (T s) (C s)) ≡ bits (a && eqb u s || N s) (b && eqb u s || T s) (c && eqb u s || C s)
      at (yes q) = rw (q, eq-eqb s s refl, and-true a, and-true b, and-true c) (e (N s) (T s) (C s))
      at (no d) = rw (ne_eqb u s d, and-false a, and-false b, and-false c)

  mark_named : (s : ℕ) → s < n → get_or (mark_at with_named u marks) s 0 ≡ bits (eqb u s || N s) (T s) (C s)
  mark_named = mark_set with_named true false false (λ a b c. (byte a b c).set_named)

  mark_terminal : (s : ℕ) → s < n → get_or (mark_at with_terminal u marks) s 0 ≡ bits (N s) (eqb u s || T s) (C s)
  mark_terminal = mark_set with_terminal false true false (λ a b c. (byte a b c).set_terminal)

  mark_closed : (s : ℕ) → s < n → get_or (mark_at with_closed u marks) s 0 ≡ bits (N s) (T s) (eqb u s || C s)
  mark_closed = mark_set with_closed false false true (λ a b c. (byte a b c).set_closed)

either_first : (a b c : Bool) → b || (a || c) ≡ a || b || c
either_first true true c = refl
either_first true false c = refl
either_first false true c = refl
either_first false false c = refl

-- "these marks": with those that the update sets they are those of the history with it
pub marks_set : (h : History) (x : Update) (marks : List ℕ) (n : ℕ) → n ≤ length marks → InRange n x → ((s : ℕ) → s < n → get_or marks s 0 ≡ marks_of h s) → (s : ℕ) → s < n → get_or (set_marks x marks) s 0 ≡ marks_of (x ∷ h) s
unfolding bits marks_of is_named is_terminal is_closed
marks_set h (Step e) marks n l r g s k =
    let first = mark_named marks n e.from l r.0 (is_named h) (is_terminal h) (is_closed h) g in
    mark_named (mark_at with_named e.from marks) n e.to (rw length-set l) r.1 (λ q. eqb e.from q || is_named h q) (is_terminal h) (is_closed h) first s k ∙
    ap (λ (b : Bool). bits b (is_terminal h s) (is_closed h s)) (either_first (eqb e.from s) (eqb e.to s) (is_named h s))
marks_set h (Terminal u) marks n l r g s k =
    let first = mark_named marks n u l r (is_named h) (is_terminal h) (is_closed h) g in
    mark_terminal (mark_at with_named u marks) n u (rw length-set l) r (λ q. eqb u q || is_named h q) (is_terminal h) (is_closed h) first s k
marks_set h (Close u) marks n l r g s k =
    let first = mark_named marks n u l r (is_named h) (is_terminal h) (is_closed h) g in
    mark_closed (mark_at with_named u marks) n u (rw length-set l) r (λ q. eqb u q || is_named h q) (is_terminal h) (is_closed h) first s k
