-- Two small systems that are no history's: a pattern of two states over a graph of two, and an arc into a live and a dead node.
-- Assumes nothing.
use mathlib.Core.Path.{◌≡◌, refl}
use mathlib.Core.Logic.{◌⊎◌, inl, inr}
use Prim.Native.Nat.{ℕ}
use native.Mathlib.Omega.{arith}
use Rattle.gid.specs.Systems.{System, LiveIn, goal, by_arc, DeadIn, here}
use Rattle.gid.proofs.Systems.{dead_greatest, dead_not_live, dead_target}

-- An arc with one target.
abbrev Is : ℕ → ℕ → ℕ → ℕ → ℕ → ℕ → Type 0
Is a b c s p t = (s ≡ a) × (p ≡ b) × (t ≡ c)

-- The graph has the states 0, open, and 1, closed and terminal, and one step from 0 to 1, by a key that takes both pattern states to the second. The first pattern state accepts, and the second is hopeless: it leads to itself alone. The node of the state s and the pattern state q is 2s + q.
abbrev pattern : System
pattern = record {
  -- the step leaves the node 0 for the node 3; no arc leaves a hopeless node
  Arc = Is 0 0 3;
  -- terminal and accepting
  Goal = λ s. s ≡ 2;
  -- closed, or hopeless
  Final = λ s. (s ≡ 1) ⊎ ((s ≡ 2) ⊎ (s ≡ 3));
}

-- The state 1 is live from the accepting pattern state, and dead from the hopeless one; the state 0, though open, is dead from the hopeless one, and neither from the other.
pub pattern_verdicts : LiveIn pattern 2 × DeadIn pattern 3 × DeadIn pattern 1 × (LiveIn pattern 0 → ⊥) × (DeadIn pattern 0 → ⊥)
pattern_verdicts = (goal refl, dead 3 (inr refl), dead 1 (inl refl), λ l. not_live l refl, λ d. not_final refl (d 0 here).0)
  where
    Hopeless : ℕ → Type 0
    Hopeless s = (s ≡ 1) ⊎ (s ≡ 3)

    final : (s : ℕ) → Hopeless s → (s ≡ 1) ⊎ ((s ≡ 2) ⊎ (s ≡ 3))
    final s (inl e) = inl e
    final s (inr e) = inr (inr e)

    no_goal : (s : ℕ) → Hopeless s → s ≡ 2 → ⊥
    no_goal s (inl e) z = omega arith
    no_goal s (inr e) z = omega arith

    onward : (s p t : ℕ) → Is 0 0 3 s p t → Hopeless s → Hopeless t
    onward s p t a h = inr a.2

    dead : (s : ℕ) → Hopeless s → DeadIn pattern s
    dead s h = dead_greatest pattern Hopeless final no_goal onward h

    not_live : {s : ℕ} → LiveIn pattern s → s ≡ 0 → ⊥
    not_live (goal e) z = omega arith
    not_live (by_arc {t = t} a f) z = dead_not_live pattern (dead 3 (inr refl)) (f 3 (a.0, a.1, refl))

    not_final : {s : ℕ} → s ≡ 0 → pattern.Final s → ⊥
    not_final z (inl e) = omega arith
    not_final z (inr (inl e)) = omega arith
    not_final z (inr (inr e)) = omega arith

-- The node 0, closed, has an arc into 1, a goal, and 2, closed with nothing behind it.
abbrev choice : System
choice = record {
  Arc = λ s p t. (s ≡ 0) × (p ≡ 0) × ((t ≡ 1) ⊎ (t ≡ 2));
  Goal = λ s. s ≡ 1;
  Final = λ s. (s ≡ 0) ⊎ (s ≡ 2);
}

-- It is neither live nor dead.
pub choice_verdicts : LiveIn choice 1 × DeadIn choice 2 × (LiveIn choice 0 → ⊥) × (DeadIn choice 0 → ⊥)
choice_verdicts = (goal refl, dead, λ l. not_live l refl, λ d. dead_not_live choice (dead_target choice {p = 0} (refl, refl, inl refl) d) (goal refl))
  where
    dead : DeadIn choice 2
    dead = dead_greatest choice (λ s. s ≡ 2) (λ s e. inr e) (λ s e g. omega arith) (λ s p t a e. absurd (omega (arith, a.0))) refl

    not_live : {s : ℕ} → LiveIn choice s → s ≡ 0 → ⊥
    not_live (goal e) z = omega arith
    not_live (by_arc a f) z = dead_not_live choice dead (f 2 (a.0, a.1, inr refl))
