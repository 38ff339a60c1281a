-- A test that decides a statement: it passes exactly where the statement holds. The connectives' tests decide the connectives.
-- Assumes nothing.
use mathlib.Core.Path.{◌≡◌, refl, sym, ◌∙◌}
use mathlib.Core.Logic.{◌⊎◌, inl, inr}
use mathlib.Core.Bool.{Bool, true, false, not, ◌&&◌, ◌||◌, false≢true}
use Prim.Native.Nat.{ℕ}
use lib.Dec.{eqb}
use borrow.Author.Tests.{eqb-true, eq-eqb}

pub record Decides (b : Bool) (P : Type 0) : Type 0 where
  pub sound : b ≡ true → P
  pub complete : P → b ≡ true

pub decided : (b : Bool) {P : Type 0} → Decides b P → Dec P
decided true d = yes (d.sound refl)
decided false d = no (λ p. false≢true (d.complete p))

-- the test fails exactly where the statement does not hold
pub refuted : {b : Bool} {P : Type 0} → Decides b P → b ≡ false → P → ⊥
refuted d e p = false≢true (sym e ∙ d.complete p)

pub refutes : (b : Bool) {P : Type 0} → Decides b P → (P → ⊥) → b ≡ false
refutes true d h = absurd (h (d.sound refl))
refutes false d h = refl

-- tests of equivalent statements are equal
pub same_test : (a b : Bool) {P Q : Type 0} → Decides a P → Decides b Q → (P → Q) → (Q → P) → a ≡ b
same_test true b d e f g = sym (e.complete (f (d.sound refl)))
same_test false b d e f g = sym (refutes b e (λ q. false≢true (d.complete (g q))))

pub decides_iff : {b : Bool} {P Q : Type 0} → Decides b P → (P → Q) → (Q → P) → Decides b Q
decides_iff d f g = record { sound = λ e. f (d.sound e); complete = λ q. d.complete (g q) }

pub decides_eq : (m n : ℕ) → Decides (eqb m n) (m ≡ n)
decides_eq m n = record { sound = eqb-true m n; complete = eq-eqb m n }

pub decides_false : {P : Type 0} → (P → ⊥) → Decides false P
decides_false h = record { sound = λ e. absurd (false≢true e); complete = λ p. absurd (h p) }

pub decides_or : (a b : Bool) {P Q : Type 0} → Decides a P → Decides b Q → Decides (a || b) (P ⊎ Q)
decides_or true b d e = record { sound = λ t. inl (d.sound refl); complete = λ p. refl }
decides_or false b {P} {Q} d e = record { sound = λ t. inr (e.sound t); complete = other }
  where
    other : P ⊎ Q → b ≡ true
    other (inl p) = absurd (false≢true (d.complete p))
    other (inr q) = e.complete q

pub decides_and : (a b : Bool) {P Q : Type 0} → Decides a P → Decides b Q → Decides (a && b) (P × Q)
decides_and true b d e = record { sound = λ t. (d.sound refl, e.sound t); complete = λ p. e.complete p.1 }
decides_and false b d e = record { sound = λ t. absurd (false≢true t); complete = λ p. d.complete p.0 }

pub decides_not : (a : Bool) {P : Type 0} → Decides a P → Decides (not a) (P → ⊥)
decides_not true d = record { sound = λ t. absurd (false≢true t); complete = λ h. absurd (h (d.sound refl)) }
decides_not false d = record { sound = λ t p. false≢true (d.complete p); complete = λ h. refl }
