-- The eight updates over two states: each has its place among them, and they stand in their order.
-- Assumes nothing.
use mathlib.Core.Path.{◌≡◌, refl, ◌∙◌, ap}
use mathlib.Core.Logic.{inl, inr}
use Prim.Native.Nat.{ℕ, ◌+◌, ◌*◌, ◌-◌, ◌/◌, ◌%◌, ◌<◌, ◌≤◌}
use native.Mathlib.Omega.{arith}
use native.Mathlib.Decide.{dec_lt}
use borrow.Author.Tests.{lt-ltb, le-ltb}
use Rattle.gid.specs.declared.Update.{Update}
use Rattle.gid.specs.declared.Update.TheVariants.{Step, Terminal, Close}
use Rattle.gid.specs.Updates.{edge}
use Rattle.enumeration.specs.Small.{SmallUpdate, Sooner}
use Rattle.enumeration.specs.Ranking.{update_at}

abbrev pub place : Update → ℕ
place (Step e) = e.from * 2 + e.to
place (Terminal u) = 4 + u
place (Close u) = 6 + u

-- the update at a place below 4, from there up to 6, and from 6 on
pub step-at : (i : ℕ) → i < 4 → update_at i ≡ Step (edge (i / 2) (i % 2) 0)
unfolding update_at
step-at i h = rw (lt-ltb i 4 h)

pub terminal_at : (i : ℕ) → 4 ≤ i → i < 6 → update_at i ≡ Terminal (i - 4)
unfolding update_at
terminal_at i g h = rw (le-ltb i 4 g, lt-ltb i 6 h)

pub close_at : (i : ℕ) → 6 ≤ i → update_at i ≡ Close (i - 6)
unfolding update_at
close_at i g = rw (le-ltb i 4 (omega arith), le-ltb i 6 g)

-- what holds of the updates at all three holds of each
by_place : (P : Update → ℕ → Type 0) → ((i : ℕ) → i < 4 → P (Step (edge (i / 2) (i % 2) 0)) i) → ((i : ℕ) → 4 ≤ i → i < 6 → P (Terminal (i - 4)) i) → ((i : ℕ) → 6 ≤ i → P (Close (i - 6)) i) → (i : ℕ) → P (update_at i) i
by_place P f g k i = at (dec_lt i 4) (dec_lt i 6)
  where
    at : Dec (i < 4) → Dec (i < 6) → P (update_at i) i
    at (yes p) d = rw (step-at i p) (f i p)
    at (no p) (yes q) = rw (terminal_at i (omega arith) q) (g i (omega arith) q)
    at (no p) (no q) = rw (close_at i (omega arith)) (k i (omega arith))

pub small_at : (i : ℕ) → i < 8 → SmallUpdate (update_at i)
small_at = by_place (λ x i. i < 8 → SmallUpdate x) (λ i l h. (omega arith, omega arith, refl)) (λ i g l h. omega arith) (λ i g h. omega arith)

pub place_at : (i : ℕ) → place (update_at i) ≡ i
place_at = by_place (λ x i. place x ≡ i) (λ i l. omega arith) (λ i g l. omega arith) (λ i g. omega arith)

pub at_place : (x : Update) → SmallUpdate x → update_at (place x) ≡ x
at_place (Step e) s =
    let u : (e.from * 2 + e.to) / 2 ≡ e.from = omega (arith, s.1) in
    let v : (e.from * 2 + e.to) % 2 ≡ e.to = omega (arith, s.1) in
    step-at (e.from * 2 + e.to) (omega (arith, s.0, s.1)) ∙ (rw (u, v, ← s.2))
at_place (Terminal u) s =
    let v : 4 + u - 4 ≡ u = omega arith in
    terminal_at (4 + u) (omega arith) (omega arith) ∙ ap Terminal v
at_place (Close u) s =
    let v : 6 + u - 6 ≡ u = omega arith in
    close_at (6 + u) (omega arith) ∙ ap Close v

pub place_below : (x : Update) → SmallUpdate x → place x < 8
place_below (Step e) s = omega (arith, s.0, s.1)
place_below (Terminal u) s = omega arith
place_below (Close u) s = omega arith

-- the places are in the order of the updates
sooner : (x y : Update) → SmallUpdate x → SmallUpdate y → place x < place y → Sooner x y
sooner (Step d) (Step e) s t l = by (dec_lt d.from e.from)
  where
    by : Dec (d.from < e.from) → Sooner (Step d) (Step e)
    by (yes q) = inl q
    by (no q) = inr (omega (arith, s.1, t.1), omega (arith, s.1, t.1))
sooner (Step d) (Terminal v) s t l = tt
sooner (Step d) (Close v) s t l = tt
sooner (Terminal u) (Step e) s t l = absurd (omega (arith, t.0, t.1))
sooner (Terminal u) (Terminal v) s t l = omega arith
sooner (Terminal u) (Close v) s t l = tt
sooner (Close u) (Step e) s t l = absurd (omega (arith, t.0, t.1))
sooner (Close u) (Terminal v) s t l = absurd (omega arith)
sooner (Close u) (Close v) s t l = omega arith

pub sooner_at : (i j : ℕ) → i < j → j < 8 → Sooner (update_at i) (update_at j)
sooner_at i j l h =
    sooner (update_at i) (update_at j) (small_at i (omega arith)) (small_at j h) (rw (place_at i, place_at j) l)

pub not_sooner : (x : Update) → Sooner x x → ⊥
not_sooner (Step e) (inl l) = omega arith
not_sooner (Step e) (inr l) = omega (arith, l.1)
not_sooner (Terminal u) l = omega arith
not_sooner (Close u) l = omega arith
