-- The news of an update: which states it makes live or dead.
-- Assumes nothing.
use Rattle.std.specs.Prelude.{◌⊎◌, Bool, not, cond, ◌&&◌, ◌||◌, ℕ, zero, suc, ◌<◌}
use mathlib.Core.List.{List, [], ◌∷◌, ◌++◌, Memᴰ}
use Rattle.gid.specs.declared.Update.{Update}
use Rattle.gid.specs.Histories.{History}
use Rattle.gid.specs.Verdicts.{Live, DeadByReach}
use Rattle.gid.specs.Statuses.{is_live, is_dead}

-- The update x, after the history h, makes s live or dead: it is so after x, and was not before. As a statement, and as a test that decides it (proofs/News.antt: `decides_settles`).
abbrev pub Settles : History → Update → ℕ → Type 0
Settles h x s = (Live (x ∷ h) s × (Live h s → ⊥)) ⊎ (DeadByReach (x ∷ h) s × (DeadByReach h s → ⊥))

unfoldable pub settles : History → Update → ℕ → Bool
settles h x s = (is_live (x ∷ h) s && not (is_live h s)) || (is_dead (x ∷ h) s && not (is_dead h s))

-- The states below n, in rising order, of which a test holds.
unfoldable pub below : ℕ → (ℕ → Bool) → List ℕ
below zero f = []
below (suc n) f = below n f ++ cond (f n) (n ∷ []) []

-- "The news list names, in rising order, exactly the states that this update made live or dead."
unfoldable pub news : ℕ → History → Update → List ℕ
news n h x = below n (settles h x)

-- Each entry is below all that follow it.
abbrev pub Rising : List ℕ → Type 0
Rising [] = Unit {0}
Rising (s ∷ l) = ((t : ℕ) → Memᴰ t l → s < t) × Rising l
