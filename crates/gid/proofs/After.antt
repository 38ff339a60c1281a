-- What one update changes of live and dead.
-- Assumes nothing.
use mathlib.Core.Path.{◌≡◌}
use mathlib.Core.Logic.{⊎_elim}
use mathlib.Core.List.Memᴰ
use mathlib.Core.List.{[], ◌∷◌}
use Prim.Native.Nat.{ℕ}
use Rattle.gid.specs.declared.Update.{Update}
use Rattle.gid.specs.declared.Update.TheVariants.{Close}
use Rattle.gid.specs.Updates.{source}
use Rattle.gid.specs.Histories.{History, Has, IsClosed}
use Rattle.gid.specs.Verdicts.{DeadByReach}
use Rattle.gid.specs.Statuses.{is_live, is_dead}
use Rattle.gid.proofs.Decide.{same_test}
use Rattle.gid.proofs.Paths.{path_within, within_newer, unsplit}
use Rattle.gid.proofs.Following.{unclosed_follows}
use Rattle.gid.proofs.Tests.{decides_live, decides_dead, step_close, terminal_close}
use Rattle.gid.proofs.Deadness.{live_within, dead_continued}

-- One of the older updates, where it is not the newest.
pub older : {h : History} {x y : Update} → (y ≡ x → ⊥) → Has (x ∷ h) y → Has h y
older n m = ⊎_elim (λ e. absurd (n e)) (λ q. q) (Memᴰ.cases_cons m)

-- A close makes no state live.
pub same_live_close : (h : History) (u s : ℕ) → is_live (Close u ∷ h) s ≡ is_live h s
same_live_close h u s =
    same_test (is_live (Close u ∷ h) s) (is_live h s) (decides_live (Close u ∷ h) s) (decides_live h s)
    (λ l. (l.0, unsplit (Close u) (λ e. step_close e u) l.1, older (terminal_close l.0 u) l.2))
    (live_within (within_newer (Close u)))

-- A step or a terminal mark sent from a state that is not closed makes no state dead, and none that is dead ceases to be.
module _ {h : History} {x : Update} (sent : (s : ℕ) → Close s ≡ x → ⊥) (unclosed : IsClosed h (source x) → ⊥) where
  dead_kept : {s : ℕ} → DeadByReach h s → DeadByReach (x ∷ h) s
  dead_kept = dead_continued (x ∷ []) h (tt, unclosed_follows x unclosed)

  dead_was : {s : ℕ} → DeadByReach (x ∷ h) s → DeadByReach h s
  dead_was d v p =
      let q = d v (path_within (within_newer x) p) in
      (older (λ e. sent v e) q.0, λ t. q.1 (Memᴰ.tail t))

  pub same_dead_sent : (s : ℕ) → is_dead (x ∷ h) s ≡ is_dead h s
  same_dead_sent s = same_test (is_dead (x ∷ h) s) (is_dead h s) (decides_dead (x ∷ h) s) (decides_dead h s) dead_was dead_kept
