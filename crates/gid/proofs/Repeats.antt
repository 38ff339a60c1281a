-- An update that the history has already changes nothing that is said of the history, and has no news.
-- Assumes nothing.
use mathlib.Core.Path.{◌≡◌, sym, subst}
use mathlib.Core.Logic.{⊎_elim}
use mathlib.Core.List.Memᴰ
use mathlib.Core.List.{[], ◌∷◌}
use Prim.Native.Nat.{ℕ}
use Rattle.gid.specs.declared.Update.{Update}
use Rattle.gid.specs.declared.Update.TheVariants.{Terminal, Close}
use Rattle.gid.specs.Histories.{History, Has, IsNamed}
use Rattle.gid.specs.Statuses.{is_named, is_terminal, is_closed, status}
use Rattle.gid.specs.News.{news}
use Rattle.gid.proofs.Decide.{same_test}
use Rattle.gid.proofs.Paths.{Inside, within_newer}
use Rattle.gid.proofs.Tests.{decides_named, decides_terminal, decides_closed}
use Rattle.gid.proofs.Deadness.{live_within}
use Rattle.gid.proofs.Pruning.{Keeps, keeps_itself, same_live, same_dead, no_news}

module _ {h : History} {x : Update} (has : Has h x) where
  pub within_older : Inside (x ∷ h) h
  within_older y m = ⊎_elim (λ e. subst (λ (z : Update). Has h z) (sym e) has) (λ q. q) (Memᴰ.cases_cons m)

  -- The history is one with the repeat, of which that was left out.
  keeps_repeated : Keeps (x ∷ h) h
  keeps_repeated = record { part = within_newer x; kept = λ y m n. within_older y m; live = λ s l. live_within within_older l }

  pub repeated_names : {s : ℕ} → IsNamed (x ∷ h) s → IsNamed h s
  repeated_names m = (m.0, within_older m.0 m.1, m.2)

  pub repeated_named : (s : ℕ) → is_named (x ∷ h) s ≡ is_named h s
  repeated_named s = same_test (is_named (x ∷ h) s) (is_named h s) (decides_named (x ∷ h) s) (decides_named h s) repeated_names (λ m. (m.0, within_newer x m.0 m.1, m.2))

  pub repeated_terminal : (s : ℕ) → is_terminal (x ∷ h) s ≡ is_terminal h s
  repeated_terminal s = same_test (is_terminal (x ∷ h) s) (is_terminal h s) (decides_terminal (x ∷ h) s) (decides_terminal h s) (within_older (Terminal s)) (within_newer x (Terminal s))

  pub repeated_closed : (s : ℕ) → is_closed (x ∷ h) s ≡ is_closed h s
  repeated_closed s = same_test (is_closed (x ∷ h) s) (is_closed h s) (decides_closed (x ∷ h) s) (decides_closed h s) (within_older (Close s)) (within_newer x (Close s))

  pub repeated_status : (s : ℕ) → status (x ∷ h) s ≡ status h s
  unfolding status
  repeated_status s = rw (same_live keeps_repeated s, same_dead keeps_repeated s, repeated_closed s, repeated_named s)

  pub repeated_news : (n : ℕ) → news n h x ≡ []
  repeated_news n = no_news n x (keeps_itself h) keeps_repeated
