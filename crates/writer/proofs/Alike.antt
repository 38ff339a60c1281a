-- Two histories with the same updates, in whatever order, have the same marks and statuses.
-- Assumes nothing.
use mathlib.Core.Path.{◌≡◌}
use Prim.Native.Nat.{ℕ}
use Rattle.gid.specs.declared.Update.TheVariants.{Terminal, Close}
use Rattle.gid.specs.Histories.{History}
use Rattle.gid.specs.Statuses.{is_named, is_terminal, is_closed, status}
use Rattle.gid.proofs.Decide.{same_test}
use Rattle.gid.proofs.Paths.{Inside}
use Rattle.gid.proofs.Tests.{decides_named, decides_terminal, decides_closed}
use Rattle.gid.proofs.Deadness.{live_within}
use Rattle.gid.proofs.Pruning.{Keeps, same_live, same_dead}
use Rattle.tables.specs.Fitting.{marks_of}

module _ {h g : History} (to : Inside h g) (of : Inside g h) (s : ℕ) where
  same_terminal : is_terminal h s ≡ is_terminal g s
  same_terminal = same_test (is_terminal h s) (is_terminal g s) (decides_terminal h s) (decides_terminal g s) (to (Terminal s)) (of (Terminal s))

  same_closed : is_closed h s ≡ is_closed g s
  same_closed = same_test (is_closed h s) (is_closed g s) (decides_closed h s) (decides_closed g s) (to (Close s)) (of (Close s))

  same_named : is_named h s ≡ is_named g s
  same_named =
      same_test (is_named h s) (is_named g s) (decides_named h s) (decides_named g s)
      (λ m. (m.0, to m.0 m.1, m.2)) (λ m. (m.0, of m.0 m.1, m.2))

  pub same_status : status h s ≡ status g s
  unfolding status
  same_status =
      let k : Keeps h g = record { part = of; kept = λ x m n. to x m; live = λ u. live_within to } in
      rw (same_live k s, same_dead k s, same_closed, same_named)

  pub same_marks : marks_of h s ≡ marks_of g s
  unfolding marks_of
  same_marks = rw (same_named, same_terminal, same_closed)
