-- On tables that fit a dead state is marked closed, so that the test for a closed first state finds what is sent from it: a test for a dead one would never be reached.
-- Assumes nothing.
use mathlib.Core.Path.{◌≡◌, sym, ◌∙◌}
use mathlib.Core.Bool.{true}
use mathlib.Core.Option.{some}
use Prim.Native.Nat.{ℕ, ◌<◌, ◌≤◌}
use native.Mathlib.Omega.{arith}
use lib.ListN.{get_or}
use borrow.Author.Tests.{lt-leb, le-ltb}
use Rattle.gid.specs.declared.Update.TheVariants.{Step, Terminal}
use Rattle.gid.specs.Updates.{edge}
use Rattle.gid.specs.Statuses.{status_dead}
use Rattle.gid.specs.Refusals.{max_key}
use Rattle.gid.proofs.Statuses.{status_dead_by_reach}
use Rattle.gid.proofs.Deadness.{dead_closed as closed-by-reach}
use Rattle.tables.specs.declared.Graph.{Graph}
use Rattle.tables.specs.Tables.{Tables, long_enough}
use Rattle.tables.specs.Marks.{has_closed}
use Rattle.tables.specs.Refused.{refusal_on, lent_number, sent_number}
use Rattle.tables.specs.Fitting.{Fits}
use Rattle.tables.proofs.Bits.{decides_closed_mark}
use Rattle.tables.proofs.Refusing.{refused_sent}

module _ {g : Graph} {t : Tables} (fits : Fits g t) (s : ℕ) (range : s < g.n) (dead : get_or t.status s 0 ≡ status_dead) where
  -- "on fitting tables [..] a dead state is always closed",
  pub dead_closed : has_closed (get_or t.marks s 0) ≡ true
  dead_closed =
      let c = fits.2 in
      (decides_closed_mark c s range).complete (closed-by-reach ((status_dead_by_reach fits.0 s).0 (sym (c.status s range) ∙ dead)))

  -- "so that 6 comes first": what is sent from it gets 6 wherever 1 to 5 and 14 do not apply.
  module _ (lent : lent_number g (long_enough g t) ≡ 0) where
    pub dead_step_refused : (v k : ℕ) → v < g.n → k ≤ max_key → refusal_on g t (Step (edge s v k)) ≡ some 6
    unfolding sent_number
    dead_step_refused v k r q = refused_sent g t (Step (edge s v k)) lent 6 (simp (lt-leb g.n s range, lt-leb g.n v r, le-ltb max_key k q, dead_closed)) (λ e. omega arith)

    pub dead_mark_refused : refusal_on g t (Terminal s) ≡ some 6
    unfolding sent_number
    dead_mark_refused = refused_sent g t (Terminal s) lent 6 (simp (lt-leb g.n s range, dead_closed)) (λ e. omega arith)
