-- The laws of the status: which number stands for which verdict. Nothing else about `status` is needed.
-- Assumes nothing.
use mathlib.Core.Path.{◌≡◌, refl}
use mathlib.Core.Logic.{◌↔◌, inl}
use mathlib.Core.Bool.{Bool, true, false}
use mathlib.Core.List.{Memᴰ}
use Prim.Native.Nat.{ℕ}
use native.Mathlib.Omega.{arith}
use Rattle.gid.specs.declared.Update.TheVariants.{Step, Terminal, Close}
use Rattle.gid.specs.Updates.{edge}
use Rattle.gid.specs.Histories.{History, IsClosed, IsNamed, Legal}
use Rattle.gid.specs.Verdicts.{Reaches, here, along, Live, Dead, DeadByReach}
use Rattle.gid.specs.Statuses.{is_live, is_dead, is_closed, is_named, status, status_unseen, status_open, status_unknown, status_live, status_dead}
use Rattle.gid.proofs.Decide.{refuted}
use Rattle.gid.proofs.Tests.{decides_live, decides_dead, decides_closed, decides_named}
use Rattle.gid.proofs.Deadness.{dead_closed, dead_not_live, dead_equal}

pub live_named : {h : History} {s : ℕ} → Live h s → IsNamed h s
live_named {h} {s} (v, p, t) = first p t
  where
    first : {u w : ℕ} → Reaches h u w → Memᴰ (Terminal w) h → IsNamed h u
    first {u} here t = (Terminal u, t, refl)
    first {u} (along {v = v} m p) t = (Step (edge u v m.0), m.1, inl refl)

pub closed_named : {h : History} {s : ℕ} → IsClosed h s → IsNamed h s
closed_named {s = s} c = (Close s, c, refl)

-- The five cases, of which each state is in exactly one.
pub data Classified (h : History) (s k : ℕ) : Type 0 where
  as_live : k ≡ status_live → Live h s → Classified h s k
  as_dead : k ≡ status_dead → DeadByReach h s → Classified h s k
  as_unknown : k ≡ status_unknown → IsClosed h s → (Live h s → ⊥) → (DeadByReach h s → ⊥) → Classified h s k
  as_open : k ≡ status_open → IsNamed h s → (IsClosed h s → ⊥) → (Live h s → ⊥) → Classified h s k
  as_unseen : k ≡ status_unseen → (IsNamed h s → ⊥) → Classified h s k

pub classified : (h : History) (s : ℕ) → Classified h s (status h s)
unfolding status
classified h s = by_tests (is_live h s) (is_dead h s) (is_closed h s) (is_named h s) refl refl refl refl
  where
    by_tests : (l d c n : Bool) → is_live h s ≡ l → is_dead h s ≡ d → is_closed h s ≡ c → is_named h s ≡ n → Classified h s (status h s)
    by_tests true d c n el ed ec en = as_live (rw el) ((decides_live h s).sound el)
    by_tests false true c n el ed ec en = as_dead (rw (el, ed)) ((decides_dead h s).sound ed)
    by_tests false false true n el ed ec en =
        as_unknown (rw (el, ed, ec)) ((decides_closed h s).sound ec) (refuted (decides_live h s) el) (refuted (decides_dead h s) ed)
    by_tests false false false true el ed ec en =
        as_open (rw (el, ed, ec, en)) ((decides_named h s).sound en) (refuted (decides_closed h s) ec) (refuted (decides_live h s) el)
    by_tests false false false false el ed ec en = as_unseen (rw (el, ed, ec, en)) (refuted (decides_named h s) en)

module _ (h : History) (s : ℕ) where
  -- "3 live"
  pub status-live : (status h s ≡ status_live) ↔ Live h s
  status-live = (λ e. to (status h s) e (classified h s), λ l. of (status h s) l (classified h s))
    where
      to : (k : ℕ) → k ≡ status_live → Classified h s k → Live h s
      to k e (as_live _ l) = l
      to k e (as_dead d _) = absurd (omega arith)
      to k e (as_unknown d _ _ _) = absurd (omega arith)
      to k e (as_open d _ _ _) = absurd (omega arith)
      to k e (as_unseen d _) = absurd (omega arith)

      of : (k : ℕ) → Live h s → Classified h s k → k ≡ status_live
      of k l (as_live e _) = e
      of k l (as_dead _ d) = absurd (dead_not_live d l)
      of k l (as_unknown _ _ n _) = absurd (n l)
      of k l (as_open _ _ _ n) = absurd (n l)
      of k l (as_unseen _ n) = absurd (n (live_named l))

  -- "4 dead", by reach; on legal histories by continuations, below
  pub status_dead_by_reach : (status h s ≡ status_dead) ↔ DeadByReach h s
  status_dead_by_reach = (λ e. to (status h s) e (classified h s), λ d. of (status h s) d (classified h s))
    where
      to : (k : ℕ) → k ≡ status_dead → Classified h s k → DeadByReach h s
      to k e (as_live d _) = absurd (omega arith)
      to k e (as_dead _ d) = d
      to k e (as_unknown d _ _ _) = absurd (omega arith)
      to k e (as_open d _ _ _) = absurd (omega arith)
      to k e (as_unseen d _) = absurd (omega arith)

      of : (k : ℕ) → DeadByReach h s → Classified h s k → k ≡ status_dead
      of k d (as_live _ l) = absurd (dead_not_live d l)
      of k d (as_dead e _) = e
      of k d (as_unknown _ _ _ n) = absurd (n d)
      of k d (as_open _ _ n _) = absurd (n (dead_closed d))
      of k d (as_unseen _ n) = absurd (n (closed_named (dead_closed d)))

  -- "2 unknown": "closed, neither live nor dead"
  pub status_unknown_by_reach : (status h s ≡ status_unknown) ↔ (IsClosed h s × (Live h s → ⊥) × (DeadByReach h s → ⊥))
  status_unknown_by_reach = (λ e. to (status h s) e (classified h s), λ u. of (status h s) u (classified h s))
    where
      to : (k : ℕ) → k ≡ status_unknown → Classified h s k → IsClosed h s × (Live h s → ⊥) × (DeadByReach h s → ⊥)
      to k e (as_live d _) = absurd (omega arith)
      to k e (as_dead d _) = absurd (omega arith)
      to k e (as_unknown _ c l d) = (c, l, d)
      to k e (as_open d _ _ _) = absurd (omega arith)
      to k e (as_unseen d _) = absurd (omega arith)

      of : (k : ℕ) → IsClosed h s × (Live h s → ⊥) × (DeadByReach h s → ⊥) → Classified h s k → k ≡ status_unknown
      of k u (as_live _ l) = absurd (u.1 l)
      of k u (as_dead _ d) = absurd (u.2 d)
      of k u (as_unknown e _ _ _) = e
      of k u (as_open _ _ n _) = absurd (n u.0)
      of k u (as_unseen _ n) = absurd (n (closed_named u.0))

  -- "1 open": "named, not closed, not live"
  pub status-open : (status h s ≡ status_open) ↔ (IsNamed h s × (IsClosed h s → ⊥) × (Live h s → ⊥))
  status-open = (λ e. to (status h s) e (classified h s), λ o. of (status h s) o (classified h s))
    where
      to : (k : ℕ) → k ≡ status_open → Classified h s k → IsNamed h s × (IsClosed h s → ⊥) × (Live h s → ⊥)
      to k e (as_live d _) = absurd (omega arith)
      to k e (as_dead d _) = absurd (omega arith)
      to k e (as_unknown d _ _ _) = absurd (omega arith)
      to k e (as_open _ n c l) = (n, c, l)
      to k e (as_unseen d _) = absurd (omega arith)

      of : (k : ℕ) → IsNamed h s × (IsClosed h s → ⊥) × (Live h s → ⊥) → Classified h s k → k ≡ status_open
      of k o (as_live _ l) = absurd (o.2 l)
      of k o (as_dead _ d) = absurd (o.1 (dead_closed d))
      of k o (as_unknown _ c _ _) = absurd (o.1 c)
      of k o (as_open e _ _ _) = e
      of k o (as_unseen _ n) = absurd (n o.0)

  -- "0 unseen": "not named"
  pub status-unseen : (status h s ≡ status_unseen) ↔ (IsNamed h s → ⊥)
  status-unseen = (λ e. to (status h s) e (classified h s), λ n. of (status h s) n (classified h s))
    where
      to : (k : ℕ) → k ≡ status_unseen → Classified h s k → IsNamed h s → ⊥
      to k e (as_live d _) = absurd (omega arith)
      to k e (as_dead d _) = absurd (omega arith)
      to k e (as_unknown d _ _ _) = absurd (omega arith)
      to k e (as_open d _ _ _) = absurd (omega arith)
      to k e (as_unseen _ n) = n

      of : (k : ℕ) → (IsNamed h s → ⊥) → Classified h s k → k ≡ status_unseen
      of k n (as_live _ l) = absurd (n (live_named l))
      of k n (as_dead _ d) = absurd (n (closed_named (dead_closed d)))
      of k n (as_unknown _ c _ _) = absurd (n (closed_named c))
      of k n (as_open _ m _ _) = absurd (n m)
      of k n (as_unseen e _) = e

  module _ (legal : Legal h) where
    -- "4 dead", "2 unknown": dead by continuations
    pub status-dead : (status h s ≡ status_dead) ↔ Dead h s
    status-dead = (λ e. (dead_equal legal s).1 (status_dead_by_reach.0 e), λ d. status_dead_by_reach.1 ((dead_equal legal s).0 d))

    pub status-unknown : (status h s ≡ status_unknown) ↔ (IsClosed h s × (Live h s → ⊥) × (Dead h s → ⊥))
    status-unknown = (
      λ e. ((status_unknown_by_reach.0 e).0, (status_unknown_by_reach.0 e).1, λ d. (status_unknown_by_reach.0 e).2 ((dead_equal legal s).0 d)),
      λ u. status_unknown_by_reach.1 (u.0, u.1, λ d. u.2 ((dead_equal legal s).1 d)),
    )
