-- The computed tests of legality decide it.
-- Assumes nothing.
use mathlib.Core.Path.{◌≡◌, refl}
use mathlib.Core.Bool.{true, not, ◌&&◌, ◌||◌}
use mathlib.Core.List.{[], ◌∷◌}
use Prim.Native.Nat.{ℕ, ◌<◌}
use Rattle.gid.specs.declared.Update.{Update}
use Rattle.gid.specs.declared.Update.TheVariants.{Step, Terminal, Close}
use Rattle.gid.specs.Histories.{History, MayFollow, Legal}
use Rattle.gid.specs.Statuses.{is_closed}
use Rattle.gid.proofs.Decide.{Decides, decides_iff, decides_and, decides_not}
use Rattle.gid.proofs.Tests.{decides_closed}
use Rattle.enumeration.specs.Ranking.{unranked, may_follow, is_legal}
use Rattle.enumeration.specs.Parts.{newest_of, older_of, is_close_of}
use Rattle.enumeration.proofs.Ranking.{unranked_none, unranked_newest}

decides_true : {P : Type 0} → P → Decides true P
decides_true p = record { sound = λ e. p; complete = λ q. refl }

decides_follow : (h : History) (x : Update) → Decides (may_follow h x) (MayFollow h x)
decides_follow h (Step e) = decides_not (is_closed h e.from) (decides_closed h e.from)
decides_follow h (Terminal u) = decides_not (is_closed h u) (decides_closed h u)
decides_follow h (Close u) = decides_true tt

pub decides_legal : (h : History) → Decides (is_legal h) (Legal h)
unfolding is_legal
decides_legal [] = decides_true tt
decides_legal (x ∷ h) = decides_iff (decides_and (may_follow h x) (is_legal h) (decides_follow h x) (decides_legal h)) (λ p. (p.1, p.0)) (λ p. (p.1, p.0))

-- A history with an update behind it closes a state where the update does or the history did.
pub closed_newest : (x : Update) (h : History) (s : ℕ) → is_closed (x ∷ h) s ≡ (is_close_of x s || is_closed h s)
unfolding is_closed
closed_newest (Step e) h s = refl
closed_newest (Terminal u) h s = refl
closed_newest (Close u) h s = refl

-- The same by ranks: of the empty history, and of one with a newest update.
pub unclosed_none : (i s : ℕ) → i ≡ 0 → true ≡ not (is_closed (unranked i) s)
unfolding is_closed
unclosed_none i s e = rw (e, unranked_none)

pub unclosed_ranked : (i s : ℕ) → 0 < i → not (is_closed (unranked i) s) ≡ not (is_close_of (newest_of i) s || is_closed (unranked (older_of i)) s)
unclosed_ranked i s h = rw (unranked_newest i h, closed_newest (newest_of i) (unranked (older_of i)) s)

pub legal_none : (i : ℕ) → i ≡ 0 → true ≡ is_legal (unranked i)
unfolding is_legal
legal_none i e = rw (e, unranked_none)

pub legal_ranked : (i : ℕ) → 0 < i → is_legal (unranked i) ≡ (may_follow (unranked (older_of i)) (newest_of i) && is_legal (unranked (older_of i)))
unfolding is_legal
legal_ranked i h = rw (unranked_newest i h)
