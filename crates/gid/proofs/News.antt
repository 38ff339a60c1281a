-- The laws of the news: which states it names, and that it names them in rising order.
-- Assumes nothing.
use mathlib.Core.Path.{◌≡◌, refl}
use mathlib.Core.Logic.{◌↔◌, ⊎_elim}
use mathlib.Core.Bool.{Bool, true, false, not, cond, ◌&&◌}
use mathlib.Core.List.Memᴰ
use mathlib.Core.List.{List, [], ◌∷◌, ◌++◌, Memᴰ, append-nil}
use Prim.Native.Nat.{ℕ, zero, suc, ◌<◌, ◌≤◌}
use native.Mathlib.Omega.{arith}
use native.Mathlib.Decide.{ℕ_discrete}
use Rattle.gid.specs.declared.Update.{Update}
use Rattle.gid.specs.Histories.{History}
use Rattle.gid.specs.Statuses.{is_live, is_dead}
use Rattle.gid.specs.News.{Settles, settles, below, news, Rising}
use Rattle.gid.proofs.Decide.{Decides, decides_or, decides_and, decides_not}
use Rattle.gid.proofs.Tests.{decides_live, decides_dead}

pub decides_settles : (h : History) (x : Update) (s : ℕ) → Decides (settles h x s) (Settles h x s)
unfolding settles
decides_settles h x s =
    decides_or (is_live (x ∷ h) s && not (is_live h s)) (is_dead (x ∷ h) s && not (is_dead h s))
    (decides_and (is_live (x ∷ h) s) (not (is_live h s)) (decides_live (x ∷ h) s) (decides_not (is_live h s) (decides_live h s)))
    (decides_and (is_dead (x ∷ h) s) (not (is_dead h s)) (decides_dead (x ∷ h) s) (decides_not (is_dead h s) (decides_dead h s)))

-- tests that agree below n pick the same states
pub below_same : (n : ℕ) (f g : ℕ → Bool) → ((s : ℕ) → s < n → f s ≡ g s) → below n f ≡ below n g
unfolding below
below_same zero f g e = refl
below_same (suc n) f g e = rw (below_same n f g (λ s h. e s (omega arith)), e n (omega arith))

pub below_none : (n : ℕ) (f : ℕ → Bool) → ((s : ℕ) → s < n → f s ≡ false) → below n f ≡ []
unfolding below
below_none zero f e = refl
below_none (suc n) f e = rw (below_none n f (λ s h. e s (omega arith)), e n (omega arith))

-- where none is picked from m on, the rest adds nothing
pub below_more : (m n : ℕ) (f : ℕ → Bool) → m ≤ n → ((s : ℕ) → m ≤ s → s < n → f s ≡ false) → below n f ≡ below m f
unfolding below
below_more m zero f l e = let z : m ≡ 0 = omega arith in rw z
below_more m (suc n) f l e = at (ℕ_discrete m (suc n)) (λ q. below_more m n f q (λ s a b. e s a (omega arith)))
  where
    at : Dec (m ≡ suc n) → (m ≤ n → below n f ≡ below m f) → below n f ++ cond (f n) (n ∷ []) [] ≡ below m f
    at (yes q) i = rw q
    at (no d) i = rw (e n (omega arith) (omega arith), append-nil (below n f)) (i (omega arith))

pub below_mem : (n : ℕ) (f : ℕ → Bool) (s : ℕ) → Memᴰ s (below n f) ↔ ((s < n) × (f s ≡ true))
unfolding below
below_mem zero f s = (λ m. absurd (Memᴰ.not-nil m), λ p. absurd (omega arith))
below_mem (suc n) f s = (λ m. ⊎_elim (older (below_mem n f s)) (newest (f n) refl) (Memᴰ.append_cases (below n f) m), of (below_mem n f s))
  where
    older : Memᴰ s (below n f) ↔ ((s < n) × (f s ≡ true)) → Memᴰ s (below n f) → (s < suc n) × (f s ≡ true)
    older i m = let p = i.0 m in (omega arith, p.1)

    newest : (b : Bool) → f n ≡ b → Memᴰ s (cond b (n ∷ []) []) → (s < suc n) × (f s ≡ true)
    newest true e m = let q = Memᴰ.eq_of_singleton m in (omega arith, rw q e)
    newest false e m = absurd (Memᴰ.not-nil m)

    of : Memᴰ s (below n f) ↔ ((s < n) × (f s ≡ true)) → (s < suc n) × (f s ≡ true) → Memᴰ s (below n f ++ cond (f n) (n ∷ []) [])
    of i p = at (ℕ_discrete s n)
      where
        at : Dec (s ≡ n) → Memᴰ s (below n f ++ cond (f n) (n ∷ []) [])
        at (yes e) =
            let t : f n ≡ true = rw e at p.1 in
            rw t (Memᴰ.append_right (below n f) (Memᴰ.head e))
        at (no d) = Memᴰ.append_left (cond (f n) (n ∷ []) []) (i.1 (omega arith, p.1))

rising_append : (l : List ℕ) (n : ℕ) → Rising l → ((t : ℕ) → Memᴰ t l → t < n) → Rising (l ++ (n ∷ []))
rising_append [] n r b = (λ t m. absurd (Memᴰ.not-nil m), tt)
rising_append (s ∷ l) n r b = (first, rising_append l n r.1 (λ t m. b t (Memᴰ.tail m)))
  where
    first : (t : ℕ) → Memᴰ t (l ++ (n ∷ [])) → s < t
    first t m = ⊎_elim (r.0 t) (λ q. let e = Memᴰ.eq_of_singleton q in rw e (b s (Memᴰ.head refl))) (Memᴰ.append_cases l m)

pub below_rising : (n : ℕ) (f : ℕ → Bool) → Rising (below n f)
unfolding below
below_rising zero f = tt
below_rising (suc n) f = at (f n) (below_rising n f)
  where
    at : (b : Bool) → Rising (below n f) → Rising (below n f ++ cond b (n ∷ []) [])
    at true r = rising_append (below n f) n r (λ t m. ((below_mem n f t).0 m).0)
    at false r = rw append-nil r

-- "exactly the states that this update made live or dead"
pub news_exact : (n : ℕ) (h : History) (x : Update) (s : ℕ) → Memᴰ s (news n h x) ↔ ((s < n) × Settles h x s)
unfolding news
news_exact n h x s = (
  λ m. (((below_mem n (settles h x) s).0 m).0, (decides_settles h x s).sound ((below_mem n (settles h x) s).0 m).1),
  λ p. (below_mem n (settles h x) s).1 (p.0, (decides_settles h x s).complete p.1),
)

-- "in rising order"
pub news_rising : (n : ℕ) (h : History) (x : Update) → Rising (news n h x)
unfolding news
news_rising n h x = below_rising n (settles h x)
