-- Ranks and histories: the history of a rank, the rank of a history, and that ranks are in the order of the histories.
-- Assumes nothing.
use mathlib.Core.Path.{◌≡◌, refl, sym, ◌∙◌, ap}
use mathlib.Core.Logic.{inl, inr, ⊎_elim}
use mathlib.Core.List.Memᴰ
use mathlib.Core.List.{[], ◌∷◌}
use Prim.Native.Nat.{ℕ, zero, suc, ◌+◌, ◌*◌, ◌-◌, ◌/◌, ◌%◌, ◌<◌, ◌≤◌}
use native.Mathlib.Omega.{arith}
use native.Mathlib.Decide.{dec_lt}
use lib.ListN.{length}
use Rattle.gid.specs.declared.Update.{Update}
use Rattle.gid.specs.Histories.{History, Has}
use Rattle.enumeration.specs.Small.{SmallUpdate, UpdateByUpdate, Before}
use Rattle.enumeration.specs.Ranking.{update_at, unranked_in, unranked}
use Rattle.enumeration.specs.Parts.{newest_of, older_of}
use Rattle.enumeration.proofs.Places.{place, small_at, at_place, place_below, sooner_at, not_sooner}

-- Induction over ranks: what holds of 0, and of a rank where it holds of the one before its newest update, holds of all.
by_rank : (P : ℕ → Type 0) → P 0 → ((i : ℕ) → P (i / 8) → P (suc i)) → (i : ℕ) → P i
by_rank P z s i = at i i (omega arith)
  where
    at : (k j : ℕ) → j ≤ k → P j
    at zero j l = let e : j ≡ 0 = omega arith in rw e z
    at (suc k) j l = by j l (at k)
      where
        by : (m : ℕ) → m ≤ suc k → ((a : ℕ) → a ≤ k → P a) → P m
        by zero p ih = z
        by (suc m) p ih = s m (ih (m / 8) (omega arith))

-- any bound that is large enough gives the same history
none : (k : ℕ) → unranked_in k 0 ≡ []
unfolding unranked_in
none zero = refl
none (suc k) = refl

enough : (i j k : ℕ) → i ≤ j → i ≤ k → unranked_in j i ≡ unranked_in k i
unfolding unranked_in
enough = by_rank (λ i. (j k : ℕ) → i ≤ j → i ≤ k → unranked_in j i ≡ unranked_in k i) (λ j k p q. none j ∙ sym (none k)) more
  where
    more : (i : ℕ) → ((j k : ℕ) → i / 8 ≤ j → i / 8 ≤ k → unranked_in j (i / 8) ≡ unranked_in k (i / 8)) → (j k : ℕ) → suc i ≤ j → suc i ≤ k → unranked_in j (suc i) ≡ unranked_in k (suc i)
    more i ih zero k p q = absurd (omega arith)
    more i ih (suc j) zero p q = absurd (omega arith)
    more i ih (suc j) (suc k) p q = ap (λ (h : History). update_at (i % 8) ∷ h) (ih j k (omega arith) (omega arith))

pub unranked_none : unranked 0 ≡ []
unfolding unranked unranked_in
unranked_none = refl

pub unranked_more : (i : ℕ) → unranked (suc i) ≡ update_at (i % 8) ∷ unranked (i / 8)
unfolding unranked unranked_in
unranked_more i = ap (λ (h : History). update_at (i % 8) ∷ h) (enough (i / 8) i (i / 8) (omega arith) (omega arith))

pub unranked_newest : (i : ℕ) → 0 < i → unranked i ≡ newest_of i ∷ unranked (older_of i)
unranked_newest zero h = absurd (omega arith)
unranked_newest (suc i) h = unranked_more i ∙ (let e : i ≡ suc i - 1 = omega arith in ap (λ (j : ℕ). update_at (j % 8) ∷ unranked (j / 8)) e)

-- The rank of a history.
abbrev pub rank : History → ℕ
rank [] = 0
rank (x ∷ h) = suc (rank h * 8 + place x)

abbrev pub AllSmall : History → Type 0
AllSmall h = (x : Update) → Has h x → SmallUpdate x

pub unranked_rank : (h : History) → AllSmall h → unranked (rank h) ≡ h
unranked_rank [] s = unranked_none
unranked_rank (x ∷ h) s =
    let p = s x (Memᴰ.head refl) in
    let l = place_below x p in
    let e : (rank h * 8 + place x) % 8 ≡ place x = omega arith in
    let f : (rank h * 8 + place x) / 8 ≡ rank h = omega arith in
    unranked_more (rank h * 8 + place x) ∙ (rw (e, f, at_place x p, unranked_rank h (λ y m. s y (Memᴰ.tail m))))

-- How many ranks there are for at most k updates.
abbrev pub ranks_of : ℕ → ℕ
ranks_of zero = 1
ranks_of (suc k) = ranks_of k * 8 + 1

pub rank_below : (k : ℕ) (h : History) → length h ≤ k → AllSmall h → rank h < ranks_of k
rank_below zero [] l s = omega arith
rank_below (suc k) [] l s = omega arith
rank_below zero (x ∷ h) l s = absurd (omega arith)
rank_below (suc k) (x ∷ h) l s =
    let p = place_below x (s x (Memᴰ.head refl)) in
    let i = rank_below k h (omega arith) (λ y m. s y (Memᴰ.tail m)) in
    omega arith

pub unranked_short : (k i : ℕ) → i < ranks_of k → length (unranked i) ≤ k
unranked_short k i = by_rank (λ j. (m : ℕ) → j < ranks_of m → length (unranked j) ≤ m) (λ m l. rw unranked_none (omega arith)) more i k
  where
    more : (j : ℕ) → ((m : ℕ) → j / 8 < ranks_of m → length (unranked (j / 8)) ≤ m) → (m : ℕ) → suc j < ranks_of m → length (unranked (suc j)) ≤ m
    more j ih zero l = absurd (omega arith)
    more j ih (suc m) l = rw (unranked_more j) (omega (arith, ih m (omega arith)))

pub unranked_small : (i : ℕ) → AllSmall (unranked i)
unranked_small = by_rank (λ i. AllSmall (unranked i)) (λ x m. absurd (Memᴰ.not-nil (rw unranked_none at m))) more
  where
    more : (i : ℕ) → AllSmall (unranked (i / 8)) → AllSmall (unranked (suc i))
    more i ih x m = ⊎_elim (λ e. rw e (small_at (i % 8) (omega arith))) (ih x) (Memᴰ.cases_cons (rw (unranked_more i) at m))

-- one update more keeps the order
before_more : (x y : Update) (h g : History) → Before h g → Before (x ∷ h) (y ∷ g)
before_more x y h g (inl l) = inl (omega arith)
before_more x y h g (inr p) = inr (ap suc p.0, inl p.1)

pub unranked_before : (i j : ℕ) → i < j → Before (unranked i) (unranked j)
unranked_before i j = by_rank (λ b. (a : ℕ) → a < b → Before (unranked a) (unranked b)) (λ a l. absurd (omega arith)) more j i
  where
    newest : (a b : ℕ) → a ≡ b → (c d : ℕ) → c < d → d < 8 → Before (update_at c ∷ unranked a) (update_at d ∷ unranked b)
    newest a b e c d l m = inr (rw e, inr (ap unranked e, sooner_at c d l m))

    more : (b : ℕ) → ((a : ℕ) → a < b / 8 → Before (unranked a) (unranked (b / 8))) → (a : ℕ) → a < suc b → Before (unranked a) (unranked (suc b))
    more b ih zero l = rw (unranked_none, unranked_more b) (inl (omega arith))
    more b ih (suc a) l = rw (unranked_more a, unranked_more b) (by (dec_lt (a / 8) (b / 8)))
      where
        by : Dec (a / 8 < b / 8) → Before (update_at (a % 8) ∷ unranked (a / 8)) (update_at (b % 8) ∷ unranked (b / 8))
        by (yes q) = before_more (update_at (a % 8)) (update_at (b % 8)) (unranked (a / 8)) (unranked (b / 8)) (ih (a / 8) q)
        by (no q) = newest (a / 8) (b / 8) (omega arith) (a % 8) (b % 8) (omega arith) (omega arith)

-- no history stands before itself
not_by_update : (h : History) → UpdateByUpdate h h → ⊥
not_by_update [] u = elim u [ ]
not_by_update (x ∷ h) (inl u) = not_by_update h u
not_by_update (x ∷ h) (inr u) = not_sooner x u.1

pub not_before : (h : History) → Before h h → ⊥
not_before h (inl l) = omega arith
not_before h (inr u) = not_by_update h u.1
