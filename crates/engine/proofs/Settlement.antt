-- What a settlement leaves, where all visited states are within the span: each of them has the verdict, no successor and its place in the news, and none is visited any more.
-- Assumes nothing.
use mathlib.Core.Path.{◌≡◌, refl, sym, ◌∙◌, ap}
use mathlib.Core.Bool.{Bool, true, false, not, cond, ◌&&◌, ◌||◌}
use mathlib.Core.List.{List}
use Prim.Native.Nat.{ℕ, suc, ◌<◌, ◌≤◌}
use lib.Dec.{leb}
use lib.ListN.{get_or, take}
use borrow.Author.Tests.{le-leb, lt-leb}
use Rattle.gid.specs.Successors.{no_successor}
use Rattle.gid.specs.Statuses.{status_live, status_dead, status_unknown, status_open, status_unseen}
use Rattle.gid.specs.News.{below}
use Rattle.gid.proofs.News.{below_same, below_more}
use Rattle.tables.specs.Visits.{NoneVisited, marked}
use Rattle.search.specs.Settling.{settled_from, Settled}
use Rattle.search.proofs.Settling.{told_same}
use Rattle.engine.specs.Effects.{named_byte}

module _ {low high verdict : ℕ} {st su ne vi st' su' ne' vi' : List ℕ} {k : ℕ} (z : Settled low high verdict st su ne vi st' su' ne' vi' k) (n : ℕ) (top : high < n) (within : (s : ℕ) → s < n → marked vi s ≡ true → (low ≤ s) × (s ≤ high)) where
  settled_is : (s : ℕ) → s < n → settled_from low high vi s ≡ marked vi s
  settled_is s b = at (marked vi s) refl
    where
      fails : (a c : Bool) → a && c && false ≡ false
      fails true true = refl
      fails true false = refl
      fails false c = refl

      at : (m : Bool) → marked vi s ≡ m → leb low s && leb s high && m ≡ m
      at true e = let w = within s b e in rw (le-leb low s w.0, le-leb s high w.1)
      at false e = fails (leb low s) (leb s high)

  pub status_is : (s : ℕ) → s < n → get_or st' s 0 ≡ cond (marked vi s) verdict (get_or st s 0)
  status_is s b = z.status s ∙ ap (λ (m : Bool). cond m verdict (get_or st s 0)) (settled_is s b)

  pub successor_is : (s : ℕ) → s < n → get_or su' s 0 ≡ cond (marked vi s) no_successor (get_or su s 0)
  successor_is s b = z.successor s ∙ ap (λ (m : Bool). cond m no_successor (get_or su s 0)) (settled_is s b)

  pub none_left : NoneVisited n vi'
  none_left s b = z.visited s ∙ ap (λ (m : Bool). marked vi s && not m) (settled_is s b) ∙ neither (marked vi s)
    where
      neither : (m : Bool) → m && not m ≡ false
      neither true = refl
      neither false = refl

  -- the news are the states of which a test holds, where that is the visited ones
  pub news_are : (f : ℕ → Bool) → ((s : ℕ) → s < n → f s ≡ marked vi s) → take k ne' ≡ below n f
  news_are f e =
      z.front ∙ told_same (below (suc high) (settled_from low high vi)) ∙
      sym (below_more (suc high) n (settled_from low high vi) top (λ s a b. above s a)) ∙
      below_same n (settled_from low high vi) f (λ s b. settled_is s b ∙ sym (e s b))
    where
      above : (s : ℕ) → suc high ≤ s → settled_from low high vi s ≡ false
      above s a = rw (lt-leb s high a) (fails (leb low s))
        where
          fails : (c : Bool) → c && false && marked vi s ≡ false
          fails true = refl
          fails false = refl

-- The status of a state by the four tests.
abbrev pub by_tests : Bool → Bool → Bool → Bool → ℕ
by_tests l d c n = cond l status_live (cond d status_dead (cond c status_unknown (cond n status_open status_unseen)))

-- After a step or a terminal mark that mentions the state (m), and by which it becomes live (w).
pub sent_status : (m w l d c n : Bool) → cond w status_live (cond m (named_byte (by_tests l d c n)) (by_tests l d c n)) ≡ by_tests (w || l) d c (m || n)
sent_status true true l d c n = refl
sent_status true false true d c n = refl
sent_status true false false true c n = refl
sent_status true false false false true n = refl
sent_status true false false false false true = refl
sent_status true false false false false false = refl
sent_status false true l d c n = refl
sent_status false false l d c n = refl

-- After a close of the state (e), and by which it becomes dead (w).
pub closed_status : (e w l d c n : Bool) → (e ≡ true → (l ≡ false) × (d ≡ false)) → (w ≡ true → l ≡ false) → cond w status_dead (cond e status_unknown (by_tests l d c n)) ≡ by_tests l (w || d) (e || c) (e || n)
closed_status e true l d c n p q = rw (q refl)
closed_status true false l d c n p q = let r = p refl in rw (r.0, r.1)
closed_status false false l d c n p q = refl
