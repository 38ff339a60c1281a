-- Counting the visited marks: what setting or clearing one does to a count.
-- Assumes nothing.
use mathlib.Core.Path.{◌≡◌, sym}
use mathlib.Core.Bool.{true, false, not}
use mathlib.Core.List.{List}
use Prim.Native.Nat.{ℕ, ◌+◌, ◌≤◌, ◌<◌}
use lib.ListN.{length}
use Rattle.tables.specs.Tables.{visited_length}
use Rattle.tables.specs.Visits.{marked, mark, unmark}
use Rattle.tables.proofs.Marking.{has-mark, marked_mark, marked_mark_other, marked_unmark, marked_unmark_other}
use Rattle.search.specs.Counting.{count}
use Rattle.search.proofs.Counting.{count_one}

module _ (l : List ℕ) (s n : ℕ) (h : s < n) (k : visited_length n ≤ length l) where
  -- One node more is visited: one less is not.
  pub unvisited_mark : marked l s ≡ false → count n (λ r. not (marked l r)) ≡ count n (λ r. not (marked (mark l s) r)) + 1
  unvisited_mark e =
      count_one n (λ r. not (marked l r)) (λ r. not (marked (mark l s) r)) s h (rw e) (rw (marked_mark l s (has-mark n l s h k))) (λ r q d. rw (marked_mark_other l s r d))

  pub visited_unmark : marked l s ≡ true → count n (marked l) ≡ count n (marked (unmark l s)) + 1
  visited_unmark e =
      count_one n (marked l) (marked (unmark l s)) s h e (marked_unmark l s (has-mark n l s h k)) (λ r q d. sym (marked_unmark_other l s r d))
