-- The laws of the visited marks, on entries with any contents: setting or clearing one leaves every other as it was.
-- Assumes nothing.
use mathlib.Core.Path.{◌≡◌, ◌∙◌}
use mathlib.Core.Bool.{true, false}
use mathlib.Core.List.{List}
use Prim.Native.Nat.{ℕ, ◌+◌, ◌*◌, ◌/◌, ◌%◌, ◌≤◌, ◌<◌}
use native.Mathlib.Omega.{arith}
use native.Mathlib.Decide.{ℕ_discrete, dec_lt}
use lib.ListN.{length, get_or, set}
use lib.Seq.{set_out, get_or-set_same, get_or-set_other}
use Rattle.tables.specs.Tables.{visited_length}
use Rattle.tables.specs.Bits.{has_bit, with_bit, without_bit}
use Rattle.tables.specs.Keeping.{KeptVisited}
use Rattle.tables.specs.Visits.{HasMark, marked, mark, unmark, NoneBetween, Marking, by_bit, NoneVisitedBy}
use Rattle.tables.specs.Earlier.{by_entry}
use Rattle.tables.specs.Fitting.{AllBelow}
use Rattle.tables.proofs.Keeping.{kept_set, kept_wider, visited_wider}
use Rattle.tables.proofs.BitLaws.{bit_same, bit_other, cleared_same, cleared_other, bit_none}

-- The marks of n nodes take no more entries than there are nodes, and those of more nodes no fewer.
pub visited_few : (n : ℕ) → visited_length n ≤ n
unfolding visited_length
visited_few n = omega arith

pub visited_more : (m n : ℕ) → m ≤ n → visited_length m ≤ visited_length n
visited_more m n h = visited_wider h

-- A table that is long enough for n nodes has a mark for each.
pub has-mark : (n : ℕ) (l : List ℕ) (s : ℕ) → s < n → visited_length n ≤ length l → HasMark l s
has-mark n l s h k = omega (arith, visited_more (s + 1) n (omega arith))

-- The entry of a node is one of those that its marks and those before it take.
pub entry_within : (n s : ℕ) → s < n → s / 16 < visited_length n
unfolding visited_length
entry_within n s h = omega arith

module _ (l : List ℕ) (s : ℕ) where
  pub has_entry : HasMark l s → s / 16 < length l
  has_entry h = omega (arith, entry_within (s + 1) s (omega arith))

  -- A store to the entry of s that leaves every bit but that of s leaves every other mark.
  marked_other : (v : ℕ) → ((j : ℕ) → (j ≡ s % 16 → ⊥) → has_bit j v ≡ has_bit j (get_or l (s / 16) 0)) → (r : ℕ) → (r ≡ s → ⊥) → marked (set l (s / 16) v) r ≡ marked l r
  unfolding marked
  marked_other v f r d = at (dec_lt (s / 16) (length l)) (ℕ_discrete (r / 16) (s / 16))
    where
      at : Dec (s / 16 < length l) → Dec (r / 16 ≡ s / 16) → has_bit (r % 16) (get_or (set l (s / 16) v) (r / 16) 0) ≡ has_bit (r % 16) (get_or l (r / 16) 0)
      at (no o) q = rw (set_out l (s / 16) v (omega arith))
      at (yes i) (yes e) = rw (e, get_or-set_same l (s / 16) v 0 i) (f (r % 16) (λ z. d (omega arith)))
      at (yes i) (no q) = rw (get_or-set_other l (s / 16) (r / 16) v 0 q)

  pub marked_mark : HasMark l s → marked (mark l s) s ≡ true
  unfolding marked mark
  marked_mark h = rw (get_or-set_same l (s / 16) (with_bit (s % 16) (get_or l (s / 16) 0)) 0 (has_entry h)) (bit_same (s % 16) (get_or l (s / 16) 0))

  pub marked_mark_other : (r : ℕ) → (r ≡ s → ⊥) → marked (mark l s) r ≡ marked l r
  unfolding mark
  marked_mark_other = marked_other (with_bit (s % 16) (get_or l (s / 16) 0)) (λ j. bit_other j (s % 16) (get_or l (s / 16) 0))

  -- What was visited stays so.
  pub mark_grows : (r : ℕ) → HasMark l s → marked l r ≡ true → marked (mark l s) r ≡ true
  mark_grows r h m = at (ℕ_discrete r s)
    where
      at : Dec (r ≡ s) → marked (mark l s) r ≡ true
      at (yes e) = rw e (marked_mark h)
      at (no d) = marked_mark_other r d ∙ m

  pub marked_unmark : HasMark l s → marked (unmark l s) s ≡ false
  unfolding marked unmark
  marked_unmark h = rw (get_or-set_same l (s / 16) (without_bit (s % 16) (get_or l (s / 16) 0)) 0 (has_entry h)) (cleared_same (s % 16) (get_or l (s / 16) 0))

  pub marked_unmark_other : (r : ℕ) → (r ≡ s → ⊥) → marked (unmark l s) r ≡ marked l r
  unfolding unmark
  marked_unmark_other = marked_other (without_bit (s % 16) (get_or l (s / 16) 0)) (λ j. cleared_other j (s % 16) (get_or l (s / 16) 0))

  module _ (n : ℕ) (h : s < n) where
    pub kept_mark : KeptVisited n l (mark l s)
    unfolding mark
    kept_mark = kept_set (visited_length n) l (s / 16) (with_bit (s % 16) (get_or l (s / 16) 0)) (entry_within n s h)

    pub kept_unmark : KeptVisited n l (unmark l s)
    unfolding unmark
    kept_unmark = kept_set (visited_length n) l (s / 16) (without_bit (s % 16) (get_or l (s / 16) 0)) (entry_within n s h)

-- In an entry that is 0 no node is visited.
pub blank_between : (l : List ℕ) (s : ℕ) → get_or l (s / 16) 0 ≡ 0 → NoneBetween l s (s / 16 * 16 + 16)
unfolding marked
blank_between l s z i a b = let e : i / 16 ≡ s / 16 = omega arith in rw (e, z) (bit_none (i % 16))

-- What is kept of fewer nodes' marks is kept of more.
pub visits_wider : {m n : ℕ} {l k : List ℕ} → KeptVisited m l k → m ≤ n → KeptVisited n l k
visits_wider {m} {n} p h = kept_wider p (visited_more m n h)

-- In both forms of the marks: where the needed entries are 0, none is visited.
abbrev pub ClearAtZero : Marking → Type 0
ClearAtZero form = (n : ℕ) (l : List ℕ) → AllBelow (form.entries n) 0 l → NoneVisitedBy form n l

pub zeros_unvisited : ClearAtZero by_bit
unfolding marked
zeros_unvisited n l z s h = rw (z (s / 16) (entry_within n s h)) (bit_none (s % 16))

pub zeros_unvisited_earlier : ClearAtZero by_entry
zeros_unvisited_earlier n l z s h = rw (z s h)
