-- The state that a record's head lets pass is one of the record's; a status is one of five.
-- Assumes nothing.
use mathlib.Core.Path.{◌≡◌, refl}
use mathlib.Core.Bool.{Bool, true, false, cond}
use mathlib.Core.List.{List, [], ◌∷◌}
use mathlib.Core.Option.{Option, some, none}
use Prim.Native.Nat.{ℕ, ◌<◌, ◌≤◌}
use lib.Dec.{leb}
use borrow.Author.Tests.{leb-false}
use native.Mathlib.Omega.{arith}
use Rattle.gid.specs.Histories.{History}
use Rattle.gid.specs.Statuses.{status, status_dead}
use Rattle.gid.proofs.Statuses.{Classified, classified, as_live, as_dead, as_unknown, as_open, as_unseen}
use Rattle.record.specs.declared.splitter.Item.{Item}
use Rattle.record.specs.declared.splitter.Item.TheVariants.{Nothing, Update as Read, Malformed, BadNames, TooMany, States, BadCount}
use Rattle.record.specs.Items.{count_in}
use Rattle.reader.specs.Opening.{reader_states, reader_graph}
use Rattle.reader.specs.Replaying.{start_of}
use Rattle.query.specs.Answering.{out_of_range, head_refusal}

range_below : (n s : ℕ) → out_of_range n s ≡ none → s < n
range_below n s = by (leb n s) refl
  where
    by : (q : Bool) → leb n s ≡ q → cond {A = Option ℕ} q (some 5) none ≡ none → s < n
    by true p e = absurd (let z : ◌≡◌ {A = ℕ} 0 1 = cc in omega arith)
    by false p e = leb-false n s p

-- Where it passes, the state is one of the record's.
pub head_below : (limit : ℕ) (l : List Item) (s : ℕ) → head_refusal (count_in l) s ≡ none → s < (start_of (reader_graph limit) l).n
head_below limit [] s e = range_below reader_states s e
head_below limit (Nothing ∷ l) s e = range_below reader_states s e
head_below limit (Read r ∷ l) s e = range_below reader_states s e
head_below limit (Malformed n ∷ l) s e = range_below reader_states s e
head_below limit (BadNames n ∷ l) s e = range_below reader_states s e
head_below limit (TooMany ∷ l) s e = range_below reader_states s e
head_below limit (States c ∷ l) s e = range_below c s e
head_below limit (BadCount ∷ l) s e = absurd (let z : ◌≡◌ {A = ℕ} 0 1 = cc in omega arith)

-- A status is at most 4, below what any refusal answers.
pub status_few : (h : History) (s : ℕ) → status h s ≤ status_dead
status_few h s = by (status h s) (classified h s)
  where
    by : (k : ℕ) → Classified h s k → k ≤ status_dead
    by k (as_live e _) = omega arith
    by k (as_dead e _) = omega arith
    by k (as_unknown e _ _ _) = omega arith
    by k (as_open e _ _ _) = omega arith
    by k (as_unseen e _) = omega arith
