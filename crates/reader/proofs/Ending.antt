-- The end of a record: the newlines that it lacks are read to the last, since of two the first ends `states` or a count, which refuses nothing and has no news.
-- Assumes nothing.
use mathlib.Core.Path.{◌≡◌, refl, sym, ◌∙◌, ap, subst}
use mathlib.Core.Logic.{◌⊎◌, inl, inr}
use mathlib.Core.Bool.{false≢true}
use mathlib.Core.List.{List, [], ◌∷◌, ◌++◌}
use Prim.Native.Nat.{ℕ}
use native.Mathlib.Omega.{arith}
use lib.ListN.{length, length-append}
use Rattle.tables.specs.declared.Graph.{Graph}
use Rattle.tables.specs.Tables.{Tables}
use Rattle.record.specs.declared.splitter.Item.{Item}
use Rattle.record.specs.declared.splitter.Item.TheVariants.{States}
use Rattle.record.specs.declared.splitter.Splitter.{Splitter}
use Rattle.record.specs.Splitting.{last_newlines, tells}
use Rattle.record.proofs.Splitting.{last_short, last_part, Mild, silent, counts, first_mild}
use Rattle.std.specs.Prelude.{None}
use Rattle.reader.specs.declared.driver.Until.{Until}
use Rattle.reader.specs.Turning.{Answered, Came, sent, nothing, malformed, bad_names, too_many, states, bad_count}
use Rattle.reader.specs.Advancing.{Passed, items_of, Applies, none as no_line, next, waited, Stops, found, ended, Follows, Advances}
use Rattle.reader.proofs.Following.{never}

-- How the newlines that a record lacks can be split.
last_split : (s : Splitter) (read left : List ℕ) → last_newlines s ≡ read ++ left → (left ≡ []) ⊎ ((read ≡ []) ⊎ ((read ≡ 10 ∷ []) × (length (last_newlines s) ≡ 2)))
last_split s [] left e = inr (inl refl)
last_split s (x ∷ read) [] e = inl refl
last_split s (x ∷ []) (y ∷ []) e =
    let two : length (last_newlines s) ≡ 2 = ap length e in
    let same : ◌≡◌ {A = List ℕ} (10 ∷ 10 ∷ []) (x ∷ y ∷ []) = last_part s 2 (sym two) ∙ e in
    let ten : x ≡ 10 = cc in
    inr (inr (ap (λ (b : ℕ). b ∷ []) ten, two))
last_split s (x ∷ []) (y ∷ z ∷ left) e = absurd (omega (arith, last_short s, ap length e))
last_split s (x ∷ w ∷ read) (y ∷ left) e = absurd (omega (arith, last_short s, ap length e, length-append read (y ∷ left)))

-- What comes of a count is no answer.
pub count_answer : {a : Item} {c : ℕ} {g g' : Graph} {t t' : Tables} {o : Answered} → Came a g t g' t' o → a ≡ States c → o ≡ None
count_answer nothing e = refl
count_answer (sent p q w) e = absurd (let z : ◌≡◌ {A = ℕ} 0 1 = cc in omega arith)
count_answer malformed e = absurd (let z : ◌≡◌ {A = ℕ} 0 1 = cc in omega arith)
count_answer bad_names e = absurd (let z : ◌≡◌ {A = ℕ} 0 1 = cc in omega arith)
count_answer too_many e = absurd (let z : ◌≡◌ {A = ℕ} 0 1 = cc in omega arith)
count_answer states e = refl
count_answer bad_count e = absurd (let z : ◌≡◌ {A = ℕ} 0 1 = cc in omega arith)

-- Lines that were passed and tell a count at most have no answer.
abbrev pub Silent : List Passed → Type 0
Silent [] = Unit {0}
Silent (p ∷ l) = (p.answer ≡ None) × Silent l

pub mild_silent : {m : List Item} {g g' : Graph} {t t' : Tables} {l : List Passed} → Mild m → m ≡ items_of l → Applies g t l g' t' → Silent l
mild_silent silent e no_line = tt
mild_silent silent e (next c a) = absurd (let z = ap length e in omega arith)
mild_silent (counts k) e no_line = tt
mild_silent (counts k) e (next c no_line) = (count_answer {c = k} c (let z = e in cc), tt)
mild_silent (counts k) e (next c (next d a)) = absurd (let z = ap length e in omega arith)

silent_last : (before : List Passed) (p : Passed) → Silent (before ++ (p ∷ [])) → p.answer ≡ None
silent_last [] p q = q.0
silent_last (b ∷ before) p q = silent_last before p q.1

none_passed : (before : List Passed) (p : Passed) → [] ≡ items_of (before ++ (p ∷ [])) → ⊥
none_passed [] p e = let z = ap length e in omega arith
none_passed (b ∷ before) p e = let z = ap length e in omega arith

-- The first newline of two passes lines that have no answer.
pub first_silent : {s s' : Splitter} {newlines left : List ℕ} {g g' : Graph} {t t' : Tables} → newlines ≡ last_newlines s → (f : Follows s newlines g t s' left g' t') → (left ≡ []) ⊎ ((f.read ≡ []) ⊎ Silent f.passed)
first_silent {s} {left = left} n f = by (last_split s f.read left (sym n ∙ f.split))
  where
    by : (left ≡ []) ⊎ ((f.read ≡ []) ⊎ ((f.read ≡ 10 ∷ []) × (length (last_newlines s) ≡ 2))) → (left ≡ []) ⊎ ((f.read ≡ []) ⊎ Silent f.passed)
    by (inl e) = inl e
    by (inr (inl e)) = inr (inl e)
    by (inr (inr (e, two))) = inr (inr (mild_silent (first_mild s two) (ap (tells s) (sym e) ∙ f.told) f.applied))

-- So a reader that waits for a line reads them all.
pub last_all : {until : Until} {s s' : Splitter} {newlines left : List ℕ} {g g' : Graph} {t t' : Tables} {o : Answered} → newlines ≡ last_newlines s → Advances until s newlines g t s' left g' t' o → left ≡ []
unfolding tells
last_all {until} {s} {left = left} {o = o} n a = at a.stops
  where
    at : Stops until a.follows.passed left o → left ≡ []
    at (ended q e z) = e
    at (found before p e q w z) = by (first_silent n a.follows)
      where
        by : (left ≡ []) ⊎ ((a.follows.read ≡ []) ⊎ Silent a.follows.passed) → left ≡ []
        by (inl d) = d
        by (inr (inl d)) = absurd (none_passed before p (ap (tells s) (sym d) ∙ a.follows.told ∙ ap items_of e))
        by (inr (inr d)) = absurd (false≢true (sym (ap (waited until) (z ∙ silent_last before p (subst Silent e d)) ∙ never until) ∙ w))
