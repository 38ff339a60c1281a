-- What the head of a record says of its states is known by its first two lines, and a count comes at the front of a record's items or not at all.
-- Assumes nothing.
use mathlib.Core.Path.{◌≡◌, refl, sym, ◌∙◌, ap}
use mathlib.Core.Logic.{inl, inr}
use mathlib.Core.Bool.{Bool, true, false, cond, false≢true}
use mathlib.Core.List.{List, [], ◌∷◌, ◌++◌, append_assoc}
use mathlib.Core.Option.{Option, some, none}
use Prim.Native.Nat.{ℕ, ◌+◌, ◌≤◌, ◌<◌}
use native.Mathlib.Omega.{arith}
use lib.Dec.{leb, ltb, eqb}
use lib.ListN.{length, take, drop, length-append}
use lib.Seq.{take_at, take-length, drop_at}
use borrow.Author.Tests.{ltb-false}
use Rattle.std.specs.Prelude.{Some, None, position}
use Rattle.std.specs.Option.{unwrap_or}
use Rattle.std.specs.List.{position_or_len}
use Rattle.std.proofs.lemmas.List.Recursion.{is_position_or_len}
use Rattle.gid.specs.Refusals.{max_states}
use Rattle.gid.specs.declared.Update.{Update}
use Rattle.record.specs.declared.line.Form.{Form}
use Rattle.record.specs.declared.line.Form.TheVariants.{Plain, Keyed}
use Rattle.record.specs.declared.splitter.Item.{Item}
use Rattle.record.specs.declared.splitter.Item.TheVariants.{Nothing, Update as Read, Malformed, BadNames, TooMany, States, BadCount}
use Rattle.record.specs.Text.{states_line, names}
use Rattle.record.specs.Grammar.{value, line_of, count_of}
use Rattle.record.specs.Lines.{lines, before}
use Rattle.record.specs.Items.{same, line_item, max_lines, further, from_names, count_items, from_count, all, items, count_in}
use Rattle.record.specs.Splitting.{count_fed}
use Rattle.record.proofs.Reading.{count_only}
use Rattle.record.proofs.Splitting.{Unbroken, lines_break, lines_last, Broken, broken, before_length}

-- The lines behind a count hold none.
abbrev pub NoCount : Item → Type 0
NoCount Nothing = Unit {0}
NoCount (Read x) = Unit {0}
NoCount (Malformed n) = Unit {0}
NoCount (BadNames n) = Unit {0}
NoCount TooMany = Unit {0}
NoCount (States c) = ⊥
NoCount BadCount = Unit {0}

abbrev pub NoCounts : List Item → Type 0
NoCounts [] = Unit {0}
NoCounts (a ∷ l) = NoCount a × NoCounts l

-- The first line may be one, from 1 to 2,048.
abbrev pub MayCount : Item → Type 0
MayCount Nothing = Unit {0}
MayCount (Read x) = Unit {0}
MayCount (Malformed n) = Unit {0}
MayCount (BadNames n) = Unit {0}
MayCount TooMany = Unit {0}
MayCount (States c) = (1 ≤ c) × (c ≤ max_states)
MayCount BadCount = Unit {0}

abbrev pub Headed : List Item → Type 0
Headed [] = Unit {0}
Headed (a ∷ l) = MayCount a × NoCounts l

line_uncounted : (n : ℕ) (o : Option Update) → NoCount (line_item n o)
line_uncounted n none = tt
line_uncounted n (some x) = tt

further_uncounted : (f : Form) (n : ℕ) (ls : List (List ℕ)) → NoCounts (further f n ls)
unfolding further
further_uncounted f n [] = tt
further_uncounted f n (l ∷ ls) = by (leb n max_lines) (further_uncounted f (n + 1) ls)
  where
    by : (t : Bool) → NoCounts (further f (n + 1) ls) → NoCounts (cond t (line_item n (line_of f l) ∷ further f (n + 1) ls) (TooMany ∷ []))
    by true h = (line_uncounted n (line_of f l), h)
    by false h = (tt, tt)

named_uncounted : (n : ℕ) (ls : List (List ℕ)) → NoCounts (from_names n ls)
unfolding from_names
named_uncounted n [] = (tt, tt)
named_uncounted n (l ∷ ls) = by (same l (names Plain)) (same l (names Keyed))
  where
    by : (t u : Bool) → NoCounts (cond t (further Plain (n + 1) ls) (cond u (further Keyed (n + 1) ls) (BadNames n ∷ [])))
    by true u = further_uncounted Plain (n + 1) ls
    by false true = further_uncounted Keyed (n + 1) ls
    by false false = (tt, tt)

may_count : (a : Item) → NoCount a → MayCount a
may_count Nothing h = tt
may_count (Read x) h = tt
may_count (Malformed n) h = tt
may_count (BadNames n) h = tt
may_count TooMany h = tt
may_count (States c) h = absurd h
may_count BadCount h = tt

pub uncounted_headed : (l : List Item) → NoCounts l → Headed l
uncounted_headed [] h = tt
uncounted_headed (a ∷ l) h = (may_count a h.0, h.1)

count_headed : (ls : List (List ℕ)) → Headed (from_count ls)
unfolding from_count
count_headed [] = (tt, tt)
count_headed (l ∷ ls) = by (count_of l) refl
  where
    by : (o : Option ℕ) → count_of l ≡ o → Headed (count_items o (from_names 3 ls))
    by none e = (tt, tt)
    by (some c) e = let w = count_only l c e in ((w.1, w.2), named_uncounted 3 ls)

all_headed : (ls : List (List ℕ)) → Headed (all ls)
unfolding all
all_headed [] = uncounted_headed (from_names 1 []) (named_uncounted 1 [])
all_headed (l ∷ ls) = by (same l states_line)
  where
    by : (t : Bool) → Headed (cond t (from_count ls) (from_names 1 (l ∷ ls)))
    by true = count_headed ls
    by false = uncounted_headed (from_names 1 (l ∷ ls)) (named_uncounted 1 (l ∷ ls))

-- Of a record's items only the first may be a count.
pub items_headed : (s : List ℕ) → Headed (items s)
unfolding items
items_headed s = all_headed (lines s)

-- the front of a list
pub headed_front : (l m : List Item) → Headed (l ++ m) → Headed l
headed_front [] m h = tt
headed_front (a ∷ l) m h = (h.0, front l h.1)
  where
    front : (k : List Item) → NoCounts (k ++ m) → NoCounts k
    front [] h = tt
    front (b ∷ k) h = (h.0, front k h.1)

-- and what is behind it
pub headed_back : (a : Item) (l m : List Item) → Headed (a ∷ l ++ m) → NoCounts m
headed_back a l m h = back l h.1
  where
    back : (k : List Item) → NoCounts (k ++ m) → NoCounts m
    back [] h = h
    back (b ∷ k) h = back k h.1

-- what the lines from the names line on say of the states: nothing
further_in : (f : Form) (n : ℕ) (ls : List (List ℕ)) → count_in (further f n ls) ≡ Nothing
unfolding further
further_in f n [] = refl
further_in f n (l ∷ ls) = by (leb n max_lines)
  where
    line : (o : Option Update) (m : List Item) → count_in (line_item n o ∷ m) ≡ Nothing
    line none m = refl
    line (some x) m = refl

    by : (t : Bool) → count_in (cond t (line_item n (line_of f l) ∷ further f (n + 1) ls) (TooMany ∷ [])) ≡ Nothing
    by true = line (line_of f l) (further f (n + 1) ls)
    by false = refl

named_in : (n : ℕ) (ls : List (List ℕ)) → count_in (from_names n ls) ≡ Nothing
unfolding from_names
named_in n [] = refl
named_in n (l ∷ ls) = by (same l (names Plain)) (same l (names Keyed))
  where
    by : (t u : Bool) → count_in (cond t (further Plain (n + 1) ls) (cond u (further Keyed (n + 1) ls) (BadNames n ∷ []))) ≡ Nothing
    by true u = further_in Plain (n + 1) ls
    by false true = further_in Keyed (n + 1) ls
    by false false = refl

count-in : (o : Option ℕ) (m : List Item) → count_in (count_items o m) ≡ (count_fed o).item
count-in none m = refl
count-in (some c) m = refl

-- What is said by the lines behind `states`: by the next one, which may be missing.
counted_in : (u : List ℕ) → count_in (from_count (lines u)) ≡ (count_fed (count_of (before u))).item
unfolding from_count lines before count_of value
counted_in [] = refl
counted_in (b ∷ u) = by (broken (b ∷ u))
  where
    first : (ls : List (List ℕ)) → lines (b ∷ u) ≡ before (b ∷ u) ∷ ls → count_in (from_count (lines (b ∷ u))) ≡ (count_fed (count_of (before (b ∷ u)))).item
    first ls e = rw e (count-in (count_of (before (b ∷ u))) (from_names 3 ls))

    by : Unbroken (before (b ∷ u)) × Broken (b ∷ u) → count_in (from_count (lines (b ∷ u))) ≡ (count_fed (count_of (before (b ∷ u)))).item
    by (k, inl e) = first [] (lines_last b u (rw e at k) ∙ ap (λ (l : List ℕ). l ∷ []) (sym e))
    by (k, inr (v, e)) = first (lines v) (ap lines e ∙ lines_break v k)

-- A 17 stands alone.
bad_counted : (ls : List (List ℕ)) → count_in (from_count ls) ≡ BadCount → from_count ls ≡ BadCount ∷ []
unfolding from_count
bad_counted [] e = refl
bad_counted (l ∷ ls) e = by (count_of l) e
  where
    by : (o : Option ℕ) → count_in (count_items o (from_names 3 ls)) ≡ BadCount → count_items o (from_names 3 ls) ≡ BadCount ∷ []
    by none z = refl
    by (some c) z = absurd (let w : ◌≡◌ {A = ℕ} 0 1 = cc in omega arith)

bad_all : (ls : List (List ℕ)) → count_in (all ls) ≡ BadCount → all ls ≡ BadCount ∷ []
unfolding all
bad_all [] e = absurd (let z = named_in 1 [] in let w : ◌≡◌ {A = ℕ} 0 1 = cc in omega arith)
bad_all (l ∷ ls) e = by (same l states_line) e
  where
    by : (t : Bool) → count_in (cond t (from_count ls) (from_names 1 (l ∷ ls))) ≡ BadCount → cond t (from_count ls) (from_names 1 (l ∷ ls)) ≡ BadCount ∷ []
    by true z = bad_counted ls z
    by false z = absurd (let y = named_in 1 (l ∷ ls) in let w : ◌≡◌ {A = ℕ} 0 1 = cc in omega arith)

pub bad_alone : (s : List ℕ) → count_in (items s) ≡ BadCount → items s ≡ BadCount ∷ []
unfolding items
bad_alone s e = bad_all (lines s) e

-- The bytes before the first newline are the front of all.
pub before_front : (s : List ℕ) (n : ℕ) → n ≡ length (before s) → take n s ≡ before s
before_front s n e = rw e (by (broken s))
  where
    by : Unbroken (before s) × Broken s → take (length (before s)) s ≡ before s
    by (k, inl q) = ap (λ (x : List ℕ). take (length x) s) q ∙ take-length s ∙ sym q
    by (k, inr (v, q)) = ap (take (length (before s))) q ∙ take_at (before s) (10 ∷ v) (length (before s)) refl

-- and there are as many as the place of the newline says, or all
before_counted : (s : List ℕ) → length (before s) ≡ position_or_len (λ b. eqb b 10) s
unfolding before
before_counted = is_position_or_len (λ s. length (before s)) (λ b. eqb b 10) refl more
  where
    more : (x : ℕ) (s : List ℕ) → length (before (x ∷ s)) ≡ cond (eqb x 10) 0 (1 + length (before s))
    more x s = by (eqb x 10)
      where
        by : (t : Bool) → length (cond t [] (x ∷ before s)) ≡ cond t 0 (1 + length (before s))
        by true = refl
        by false = omega arith

pub before_position : (s : List ℕ) → unwrap_or (position (λ b. eqb b 10) s) (length s) ≡ length (before s)
before_position s = rw (← before_counted s) (by (ltb (length (before s)) (length s)) refl)
  where
    by : (t : Bool) → ltb (length (before s)) (length s) ≡ t → unwrap_or (cond t (Some (length (before s))) None) (length s) ≡ length (before s)
    by true e = refl
    by false e = omega (arith, ltb-false (length (before s)) (length s) e, before_length s)

module _ (s : List ℕ) where
  -- The first line is another.
  pub no_states : same (before s) states_line ≡ false → Nothing ≡ count_in (items s)
  unfolding items all same lines
  no_states e = sym (by s refl e)
    where
      other : (l : List ℕ) (ls : List (List ℕ)) → same l states_line ≡ false → count_in (all (l ∷ ls)) ≡ Nothing
      other l ls z = rw z (named_in 1 (l ∷ ls))

      by : (t : List ℕ) → s ≡ t → same (before t) states_line ≡ false → count_in (all (lines t)) ≡ Nothing
      by [] q z = named_in 1 []
      by (b ∷ t) q z = at (broken (b ∷ t))
        where
          at : Unbroken (before (b ∷ t)) × Broken (b ∷ t) → count_in (all (lines (b ∷ t))) ≡ Nothing
          at (k, inl e) = rw (lines_last b t (rw e at k)) (other (b ∷ t) [] (rw e at z))
          at (k, inr (v, e)) = rw (ap lines e ∙ lines_break v k) (other (before (b ∷ t)) (lines v) z)

  -- It is `states`, and the bytes end with it.
  pub missing_count : same (before s) states_line ≡ true → length s ≤ length (before s) → BadCount ≡ count_in (items s)
  unfolding items all from_count same before
  missing_count e h = sym (by s refl e)
    where
      by : (t : List ℕ) → s ≡ t → same (before t) states_line ≡ true → count_in (all (lines t)) ≡ BadCount
      by [] q z = absurd (false≢true z)
      by (b ∷ t) q z = at (broken (b ∷ t))
        where
          at : Unbroken (before (b ∷ t)) × Broken (b ∷ t) → count_in (all (lines (b ∷ t))) ≡ BadCount
          at (k, inl e) = rw (lines_last b t (rw e at k), rw e at z) refl
          at (k, inr (v, e)) = absurd (omega (arith, h, ap length e, length-append (before (b ∷ t)) (10 ∷ v), ap (λ (x : List ℕ). length (before x)) q, ap length q))

  -- It is `states`, and the next one decides.
  pub has_count : same (before s) states_line ≡ true → length (before s) < length s → (count_fed (count_of (before (drop (length (before s) + 1) s)))).item ≡ count_in (items s)
  unfolding items all
  has_count e h = by (broken s)
    where
      by : Unbroken (before s) × Broken s → (count_fed (count_of (before (drop (length (before s) + 1) s)))).item ≡ count_in (all (lines s))
      by (k, inl q) = absurd (omega (arith, h, ap length q))
      by (k, inr (v, q)) =
          let behind : drop (length (before s) + 1) s ≡ v = ap (drop (length (before s) + 1)) (q ∙ sym (append_assoc (before s) (10 ∷ []) v)) ∙ drop_at (before s ++ (10 ∷ [])) v (length (before s) + 1) (length-append (before s) (10 ∷ [])) in
          ap (λ (x : List ℕ). (count_fed (count_of (before x))).item) behind ∙ sym (counted_in v) ∙
          sym (ap (λ (x : List (List ℕ)). count_in (all x)) (ap lines q ∙ lines_break v k) ∙ states)
        where
          states : count_in (all (before s ∷ lines v)) ≡ count_in (from_count (lines v))
          states = rw e
