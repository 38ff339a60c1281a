-- The lines of a written record are those of its head and the texts of its updates, and its items are the count and these updates, numbered from 4.
-- Assumes nothing.
use mathlib.Core.Path.{◌≡◌, refl, ◌∙◌, ap}
use mathlib.Core.Bool.{Bool, true, false, cond}
use mathlib.Core.List.{List, [], ◌∷◌, ◌++◌, map, append_assoc, Memᴰ}
use mathlib.Core.Option.{Option, some, none}
use Prim.Native.Nat.{ℕ, zero, suc, ◌+◌, ◌/◌, ◌%◌, ◌≤◌, ◌<◌}
use native.Mathlib.Omega.{arith}
use native.Mathlib.Decide.{dec_lt}
use lib.ListN.{length, length-append}
use borrow.Author.Tests.{le-leb}
use Rattle.gid.specs.declared.Update.{Update}
use Rattle.gid.specs.declared.Update.TheVariants.{Step, Terminal, Close}
use Rattle.gid.specs.Refusals.{max_states, max_steps}
use Rattle.record.specs.declared.splitter.Item.{Item}
use Rattle.record.specs.declared.splitter.Item.TheVariants.{Update as Read, States}
use Rattle.record.specs.declared.line.Form.TheVariants.{Keyed}
use Rattle.record.specs.Text.{decimal, states_line, head, field, text, names, Within}
use Rattle.record.specs.Lines.{lines}
use Rattle.record.specs.Items.{same, max_lines, further, from_names, from_count, all, items}
use Rattle.record.proofs.Decimals.{decimal_digit, decimal_more}
use Rattle.record.proofs.Reading.{Short, text_short, line_back, count_back}
use Rattle.record.proofs.Splitting.{Unbroken, none', more, lines_break}
use Rattle.writer.specs.declared.marking.LineMark.TheVariants.{Terminal as ForTerminal, Close as ForClose}
use Rattle.writer.specs.Order.{in_order, is_marked, marked_lines, step_at, step_lines, written_updates, bytes_of, names_bytes, head_bytes, record_of}

-- a byte that is no newline
byte : (b : ℕ) {l : List ℕ} → 10 < b → Unbroken l → Unbroken (b ∷ l)
byte b h u = more (λ (e : b ≡ 10). omega arith) u

unbroken_append : {a b : List ℕ} → Unbroken a → Unbroken b → Unbroken (a ++ b)
unbroken_append none' v = v
unbroken_append (more n u) v = more n (unbroken_append u v)

unbroken_digits : (k n : ℕ) → n ≤ k → Unbroken (decimal n)
unbroken_digits zero n h = rw (decimal_digit n (omega arith)) (byte (48 + n) (omega arith) none')
unbroken_digits (suc k) n h = by (dec_lt n 10) (unbroken_digits k (n / 10))
  where
    by : Dec (n < 10) → (n / 10 ≤ k → Unbroken (decimal (n / 10))) → Unbroken (decimal n)
    by (yes p) ih = rw (decimal_digit n p) (byte (48 + n) (omega arith) none')
    by (no p) ih = rw (decimal_more n (omega arith)) (unbroken_append (ih (omega arith)) (byte (48 + n % 10) (omega arith) none'))

unbroken_decimal : (n : ℕ) → Unbroken (decimal n)
unbroken_decimal n = unbroken_digits n n (omega arith)

unbroken_head : (kind from : ℕ) → 10 < kind → Unbroken (head kind from)
unbroken_head kind from h = byte kind h (byte 32 (omega arith) (unbroken_append (unbroken_decimal from) (byte 32 (omega arith) none')))

unbroken_field : (v : Option ℕ) → Unbroken (field v)
unbroken_field none = byte 45 (omega arith) none'
unbroken_field (some v) = unbroken_decimal v

unbroken_line : (kind from : ℕ) (to key : Option ℕ) → 10 < kind → Unbroken (head kind from ++ field to ++ (32 ∷ field key))
unbroken_line kind from to key h = unbroken_append (unbroken_append (unbroken_head kind from h) (unbroken_field to)) (byte 32 (omega arith) (unbroken_field key))

unbroken_text : (x : Update) → Unbroken (text Keyed x)
unbroken_text (Step e) = unbroken_line 69 e.from (some e.to) (some e.key) (omega arith)
unbroken_text (Terminal u) = unbroken_line 84 u none none (omega arith)
unbroken_text (Close u) = unbroken_line 67 u none none (omega arith)

lines_bytes : (l : List Update) → lines (bytes_of l) ≡ map (text Keyed) l
unfolding bytes_of lines
lines_bytes [] = refl
lines_bytes (x ∷ l) =
    ap lines (append_assoc (text Keyed x) (10 ∷ []) (bytes_of l)) ∙
    lines_break (bytes_of l) (unbroken_text x) ∙
    ap (λ (ls : List (List ℕ)). text Keyed x ∷ ls) (lines_bytes l)

-- the head's lines
states_lines : (s : List ℕ) → lines (states_line ++ (10 ∷ s)) ≡ states_line ∷ lines s
unfolding lines
states_lines s = refl

names_lines : (s : List ℕ) → lines (names Keyed ++ (10 ∷ s)) ≡ names Keyed ∷ lines s
unfolding lines
names_lines s = refl

head_lines : (n : ℕ) (s : List ℕ) → lines (head_bytes n ++ s) ≡ states_line ∷ decimal n ∷ names Keyed ∷ lines s
head_lines n s =
    ap lines (append_assoc (states_line ++ (10 ∷ []) ++ decimal n) (10 ∷ names_bytes) s ∙ append_assoc (states_line ++ (10 ∷ [])) (decimal n) (10 ∷ (names_bytes ++ s))) ∙ states_lines (decimal n ++ (10 ∷ (names_bytes ++ s))) ∙
    ap (λ (ls : List (List ℕ)). states_line ∷ ls) (lines_break (names_bytes ++ s) (unbroken_decimal n) ∙ ap (λ (ls : List (List ℕ)). decimal n ∷ ls) (names_lines s))

order_count : (n : ℕ) (test : ℕ → Bool) (update : ℕ → Update) → length (in_order n test update) ≤ n
unfolding in_order
order_count zero test update = omega arith
order_count (suc n) test update = rw length-append (by (test n) (order_count n test update))
  where
    by : (b : Bool) → length (in_order n test update) ≤ n → length (in_order n test update) + length (cond b (update n ∷ []) []) ≤ suc n
    by true h = omega arith
    by false h = omega arith

module _ (n m : ℕ) (marks from to key : List ℕ) where
  updates_count : length (written_updates n m marks from to key) ≤ n + (m + n)
  unfolding written_updates
  updates_count =
      let a = marked_lines ForTerminal n marks in
      let b = step_lines m from to key in
      let c = marked_lines ForClose n marks in
      omega (arith, length-append a (b ++ c), length-append b c, order_count n (is_marked ForTerminal marks) Terminal, order_count m (λ p. true) (step_at from to key), order_count n (is_marked ForClose marks) Close)

-- Lines that are updates, from a line number on.
unfoldable pub numbered : ℕ → List Update → List Item
numbered k [] = []
numbered k (x ∷ l) = Read (record { line = k; update = x }) ∷ numbered (k + 1) l

-- A line that can be read back.
abbrev pub Writable : Update → Type 0
Writable x = Within Keyed x × Short Keyed x

further_numbered : (l : List Update) (k : ℕ) → ((x : Update) → Memᴰ x l → Writable x) → k + length l ≤ max_lines + 1 → further Keyed k (map (text Keyed) l) ≡ numbered k l
unfolding further numbered
further_numbered [] k w h = refl
further_numbered (x ∷ l) k w h =
    rw (le-leb k max_lines (omega arith), let r = w x (Memᴰ.head refl) in line_back Keyed x r.0 (text_short Keyed x r.0 r.1), further_numbered l (k + 1) (λ y m. w y (Memᴰ.tail m)) (omega arith))

-- The record's items: the count, and the written updates from line 4 on. The longest record has 12,291 lines of 65,535.
pub items_record : (n m : ℕ) (marks from to key : List ℕ) → 0 < n → n ≤ max_states → m ≤ max_steps → ((x : Update) → Memᴰ x (written_updates n m marks from to key) → Writable x) → items (record_of n m marks from to key) ≡ States n ∷ numbered 4 (written_updates n m marks from to key)
unfolding items all from_count from_names record_of same
items_record n m marks from to key one few low w =
    rw (head_lines n (bytes_of (written_updates n m marks from to key)), lines_bytes (written_updates n m marks from to key), count_back n (omega arith) few)
    (ap (λ (l : List Item). States n ∷ l) (further_numbered (written_updates n m marks from to key) 4 w (omega (arith, updates_count n m marks from to key))))
