-- The bytes of the lines: what one state or step adds, and how long they are.
-- Assumes nothing.
use mathlib.Core.Path.{◌≡◌, refl, sym, ◌∙◌, ap}
use mathlib.Core.Bool.{Bool, true, false, cond}
use mathlib.Core.List.{List, [], ◌∷◌, ◌++◌, append_assoc, append-nil}
use Prim.Native.Nat.{ℕ, zero, suc, ◌+◌, ◌/◌, ◌≤◌, ◌<◌}
use native.Mathlib.Omega.{arith}
use native.Mathlib.Numerals.{add-one}
use native.Mathlib.Decide.{ℕ_discrete}
use lib.ListN.{length, get_or, take, length-append}
use Rattle.std.proofs.lemmas.List.{length-take-le, get_or-take}
use Rattle.gid.specs.declared.Edge.{Edge}
use Rattle.gid.specs.declared.Update.{Update}
use Rattle.gid.specs.declared.Update.TheVariants.{Step, Terminal, Close}
use Rattle.record.specs.declared.line.Form.TheVariants.{Keyed}
use Rattle.record.specs.Text.{decimal, states_line, text, max_value, Within}
use Rattle.record.proofs.Decimals.{decimal_digit, five_digits as most}
use Rattle.record.specs.declared.text.TextBuffer.{TextBuffer}
use Rattle.record.specs.Putting.{Puts}
use Rattle.record.proofs.Putting.{puts_then}
use Rattle.record.proofs.Writing.{room_more, step_length, mark_length}
use Rattle.writer.specs.declared.marking.LineMark.{LineMark}
use Rattle.writer.specs.declared.marking.LineMark.TheVariants.{Terminal as ForTerminal, Close as ForClose}
use Rattle.writer.specs.Order.{has_mark, marking, in_order, is_marked, marked_lines, step_at, step_lines, written_updates, line_bytes, bytes_of, names_bytes, head_bytes, record_of}
use Rattle.writer.specs.declared.source.Source.{Source}
use Rattle.writer.specs.Sizing.{mark_line, listed_lines, source_record}

pub one_digit : (v : ℕ) → v < 10 → length (decimal v) ≡ 1
one_digit v h = rw (decimal_digit v h)

-- one digit more for ten times the number
more_digits : (v k : ℕ) → 10 ≤ v → length (decimal (v / 10)) ≡ k → length (decimal v) ≡ k + 1
more_digits v k h e = room_more v h ∙ ap (λ (n : ℕ). n + 1) e

pub two_digits : (v : ℕ) → 10 ≤ v → v < 100 → length (decimal v) ≡ 2
two_digits v p q = more_digits v 1 p (one_digit (v / 10) (omega arith))

pub three_digits : (v : ℕ) → 100 ≤ v → v < 1000 → length (decimal v) ≡ 3
three_digits v p q = more_digits v 2 (omega arith) (two_digits (v / 10) (omega arith) (omega arith))

pub four_digits : (v : ℕ) → 1000 ≤ v → v < 10000 → length (decimal v) ≡ 4
four_digits v p q = more_digits v 3 (omega arith) (three_digits (v / 10) (omega arith) (omega arith))

pub five_digits : (v : ℕ) → 10000 ≤ v → v < 100000 → length (decimal v) ≡ 5
five_digits v p q = more_digits v 4 (omega arith) (four_digits (v / 10) (omega arith) (omega arith))

-- a line has its newline behind its text
pub line_length : (x : Update) → length (line_bytes x) ≡ length (text Keyed x) + 1
line_length x = length-append (text Keyed x) (10 ∷ [])

pub step_size : (e : Edge) → length (line_bytes (Step e)) ≡ length (decimal e.from) + length (decimal e.to) + length (decimal e.key) + 5
step_size e = omega (arith, line_length (Step e), step_length e)

pub terminal_size : (u : ℕ) → length (line_bytes (Terminal u)) ≡ length (decimal u) + 7
terminal_size u = omega (arith, line_length (Terminal u), mark_length 84 u)

pub close_size : (u : ℕ) → length (line_bytes (Close u)) ≡ length (decimal u) + 7
close_size u = omega (arith, line_length (Close u), mark_length 67 u)

-- a line has at most 20 bytes
pub line_bound : (x : Update) → Within Keyed x → length (line_bytes x) ≤ 20
line_bound (Step e) w = omega (arith, step_size e, most e.from (omega (arith, w.0)), most e.to (omega (arith, w.1)), most e.key (omega (arith, w.2)))
line_bound (Terminal u) w = omega (arith, terminal_size u, most u (omega arith))
line_bound (Close u) w = omega (arith, close_size u, most u (omega arith))

pub marking_within : (k : LineMark) (s : ℕ) → s ≤ max_value → Within Keyed (marking k s)
marking_within ForTerminal s h = h
marking_within ForClose s h = h

bytes_append : (a b : List Update) → bytes_of (a ++ b) ≡ bytes_of a ++ bytes_of b
unfolding bytes_of
bytes_append [] b = refl
bytes_append (x ∷ a) b = ap (λ (l : List ℕ). line_bytes x ++ l) (bytes_append a b) ∙ sym (append_assoc (line_bytes x) (bytes_of a) (bytes_of b))

pub bytes_one : (x : Update) → bytes_of (x ∷ []) ≡ line_bytes x
unfolding bytes_of
bytes_one x = append-nil (line_bytes x)

-- a state's line, where it has the mark, and where it has not
pub line_size : (k : LineMark) (b s : ℕ) → has_mark k b ≡ true → bytes_of (mark_line k b s) ≡ line_bytes (marking k s)
line_size k b s e = rw e (bytes_one (marking k s))

pub no_line : (k : LineMark) (b s : ℕ) → has_mark k b ≡ false → bytes_of (mark_line k b s) ≡ []
unfolding bytes_of
no_line k b s e = rw e refl

pub mark_bound : (k : LineMark) (b s : ℕ) → s ≤ max_value → length (bytes_of (mark_line k b s)) ≤ 20
mark_bound k b s h = by (has_mark k b) refl
  where
    by : (t : Bool) → has_mark k b ≡ t → length (bytes_of (mark_line k b s)) ≤ 20
    by true e = rw (line_size k b s e) (line_bound (marking k s) (marking_within k s h))
    by false e = rw (no_line k b s e) (omega arith)

-- The lines by rising index: none, one index more, and room for it where there is room for all.
module _ (test : ℕ → Bool) (update : ℕ → Update) where
  pub order_none : bytes_of (in_order 0 test update) ≡ []
  unfolding in_order bytes_of
  order_none = refl

  pub order_more : (i : ℕ) → bytes_of (in_order (i + 1) test update) ≡ bytes_of (in_order i test update) ++ bytes_of (cond (test i) (update i ∷ []) [])
  unfolding in_order
  order_more i = rw (add-one i) (bytes_append (in_order i test update) (cond (test i) (update i ∷ []) []))

  pub order_size : (i : ℕ) → length (bytes_of (in_order (i + 1) test update)) ≡ length (bytes_of (in_order i test update)) + length (bytes_of (cond (test i) (update i ∷ []) []))
  order_size i = ap length (order_more i) ∙ length-append (bytes_of (in_order i test update)) (bytes_of (cond (test i) (update i ∷ []) []))

  pub order_room : (i n : ℕ) → i < n → length (bytes_of (in_order i test update)) + length (bytes_of (cond (test i) (update i ∷ []) [])) ≤ length (bytes_of (in_order n test update))
  order_room i zero h = absurd (omega arith)
  order_room i (suc n) h = at (ℕ_discrete i n) (rw (add-one n) at (order_size n)) (order_room i n)
    where
      at : Dec (i ≡ n) → length (bytes_of (in_order (suc n) test update)) ≡ length (bytes_of (in_order n test update)) + length (bytes_of (cond (test n) (update n ∷ []) [])) → (i < n → length (bytes_of (in_order i test update)) + length (bytes_of (cond (test i) (update i ∷ []) [])) ≤ length (bytes_of (in_order n test update))) → length (bytes_of (in_order i test update)) + length (bytes_of (cond (test i) (update i ∷ []) [])) ≤ length (bytes_of (in_order (suc n) test update))
      at (yes e) z ih = rw (e, z) (omega arith)
      at (no d) z ih = omega (arith, ih (omega arith))

-- The record is its four parts, one behind the other.
pub parts : (n m : ℕ) (marks from to key : List ℕ) → record_of n m marks from to key ≡ ((head_bytes n ++ bytes_of (marked_lines ForTerminal n marks)) ++ bytes_of (step_lines m from to key)) ++ bytes_of (marked_lines ForClose n marks)
unfolding record_of written_updates
parts n m marks from to key =
    ap (λ (l : List ℕ). head_bytes n ++ l)
    (bytes_append (marked_lines ForTerminal n marks) (step_lines m from to key ++ marked_lines ForClose n marks) ∙
    ap (λ (l : List ℕ). bytes_of (marked_lines ForTerminal n marks) ++ l) (bytes_append (step_lines m from to key) (marked_lines ForClose n marks))) ∙
    regroup (head_bytes n) (bytes_of (marked_lines ForTerminal n marks)) (bytes_of (step_lines m from to key)) (bytes_of (marked_lines ForClose n marks))
  where
    regroup : (a b c d : List ℕ) → a ++ (b ++ (c ++ d)) ≡ ((a ++ b) ++ c) ++ d
    regroup a b c d = sym (append_assoc a b (c ++ d)) ∙ sym (append_assoc (a ++ b) c d)

-- the head has 25 bytes, and the count's digits
pub head_size : (n : ℕ) → length (head_bytes n) ≡ 25 + length (decimal n)
head_size n = omega (arith, length-append (states_line ++ (10 ∷ []) ++ decimal n) (10 ∷ names_bytes), length-append (states_line ++ (10 ∷ [])) (decimal n))

pub record_size : (n m : ℕ) (marks from to key : List ℕ) → length (record_of n m marks from to key) ≡ 25 + length (decimal n) + length (bytes_of (marked_lines ForTerminal n marks)) + length (bytes_of (step_lines m from to key)) + length (bytes_of (marked_lines ForClose n marks))
record_size n m marks from to key =
    let a = head_bytes n in
    let b = bytes_of (marked_lines ForTerminal n marks) in
    let c = bytes_of (step_lines m from to key) in
    let d = bytes_of (marked_lines ForClose n marks) in
    omega (arith, ap length (parts n m marks from to key), length-append ((a ++ b) ++ c) d, length-append (a ++ b) c, length-append a b, head_size n)

-- The first n lines turn on what stands below n alone.
order_same : (n : ℕ) (test test' : ℕ → Bool) (update update' : ℕ → Update) → ((i : ℕ) → i < n → test i ≡ test' i) → ((i : ℕ) → i < n → update i ≡ update' i) → in_order n test update ≡ in_order n test' update'
unfolding in_order
order_same zero test test' update update' p q = refl
order_same (suc n) test test' update update' p q =
    rw (order_same n test test' update update' (λ i h. p i (omega arith)) (λ i h. q i (omega arith)), p n (omega arith), q n (omega arith))

-- The record of the first n states and m steps of some tables is that of those entries alone.
pub cut_record : (n m : ℕ) (marks from to key : List ℕ) → n ≤ length marks → m ≤ length from → record_of (length (take n marks)) (length (take m from)) (take n marks) (take m from) (take m to) (take m key) ≡ record_of n m marks from to key
unfolding record_of written_updates
cut_record n m marks from to key a b =
    rw (
      length-take-le n marks a,
      length-take-le m from b,
      order_same n (is_marked ForTerminal (take n marks)) (is_marked ForTerminal marks) (marking ForTerminal) (marking ForTerminal) (λ i h. ap (has_mark ForTerminal) (get_or-take n marks i 0 h)) (λ i h. refl),
      order_same n (is_marked ForClose (take n marks)) (is_marked ForClose marks) (marking ForClose) (marking ForClose) (λ i h. ap (has_mark ForClose) (get_or-take n marks i 0 h)) (λ i h. refl),
      order_same m (λ p. true) (λ p. true) (step_at (take m from) (take m to) (take m key)) (step_at from to key) (λ i h. refl) (λ i h. rw (get_or-take m from i 0 h, get_or-take m to i 0 h, get_or-take m key i 0 h)),
    )

-- The same of what a source has: the head, the lines of the terminal marks, of the steps and of the closes.
source_parts : (s : Source) → source_record s ≡ ((head_bytes (length s.marks.now) ++ bytes_of (marked_lines ForTerminal (length s.marks.now) s.marks.now)) ++ bytes_of (listed_lines s)) ++ bytes_of (marked_lines ForClose (length s.marks.now) s.marks.now)
source_parts s = parts (length s.marks.now) (length s.from.now) s.marks.now s.from.now s.to.now s.key.now

pub source_size : (s : Source) → length (source_record s) ≡ length (head_bytes (length s.marks.now)) + length (bytes_of (marked_lines ForTerminal (length s.marks.now) s.marks.now)) + length (bytes_of (listed_lines s)) + length (bytes_of (marked_lines ForClose (length s.marks.now) s.marks.now))
source_size s = omega (arith, head_size (length s.marks.now), record_size (length s.marks.now) (length s.from.now) s.marks.now s.from.now s.to.now s.key.now)

-- There is room for the lines of a state more, and of a step more, where there is room for all.
pub marks_room : (k : LineMark) (marks : List ℕ) (i : ℕ) → i < length marks → length (bytes_of (marked_lines k i marks)) + length (bytes_of (mark_line k (get_or marks i 0) i)) ≤ length (bytes_of (marked_lines k (length marks) marks))
marks_room k marks i h = order_room (is_marked k marks) (marking k) i (length marks) h

pub steps_room : (from to key : List ℕ) (i : ℕ) → i < length from → length (bytes_of (step_lines i from to key)) + length (line_bytes (step_at from to key i)) ≤ length (bytes_of (step_lines (length from) from to key))
steps_room from to key i h = rw bytes_one at (order_room (λ p. true) (step_at from to key) i (length from) h)

-- The record is put part by part.
pub record_put : (s : Source) {p q r t u : TextBuffer} → Puts (head_bytes (length s.marks.now)) p q → Puts (bytes_of (marked_lines ForTerminal (length s.marks.now) s.marks.now)) q r → Puts (bytes_of (listed_lines s)) r t → Puts (bytes_of (marked_lines ForClose (length s.marks.now) s.marks.now)) t u → Puts (source_record s) p u
record_put s w x y z = rw (source_parts s) (puts_then (puts_then (puts_then w x) y) z)
