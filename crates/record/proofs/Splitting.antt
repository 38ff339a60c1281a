-- The splitter, fed a record byte by byte, answers the items of the record. The line buffer holds what a line's judgement needs of it, whatever the line's length.
-- Assumes nothing.
use mathlib.Core.Path.{◌≡◌, refl, sym, ◌∙◌, ap, subst}
use mathlib.Core.Logic.{◌⊎◌, inl, inr, ⊎_elim}
use mathlib.Core.Bool.{Bool, true, false, cond, false≢true}
use mathlib.Core.List.{List, [], ◌∷◌, ◌++◌, append_assoc, append-nil}
use mathlib.Core.Option.{Option, some, none}
use Prim.Native.Nat.{ℕ, suc, ◌+◌, ◌≤◌, ◌<◌}
use native.Mathlib.Omega.{arith}
use native.Mathlib.Numerals.{add-one}
use native.Mathlib.Decide.{dec_lt, ℕ_discrete}
use lib.Dec.{leb, ltb, eqb}
use lib.ListN.{length, take, drop, set, length-append, length-drop, length-set, drop_of_length-le}
use lib.Seq.{take-suc-set, drop-drop, drop_at}
use borrow.Author.Tests.{eq-eqb, ne_eqb, le-leb, lt-leb, leb-true, eqb-true, eqb-false, lt-ltb, le-ltb, ltb-true, ltb-false}
use Rattle.std.specs.Prelude.{Some, None, is_some}
use Rattle.gid.specs.declared.Update.{Update}
use Rattle.record.specs.declared.line.Form.{Form}
use Rattle.record.specs.declared.line.Form.TheVariants.{Plain, Keyed}
use Rattle.record.specs.declared.line.Line.{Line}
use Rattle.record.specs.declared.splitter.Item.{Item}
use Rattle.record.specs.declared.splitter.Item.TheVariants.{Nothing, BadNames, TooMany, States, BadCount}
use Rattle.record.specs.declared.splitter.Phase.{Phase}
use Rattle.record.specs.declared.splitter.Phase.TheVariants.{First, Count, Names, Further}
use Rattle.record.specs.declared.splitter.Splitter.{Splitter}
use Rattle.record.specs.declared.splitter.Fed.{Fed}
use Rattle.record.specs.Text.{states_line, names}
use Rattle.record.specs.Grammar.{value, line_of, count_of}
use Rattle.record.specs.Lines.{lines, before}
use Rattle.record.specs.Items.{same, line_item, max_lines, further, from_names, count_items, from_count, all, items, item_line}
use Rattle.record.specs.Buffer.{empty_line, with_byte, with_bytes, line_in, is_names_in, is_states_in, line_count}
use Rattle.record.specs.Parsing.{parsed}
use Rattle.record.specs.Splitting.{at, fed, advanced, started, names_fed, after_names, count_fed, after_first, after_further, in_phase, after_line, after_byte, after_part, is_head, awaited, pending, last_newlines, told, tells, run, after_bytes, item_of}
use Rattle.record.proofs.Sameness.{other_length}
use Rattle.record.proofs.Reading.{count_long}

pub parsed_item : (o : Option Update) (n : ℕ) → item_of (parsed o) n ≡ line_item n o
parsed_item none n = refl
parsed_item (some x) n = refl

-- what was found of a count line
pub a_count : (o : Option ℕ) {c : ℕ} → parsed o ≡ Some c → o ≡ some c
a_count none e = cc
a_count (some d) e = cc

pub no_count : (o : Option ℕ) → parsed o ≡ None → o ≡ none
no_count none e = refl
no_count (some d) e = cc

pub in_head : (p : Phase) → ((f : Form) → p ≡ Further f → ⊥) → is_head p ≡ true
in_head First h = refl
in_head Count h = refl
in_head Names h = refl
in_head (Further f) h = absurd (h f refl)

-- The buffer b holds a line whose bytes so far are l.
pub data Holds (b : Line) (l : List ℕ) : Type 0 where
  short : length l ≤ 16 → b.len ≡ length l → take (length l) b.bytes ≡ l → length b.bytes ≡ 16 → Holds b l
  long : 16 < length l → 16 < b.len → Holds b l

pub holds_empty : Holds empty_line []
holds_empty = short (omega arith) refl refl refl

pub holds_more : (b : Line) (l : List ℕ) (c : ℕ) → Holds b l → Holds (with_byte b c) (l ++ (c ∷ []))
unfolding with_byte
holds_more b l c (long p q) =
    rw (le-leb 16 b.len (omega arith)) (long (rw length-append (omega arith)) (omega arith))
holds_more b l c (short p q r s) = by (dec_lt (length l) 16)
  where
    by : Dec (length l < 16) → Holds (cond (leb 16 b.len) (record { bytes = b.bytes; len = 17 }) (record { bytes = set b.bytes b.len c; len = b.len + 1 })) (l ++ (c ∷ []))
    by (yes h) =
        let m : length (l ++ (c ∷ [])) ≡ suc (length l) = length-append l (c ∷ []) ∙ add-one (length l) in
        rw (lt-leb 16 b.len (omega arith))
        (short
        (omega arith)
        (omega arith)
        (rw (m, q, take-suc-set b.bytes (length l) c (omega arith), r) refl)
        (length-set b.bytes b.len c ∙ s))
    by (no h) =
        rw (le-leb 16 b.len (omega arith)) (long (rw length-append (omega arith)) (omega arith))

pub line_held : (f : Form) (b : Line) (l : List ℕ) → Holds b l → line_in f b ≡ line_of f l
unfolding line_of
line_held f b l (short p q r s) = rw (le-leb b.len 16 (omega arith), q, r)
line_held f b l (long p q) = rw (lt-leb b.len 16 q, lt-leb (length l) 16 p)

-- either names line fits the buffer
names_short : (f : Form) → length (names f) ≤ 16
names_short Plain = omega arith
names_short Keyed = omega arith

pub names_held : (f : Form) (b : Line) (l : List ℕ) → Holds b l → is_names_in f b ≡ same l (names f)
names_held f b l (short p q r s) = rw (le-leb b.len 16 (omega arith), q, r)
names_held f b l (long p q) = rw (lt-leb b.len 16 q) (sym (other_length l (names f) (λ e. omega (arith, names_short f))))

-- and so does `states`
pub states_held : (b : Line) (l : List ℕ) → Holds b l → is_states_in b ≡ same l states_line
states_held b l (short p q r s) = rw (le-leb b.len 16 (omega arith), q, r)
states_held b l (long p q) = rw (lt-leb b.len 16 q) (sym (other_length l states_line (λ e. omega arith)))

-- a count has at most four digits
pub count_held : (b : Line) (l : List ℕ) → Holds b l → line_count b ≡ count_of l
count_held b l (short p q r s) = rw (le-leb b.len 16 (omega arith), q, r)
count_held b l (long p q) = rw (lt-leb b.len 16 q) (sym (count_long l (omega arith)))

held_length : (b : Line) (l : List ℕ) → Holds b l → eqb b.len 0 ≡ eqb (length l) 0
held_length b l (short p q r s) = rw q
held_length b l (long p q) = rw (ne_eqb b.len 0 (λ e. omega arith), ne_eqb (length l) 0 (λ e. omega arith))

-- The bytes have no newline.
pub data Unbroken : List ℕ → Type 0 where
  none' : Unbroken []
  more : {b : ℕ} {l : List ℕ} → (b ≡ 10 → ⊥) → Unbroken l → Unbroken (b ∷ l)

unbroken_more : {l : List ℕ} {b : ℕ} → (b ≡ 10 → ⊥) → Unbroken l → Unbroken (l ++ (b ∷ []))
unbroken_more n none' = more n none'
unbroken_more n (more m u) = more m (unbroken_more n u)

-- A text with no newline, ended by one, is a line.
pub lines_break : {l : List ℕ} (s : List ℕ) → Unbroken l → lines (l ++ (10 ∷ s)) ≡ l ∷ lines s
unfolding lines
lines_break s none' = refl
lines_break s (more {b = b} {l = l} n u) = rw (ne_eqb b 10 n, lines_break s u)

pub lines_last : (b : ℕ) (l : List ℕ) → Unbroken (b ∷ l) → lines (b ∷ l) ≡ (b ∷ l) ∷ []
unfolding lines
lines_last b [] (more n u) = rw (ne_eqb b 10 n)
lines_last b (c ∷ l) (more n u) = rw (ne_eqb b 10 n, lines_last c l u)

told_line : (n : ℕ) (o : Option Update) → told (line_item n o) ≡ line_item n o ∷ []
told_line n none = refl
told_line n (some x) = refl

either_true : (t : Bool) → cond t true true ≡ true
either_true true = refl
either_true false = refl

-- Bytes behind bytes.
pub bytes_then : (s : Splitter) (a b : List ℕ) → after_bytes s (a ++ b) ≡ after_bytes (after_bytes s a) b
unfolding after_bytes
bytes_then s [] b = refl
bytes_then s (c ∷ a) b = bytes_then (after_byte s c).splitter a b

pub tells_then : (s : Splitter) (a b : List ℕ) → tells s (a ++ b) ≡ tells s a ++ tells (after_bytes s a) b
unfolding tells after_bytes
tells_then s [] b = refl
tells_then s (c ∷ a) b =
    let t = after_byte s c in
    ap (λ (x : List Item). told t.item ++ x) (tells_then t.splitter a b) ∙ sym (append_assoc (told t.item) (tells t.splitter a) (tells (after_bytes t.splitter a) b))

pub run_tells : (s : Splitter) (a b : List ℕ) → run s (a ++ b) ≡ tells s a ++ run (after_bytes s a) b
unfolding run tells after_bytes
run_tells s [] b = refl
run_tells s (c ∷ a) b =
    let t = after_byte s c in
    ap (λ (x : List Item). told t.item ++ x) (run_tells t.splitter a b) ∙ sym (append_assoc (told t.item) (tells t.splitter a) (run (after_bytes t.splitter a) b))

-- After a 10, a 12 or a 17 nothing more is told.
tells_stopped : (s : List ℕ) (b : Line) (n : ℕ) (p : Phase) → tells (at b n true p) s ≡ []
unfolding tells after_line after_byte
tells_stopped [] b n p = refl
tells_stopped (c ∷ s) b n p = by (eqb c 10) (tells_stopped s b n p) (tells_stopped s (with_byte b c) n p)
  where
    by : (t : Bool) → tells (at b n true p) s ≡ [] → tells (at (with_byte b c) n true p) s ≡ [] → told (cond t (fed (at b n true p) Nothing) (fed (at (with_byte b c) n true p) Nothing)).item ++ tells (cond t (fed (at b n true p) Nothing) (fed (at (with_byte b c) n true p) Nothing)).splitter s ≡ []
    by true p q = p
    by false p q = q

pub run_stopped : (s : List ℕ) (b : Line) (n : ℕ) (p : Phase) → run (at b n true p) s ≡ []
unfolding run after_line after_byte
run_stopped [] b n p = tells_stopped (last_newlines (at b n true p)) b n p
run_stopped (c ∷ s) b n p = by (eqb c 10) (run_stopped s b n p) (run_stopped s (with_byte b c) n p)
  where
    by : (t : Bool) → run (at b n true p) s ≡ [] → run (at (with_byte b c) n true p) s ≡ [] → told (cond t (fed (at b n true p) Nothing) (fed (at (with_byte b c) n true p) Nothing)).item ++ run (cond t (fed (at b n true p) Nothing) (fed (at (with_byte b c) n true p) Nothing)).splitter s ≡ []
    by true p q = p
    by false p q = q

pub stopped_told : (s : Splitter) → s.stopped ≡ true → (bytes : List ℕ) → run s bytes ≡ []
stopped_told s e bytes = subst (λ (q : Bool). run (at s.line s.number q s.phase) bytes ≡ []) (sym e) (run_stopped bytes s.line s.number s.phase)

-- What is told once a line has ended, and behind it.
onward : Fed → List ℕ → List Item
onward f s = told f.item ++ run f.splitter s

-- A byte that is no newline goes to the line.
run_byte : (c : ℕ) (s : List ℕ) (b : Line) (n : ℕ) (q : Bool) (p : Phase) → (c ≡ 10 → ⊥) → run (at b n q p) (c ∷ s) ≡ run (at (with_byte b c) n q p) s
unfolding run after_byte
run_byte c s b n q p h = rw (ne_eqb c 10 h)

run_break : (c : ℕ) (s : List ℕ) (b : Line) (n : ℕ) (q : Bool) (p : Phase) → c ≡ 10 → run (at b n q p) (c ∷ s) ≡ onward (after_line (at b n q p)) s
unfolding run after_byte onward
run_break c s b n q p h = rw (eq-eqb c 10 h)

-- Whether a line of the head comes behind a line: none behind the names line or a further one, one behind `states` and behind a count.
names_lead : (n : ℕ) (b : Line) → awaited (after_names n b).splitter ≡ false
unfolding awaited after_names
names_lead n b = by (is_names_in Plain b) (is_names_in Keyed b)
  where
    by : (t u : Bool) → awaited (cond t (names_fed n Plain) (cond u (names_fed n Keyed) (fed (at empty_line (n + 1) true Names) (BadNames n)))).splitter ≡ false
    by true u = refl
    by false true = refl
    by false false = refl

pub stopped_leads : (s : Splitter) → s.stopped ≡ true → false ≡ awaited (after_line s).splitter
unfolding awaited after_line
stopped_leads s e = rw e

module _ (s : Splitter) (goes : s.stopped ≡ false) where
  pub first_leads : s.phase ≡ First → is_states_in s.line ≡ awaited (after_line s).splitter
  unfolding awaited after_line in_phase after_first
  first_leads e = rw (goes, e) (by (is_states_in s.line))
    where
      by : (t : Bool) → t ≡ awaited (cond t (fed (at empty_line 2 false Count) Nothing) (after_names 1 s.line)).splitter
      by true = refl
      by false = sym (names_lead 1 s.line)

  pub count_leads : s.phase ≡ Count → is_some (parsed (line_count s.line)) ≡ awaited (after_line s).splitter
  unfolding awaited after_line in_phase
  count_leads e = rw (goes, e) (by (line_count s.line))
    where
      by : (o : Option ℕ) → is_some (parsed o) ≡ awaited (count_fed o).splitter
      by none = refl
      by (some c) = refl

  pub names_leads : s.phase ≡ Names → false ≡ awaited (after_line s).splitter
  unfolding awaited after_line in_phase
  names_leads e = rw (goes, e) (sym (names_lead 3 s.line))

  pub further_leads : (f : Form) → s.phase ≡ Further f → false ≡ awaited (after_line s).splitter
  unfolding awaited after_line in_phase after_further
  further_leads f e = rw (goes, e) (by (leb s.number max_lines))
    where
      by : (t : Bool) → false ≡ awaited (cond t (fed (at empty_line (s.number + 1) false (Further f)) (line_item s.number (line_in f s.line))) (fed (at empty_line s.number true (Further f)) TooMany)).splitter
      by true = refl
      by false = refl

-- What a line leaves that has ended: a line of the head is awaited, or one behind it, or reading has stopped.
data Ended : Fed → Type 0 where
  to_count : Ended (fed (at empty_line 2 false Count) Nothing)
  to_names : (c : ℕ) → Ended (fed (at empty_line 3 false Names) (States c))
  to_further : (n : ℕ) (f : Form) (a : Item) → Ended (fed (at empty_line n false (Further f)) a)
  to_none : (b : Line) (n : ℕ) (p : Phase) (a : Item) → Ended (fed (at b n true p) a)

names_ended : (n : ℕ) (b : Line) → Ended (after_names n b)
unfolding after_names
names_ended n b = by (is_names_in Plain b) (is_names_in Keyed b)
  where
    by : (t u : Bool) → Ended (cond t (names_fed n Plain) (cond u (names_fed n Keyed) (fed (at empty_line (n + 1) true Names) (BadNames n))))
    by true u = to_further (n + 1) Plain Nothing
    by false true = to_further (n + 1) Keyed Nothing
    by false false = to_none empty_line (n + 1) Names (BadNames n)

phase_ended : (p : Phase) (b : Line) (n : ℕ) → Ended (in_phase p b n)
unfolding in_phase after_first after_further
phase_ended First b n = by (is_states_in b)
  where
    by : (t : Bool) → Ended (cond t (fed (at empty_line 2 false Count) Nothing) (after_names 1 b))
    by true = to_count
    by false = names_ended 1 b
phase_ended Count b n = by (line_count b)
  where
    by : (o : Option ℕ) → Ended (count_fed o)
    by none = to_none empty_line 3 Names BadCount
    by (some c) = to_names c
phase_ended Names b n = names_ended 3 b
phase_ended (Further f) b n = by (leb n max_lines)
  where
    by : (t : Bool) → Ended (cond t (fed (at empty_line (n + 1) false (Further f)) (line_item n (line_in f b))) (fed (at empty_line n true (Further f)) TooMany))
    by true = to_further (n + 1) f (line_item n (line_in f b))
    by false = to_none empty_line n (Further f) TooMany

line_ended : (s : Splitter) → Ended (after_line s)
unfolding after_line
line_ended s = by s.stopped refl
  where
    by : (q : Bool) → s.stopped ≡ q → Ended (cond q (fed s Nothing) (in_phase s.phase s.line s.number))
    by true e = subst (λ (q : Bool). Ended (fed (at s.line s.number q s.phase) Nothing)) (sym e) (to_none s.line s.number s.phase Nothing)
    by false e = phase_ended s.phase s.line s.number

-- The newline of a line of the head that is missing.
abbrev missing : Splitter → List ℕ
missing s = cond (awaited s) (10 ∷ []) []

missing_told : {f : Fed} → Ended f → run f.splitter [] ≡ tells f.splitter (missing f.splitter)
unfolding run tells last_newlines pending awaited after_line in_phase after_names count_of value same
missing_told to_count = refl
missing_told (to_names c) = refl
missing_told (to_further n f a) = refl
missing_told (to_none b n p a) = run_stopped [] b n p

missing_over : {f : Fed} → Ended f → run (after_bytes f.splitter (missing f.splitter)) [] ≡ []
unfolding run tells last_newlines pending awaited after_line in_phase after_names count_of value same after_bytes after_byte
missing_over to_count = run_stopped [] empty_line 3 Names
missing_over (to_names c) = run_stopped [] empty_line 4 Names
missing_over (to_further n f a) = refl
missing_over (to_none b n p a) = run_stopped [] b n p

-- A line that is left is told by the end of the record as by a newline.
end_told : (s : Splitter) → pending s ≡ true → run s [] ≡ onward (after_line s) []
unfolding run tells last_newlines after_byte onward
end_told s e = rw e (ap (λ (x : List Item). told (after_line s).item ++ x) (sym (missing_told (line_ended s))))

-- Where none is left the end tells nothing.
idle_told : (s : Splitter) → pending s ≡ false → run s [] ≡ []
unfolding run tells last_newlines
idle_told s e = rw e

module _ (f : Form) where
  -- a further line has ended
  further_line : (n : ℕ) (l : List ℕ) (b : Line) → Holds b l → (s : List ℕ) → ((m : ℕ) → run (at empty_line m false (Further f)) s ≡ further f m (lines s)) → onward (after_line (at b n false (Further f))) s ≡ further f n (l ∷ lines s)
  unfolding onward after_line in_phase after_further further
  further_line n l b k s ih = rw (line_held f b l k) (by (leb n 65535))
    where
      by : (t : Bool) → onward (cond t (fed (at empty_line (n + 1) false (Further f)) (line_item n (line_of f l))) (fed (at empty_line n true (Further f)) TooMany)) s ≡ cond t (line_item n (line_of f l) ∷ further f (n + 1) (lines s)) (TooMany ∷ [])
      by true = rw (told_line n (line_of f l), ih (n + 1)) refl
      by false = rw (run_stopped s empty_line n (Further f)) refl

  -- the end of the record, in a further line
  empty_end : (m : ℕ) → run (at empty_line m false (Further f)) [] ≡ further f m (lines [])
  unfolding lines further pending awaited
  empty_end m = idle_told (at empty_line m false (Further f)) refl

  further_end : (n : ℕ) (l : List ℕ) (b : Line) → Holds b l → Unbroken l → run (at b n false (Further f)) [] ≡ further f n (lines l)
  unfolding pending awaited lines further
  further_end n [] b k u = idle_told (at b n false (Further f)) (rw (held_length b [] k))
  further_end n (x ∷ l) b k u =
      end_told (at b n false (Further f)) (rw (held_length b (x ∷ l) k, ne_eqb (length (x ∷ l)) 0 (λ e. omega arith))) ∙ further_line n (x ∷ l) b k [] empty_end ∙
      ap (further f n) (sym (lines_last x l u))

  further_all : (s : List ℕ) (n : ℕ) (l : List ℕ) (b : Line) → Holds b l → Unbroken l → run (at b n false (Further f)) s ≡ further f n (lines (l ++ s))
  further_all [] n l b k u = rw append-nil (further_end n l b k u)
  further_all (c ∷ s) n l b k u = by (ℕ_discrete c 10) (further_all s)
    where
      by : Dec (c ≡ 10) → ((m : ℕ) (l : List ℕ) (b : Line) → Holds b l → Unbroken l → run (at b m false (Further f)) s ≡ further f m (lines (l ++ s))) → run (at b n false (Further f)) (c ∷ s) ≡ further f n (lines (l ++ (c ∷ s)))
      by (yes e) ih =
          run_break c s b n false (Further f) e ∙ further_line n l b k s (λ m. ih m [] empty_line holds_empty none') ∙ ap (further f n) (sym (lines_break s u) ∙ ap (λ (x : ℕ). lines (l ++ (x ∷ s))) (sym e))
      by (no e) ih =
          run_byte c s b n false (Further f) e ∙ ih n (l ++ (c ∷ [])) (with_byte b c) (holds_more b l c k) (unbroken_more e u) ∙ ap (λ (x : List ℕ). further f n (lines x)) (append_assoc l (c ∷ []) s)

-- A phase of the head, whose line is judged with those behind it by J: where it is right for a line that has ended, it is right for all bytes. A missing line is judged as an empty one.
module _ (n : ℕ) (p : Phase) (J : List (List ℕ) → List Item) (waits : is_head p ≡ true)
    (ends : (l : List ℕ) (b : Line) → Holds b l → (s : List ℕ) → onward (after_line (at b n false p)) s ≡ J (l ∷ lines s)) (lacks : J [] ≡ J ([] ∷ [])) where
  head_pending : (b : Line) → pending (at b n false p) ≡ true
  unfolding pending awaited
  head_pending b = rw waits (either_true (eqb b.len 0))

  head_end : (l : List ℕ) (b : Line) → Holds b l → Unbroken l → run (at b n false p) [] ≡ J (lines l)
  unfolding lines
  head_end [] b k u = end_told (at b n false p) (head_pending b) ∙ ends [] b k [] ∙ sym lacks
  head_end (x ∷ l) b k u = end_told (at b n false p) (head_pending b) ∙ ends (x ∷ l) b k [] ∙ ap J (sym (lines_last x l u))

  head_all : (s l : List ℕ) (b : Line) → Holds b l → Unbroken l → run (at b n false p) s ≡ J (lines (l ++ s))
  head_all [] l b k u = rw append-nil (head_end l b k u)
  head_all (c ∷ s) l b k u = by (ℕ_discrete c 10) (head_all s)
    where
      by : Dec (c ≡ 10) → ((l : List ℕ) (b : Line) → Holds b l → Unbroken l → run (at b n false p) s ≡ J (lines (l ++ s))) → run (at b n false p) (c ∷ s) ≡ J (lines (l ++ (c ∷ s)))
      by (yes e) ih =
          run_break c s b n false p e ∙ ends l b k s ∙ ap J (sym (lines_break s u) ∙ ap (λ (x : ℕ). lines (l ++ (x ∷ s))) (sym e))
      by (no e) ih =
          run_byte c s b n false p e ∙ ih (l ++ (c ∷ [])) (with_byte b c) (holds_more b l c k) (unbroken_more e u) ∙ ap (λ (x : List ℕ). J (lines x)) (append_assoc l (c ∷ []) s)

-- the names line has ended
names_line : (n : ℕ) (l : List ℕ) (b : Line) → Holds b l → (s : List ℕ) → onward (after_names n b) s ≡ from_names n (l ∷ lines s)
unfolding onward after_names from_names
names_line n l b k s = rw (names_held Plain b l k, names_held Keyed b l k) (by (same l (names Plain)) (same l (names Keyed)))
  where
    by : (t u : Bool) → onward (cond t (names_fed n Plain) (cond u (names_fed n Keyed) (fed (at empty_line (n + 1) true Names) (BadNames n)))) s ≡ cond t (further Plain (n + 1) (lines s)) (cond u (further Keyed (n + 1) (lines s)) (BadNames n ∷ []))
    by true u = further_all Plain s (n + 1) [] empty_line holds_empty none'
    by false true = further_all Keyed s (n + 1) [] empty_line holds_empty none'
    by false false = rw (run_stopped s empty_line (n + 1) Names) refl

names_all : (s l : List ℕ) (b : Line) → Holds b l → Unbroken l → run (at b 3 false Names) s ≡ from_names 3 (lines (l ++ s))
unfolding after_line in_phase from_names same
names_all = head_all 3 Names (from_names 3) refl (names_line 3) refl

-- the count has ended
count_line : (l : List ℕ) (b : Line) → Holds b l → (s : List ℕ) → onward (after_line (at b 2 false Count)) s ≡ from_count (l ∷ lines s)
unfolding onward after_line in_phase from_count
count_line l b k s = rw (count_held b l k) (by (count_of l))
  where
    by : (o : Option ℕ) → onward (count_fed o) s ≡ count_items o (from_names 3 (lines s))
    by none = rw (run_stopped s empty_line 3 Names) refl
    by (some c) = ap (λ (x : List Item). States c ∷ x) (names_all s [] empty_line holds_empty none')

count_all : (s l : List ℕ) (b : Line) → Holds b l → Unbroken l → run (at b 2 false Count) s ≡ from_count (lines (l ++ s))
unfolding from_count count_of value
count_all = head_all 2 Count from_count refl count_line refl

-- the first line has ended
first_line : (l : List ℕ) (b : Line) → Holds b l → (s : List ℕ) → onward (after_line (at b 1 false First)) s ≡ all (l ∷ lines s)
unfolding onward after_line in_phase after_first all
first_line l b k s = rw (states_held b l k) (by (same l states_line))
  where
    by : (t : Bool) → onward (cond t (fed (at empty_line 2 false Count) Nothing) (after_names 1 b)) s ≡ cond t (from_count (lines s)) (from_names 1 (l ∷ lines s))
    by true = count_all s [] empty_line holds_empty none'
    by false = names_line 1 l b k s

first_all : (s l : List ℕ) (b : Line) → Holds b l → Unbroken l → run (at b 1 false First) s ≡ all (lines (l ++ s))
unfolding all from_names same
first_all = head_all 1 First all refl first_line refl

-- A record of any bytes and any length, fed byte by byte from the start to its end: the answers that say something are its items.
pub run_items : (s : List ℕ) → run started s ≡ items s
unfolding items
run_items s = first_all s [] empty_line holds_empty none'

-- Where bytes have a newline, and that there is none before it.
abbrev pub Broken : List ℕ → Type 0
Broken t = (before t ≡ t) ⊎ ((u : List ℕ) × (t ≡ before t ++ (10 ∷ u)))

pub broken : (t : List ℕ) → Unbroken (before t) × Broken t
unfolding before
broken [] = (none', inl refl)
broken (c ∷ t) = by (eqb c 10) refl (broken t)
  where
    by : (q : Bool) → eqb c 10 ≡ q → Unbroken (before t) × ((before t ≡ t) ⊎ ((u : List ℕ) × (t ≡ before t ++ (10 ∷ u)))) → Unbroken (cond q [] (c ∷ before t)) × ((cond q [] (c ∷ before t) ≡ c ∷ t) ⊎ ((u : List ℕ) × (c ∷ t ≡ cond q [] (c ∷ before t) ++ (10 ∷ u))))
    by true e h = (none', inr (t, rw (eqb-true c 10 e) refl))
    by false e h =
        (more (eqb-false c 10 e) h.0, ⊎_elim (λ p. inl (ap (λ (l : List ℕ). c ∷ l) p)) (λ p. inr (p.0, ap (λ (l : List ℕ). c ∷ l) p.1)) h.1)

-- Bytes up to a newline go to the line, and tell nothing.
unbroken_goes : {u : List ℕ} (b : Line) (n : ℕ) (q : Bool) (p : Phase) → Unbroken u → (tells (at b n q p) u ≡ []) × (after_bytes (at b n q p) u ≡ at (with_bytes b u) n q p)
unfolding tells after_bytes after_byte with_bytes
unbroken_goes b n q p none' = (refl, refl)
unbroken_goes b n q p (more {b = c} {l = l} h u) = rw (ne_eqb c 10 h) (unbroken_goes (with_byte b c) n q p u)

-- Feeding up to the end of a line, at once, is feeding the bytes up to it one by one.
pub record Parted (s : Splitter) (l : List ℕ) (i : ℕ) : Type 0 where
  pub read : List ℕ
  pub split : drop i l ≡ read ++ drop (after_part s l i).next l
  pub tells : tells s read ≡ told (after_part s l i).item
  pub after : (after_part s l i).splitter ≡ after_bytes s read

module _ (s : Splitter) (l : List ℕ) (i : ℕ) where
  unended : (t : List ℕ) → drop i l ≡ t → before t ≡ t → Unbroken (before t) → Parted s l i
  unfolding after_part
  unended t d e u =
      let n : length l ≤ i + length (before t) = omega (arith, length-drop i l, ap length d, ap length e) in
      let g = unbroken_goes s.line s.number s.stopped s.phase u in
      record {
        read = before t;
        split = rw (d, le-ltb (i + length (before t)) (length l) n, drop_of_length-le l n) (sym e ∙ sym (append-nil (before t)));
        tells = rw (d, le-ltb (i + length (before t)) (length l) n) g.0;
        after = rw (d, le-ltb (i + length (before t)) (length l) n) (sym g.1);
      }

  ended : (t u : List ℕ) → drop i l ≡ t → t ≡ before t ++ (10 ∷ u) → Unbroken (before t) → Parted s l i
  unfolding after_part tells after_bytes after_byte
  ended t u d e k =
      let m : length t ≡ length (before t) + suc (length u) = ap length e ∙ length-append (before t) (10 ∷ u) in
      let n : i + length (before t) < length l = omega (arith, length-drop i l, ap length d) in
      let g = unbroken_goes s.line s.number s.stopped s.phase k in
      let b = at (with_bytes s.line (before t)) s.number s.stopped s.phase in
      record {
        read = before t ++ (10 ∷ []);
        split = rw (d, lt-ltb (i + length (before t)) (length l) n, behind) (e ∙ sym (append_assoc (before t) (10 ∷ []) u));
        tells =
            rw (d, lt-ltb (i + length (before t)) (length l) n)
            (tells_then s (before t) (10 ∷ []) ∙ ap (λ (x : List Item). x ++ tells (after_bytes s (before t)) (10 ∷ [])) g.0 ∙ ap (λ (x : Splitter). tells x (10 ∷ [])) g.1 ∙ append-nil (told (after_line b).item));
        after =
            rw (d, lt-ltb (i + length (before t)) (length l) n)
            (sym (bytes_then s (before t) (10 ∷ []) ∙ ap (λ (x : Splitter). after_bytes x (10 ∷ [])) g.1));
      }
    where
      behind : drop (i + length (before t) + 1) l ≡ u
      behind =
          let z : i + length (before t) + 1 ≡ i + (length (before t) + 1) = omega arith in
          ap (λ (x : ℕ). drop x l) z ∙
          sym (drop-drop (length (before t) + 1) i l) ∙
          ap (drop (length (before t) + 1)) (d ∙ e ∙ sym (append_assoc (before t) (10 ∷ []) u)) ∙
          drop_at (before t ++ (10 ∷ [])) u (length (before t) + 1) (length-append (before t) (10 ∷ []))

  pub parted : Parted s l i
  parted = ⊎_elim (λ e. unended (drop i l) refl e (broken (drop i l)).0) (λ e. ended (drop i l) e.0 refl e.1 (broken (drop i l)).0) (broken (drop i l)).1

-- So the record's end is the newlines that it lacks,
pub last_over : (s : Splitter) → run (after_bytes s (last_newlines s)) [] ≡ []
unfolding after_bytes after_byte last_newlines
last_over s = by (pending s) refl
  where
    by : (q : Bool) → pending s ≡ q → run (after_bytes s (cond q (10 ∷ missing (after_line s).splitter) [])) [] ≡ []
    by true e = missing_over (line_ended s)
    by false e = idle_told s e

pub last_told : (s : Splitter) → run s (last_newlines s) ≡ run s []
unfolding run
last_told s =
    let n = last_newlines s in
    ap (run s) (sym (append-nil n)) ∙ run_tells s n [] ∙ ap (λ (x : List Item). tells s n ++ x) (last_over s) ∙ append-nil (tells s n)

-- which are two at most,
pub last_short : (s : Splitter) → length (last_newlines s) ≤ 2
unfolding last_newlines
last_short s = by (pending s) (awaited (after_line s).splitter)
  where
    by : (q r : Bool) → length {A = ℕ} (cond q (10 ∷ cond r (10 ∷ []) []) []) ≤ 2
    by true true = omega arith
    by true false = omega arith
    by false r = omega arith

pub last_part : (s : Splitter) (n : ℕ) → n ≡ length (last_newlines s) → take {A = ℕ} n (10 ∷ 10 ∷ []) ≡ last_newlines s
unfolding last_newlines
last_part s n e = rw e (by (pending s) (awaited (after_line s).splitter))
  where
    by : (q r : Bool) → take {A = ℕ} (length {A = ℕ} (cond q (10 ∷ cond r (10 ∷ []) []) [])) (10 ∷ 10 ∷ []) ≡ cond q (10 ∷ cond r (10 ∷ []) []) []
    by true true = refl
    by true false = refl
    by false r = refl

-- and of two the first refuses nothing: it ends `states`, or a count.
pub data Mild : List Item → Type 0 where
  silent : Mild []
  counts : (c : ℕ) → Mild (States c ∷ [])

mild : {f : Fed} → Ended f → awaited f.splitter ≡ true → Mild (told f.item ++ [])
unfolding awaited
mild to_count e = silent
mild (to_names c) e = counts c
mild (to_further n f a) e = absurd (false≢true e)
mild (to_none b n p a) e = absurd (false≢true e)

pub first_mild : (s : Splitter) → length (last_newlines s) ≡ 2 → Mild (tells s (10 ∷ []))
unfolding last_newlines tells after_byte
first_mild s e = by (pending s) (awaited (after_line s).splitter) refl e
  where
    by : (q r : Bool) → awaited (after_line s).splitter ≡ r → length {A = ℕ} (cond q (10 ∷ cond r (10 ∷ []) []) []) ≡ 2 → Mild (told (after_line s).item ++ [])
    by true true w h = mild (line_ended s) w
    by true false w h = absurd (omega arith)
    by false r w h = absurd (omega arith)

-- Both tell one refusal: the count, or the names line, is missing.
pub data Lacks : List Item → Type 0 where
  no_count' : Lacks (BadCount ∷ [])
  no_names' : (c : ℕ) → Lacks (States c ∷ BadNames 3 ∷ [])

lacks : {f : Fed} → Ended f → awaited f.splitter ≡ true → Lacks (told f.item ++ tells f.splitter (10 ∷ []))
unfolding awaited tells after_byte after_line in_phase after_names count_of value same
lacks to_count e = no_count'
lacks (to_names c) e = no_names' c
lacks (to_further n f a) e = absurd (false≢true e)
lacks (to_none b n p a) e = absurd (false≢true e)

pub both_lack : (s : Splitter) → length (last_newlines s) ≡ 2 → Lacks (tells s (last_newlines s))
unfolding last_newlines tells after_byte
both_lack s e = by (pending s) (awaited (after_line s).splitter) refl e
  where
    by : (q r : Bool) → awaited (after_line s).splitter ≡ r → length {A = ℕ} (cond q (10 ∷ cond r (10 ∷ []) []) []) ≡ 2 → Lacks (tells s (cond q (10 ∷ cond r (10 ∷ []) []) []))
    by true true w h = lacks (line_ended s) w
    by true false w h = absurd (omega arith)
    by false r w h = absurd (omega arith)

pub before_length : (t : List ℕ) → length (before t) ≤ length t
unfolding before
before_length [] = omega arith
before_length (c ∷ t) = by (eqb c 10) (before_length t)
  where
    by : (q : Bool) → length (before t) ≤ length t → length (cond q [] (c ∷ before t)) ≤ suc (length t)
    by true h = omega arith
    by false h = omega arith

-- It goes on, and not past the end.
pub part_next : (s : Splitter) (l : List ℕ) (i : ℕ) → i < length l → (i < (after_part s l i).next) × ((after_part s l i).next ≤ length l)
unfolding after_part
part_next s l i h = by (ltb (i + length (before (drop i l))) (length l)) refl
  where
    t : Splitter
    t = at (with_bytes s.line (before (drop i l))) s.number s.stopped s.phase

    k : ℕ
    k = i + length (before (drop i l))

    by : (q : Bool) → ltb k (length l) ≡ q → (i < (cond q (advanced (after_line t) (k + 1)) (advanced (fed t Nothing) k)).next) × ((cond q (advanced (after_line t) (k + 1)) (advanced (fed t Nothing) k)).next ≤ length l)
    by true e = (omega arith, omega (arith, ltb-true k (length l) e))
    by false e = (
      omega (arith, ltb-false k (length l) e),
      omega (arith, before_length (drop i l), length-drop i l),
    )

-- What it tells stands at a line that a record may have, or at the one behind the last.
line_line : (n : ℕ) (o : Option Update) → item_line (line_item n o) ≡ n
line_line n none = refl
line_line n (some x) = refl

names_at : (n : ℕ) (b : Line) → n ≤ 3 → item_line (after_names n b).item ≤ max_lines + 1
unfolding after_names
names_at n b h = by (is_names_in Plain b) (is_names_in Keyed b)
  where
    by : (t u : Bool) → item_line (cond t (names_fed n Plain) (cond u (names_fed n Keyed) (fed (at empty_line (n + 1) true Names) (BadNames n)))).item ≤ max_lines + 1
    by true u = omega arith
    by false true = omega arith
    by false false = omega arith

phase_at : (p : Phase) (b : Line) (n : ℕ) → item_line (in_phase p b n).item ≤ max_lines + 1
unfolding in_phase after_first after_further
phase_at First b n = by (is_states_in b)
  where
    by : (t : Bool) → item_line (cond t (fed (at empty_line 2 false Count) Nothing) (after_names 1 b)).item ≤ max_lines + 1
    by true = omega arith
    by false = names_at 1 b (omega arith)
phase_at Count b n = by (line_count b)
  where
    by : (o : Option ℕ) → item_line (count_fed o).item ≤ max_lines + 1
    by none = omega arith
    by (some c) = omega arith
phase_at Names b n = names_at 3 b (omega arith)
phase_at (Further f) b n = by (leb n max_lines) refl
  where
    by : (u : Bool) → leb n max_lines ≡ u → item_line (cond u (fed (at empty_line (n + 1) false (Further f)) (line_item n (line_in f b))) (fed (at empty_line n true (Further f)) TooMany)).item ≤ max_lines + 1
    by true e = omega (arith, line_line n (line_in f b), leb-true n max_lines e)
    by false e = omega arith

ended_line : (s : Splitter) → item_line (after_line s).item ≤ max_lines + 1
unfolding after_line
ended_line s = by s.stopped
  where
    by : (q : Bool) → item_line (cond q (fed s Nothing) (in_phase s.phase s.line s.number)).item ≤ max_lines + 1
    by true = omega arith
    by false = phase_at s.phase s.line s.number

pub part_line : (s : Splitter) (l : List ℕ) (i : ℕ) → item_line (after_part s l i).item ≤ max_lines + 1
unfolding after_part
part_line s l i = by (ltb (i + length (before (drop i l))) (length l))
  where
    t : Splitter
    t = at (with_bytes s.line (before (drop i l))) s.number s.stopped s.phase

    by : (q : Bool) → item_line (cond q (advanced (after_line t) (i + length (before (drop i l)) + 1)) (advanced (fed t Nothing) (i + length (before (drop i l))))).item ≤ max_lines + 1
    by true = ended_line t
    by false = omega arith
