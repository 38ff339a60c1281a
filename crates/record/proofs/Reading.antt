-- A line is an update exactly where it is the update's text, and a count exactly where it is a count's. It rests on one lemma for a value: the text of a number, with no digit behind it, is read as that number.
-- Assumes nothing.
use mathlib.Core.Path.{◌≡◌, refl, sym, ◌∙◌, ap, subst}
use mathlib.Core.Logic.{◌↔◌}
use mathlib.Core.Bool.{Bool, true, false, cond, ◌&&◌, false≢true}
use mathlib.Core.List.{List, [], ◌∷◌, ◌++◌, append_assoc, append-nil}
use mathlib.Core.Option.{Option, some, none}
use Prim.Native.Nat.{ℕ, zero, suc, ◌+◌, ◌*◌, ◌-◌, ◌/◌, ◌%◌, ◌≤◌, ◌<◌}
use native.Mathlib.Omega.{arith}
use native.Mathlib.Decide.{dec_lt}
use lib.Dec.{leb, eqb}
use lib.ListN.{length, length-append}
use borrow.Author.Tests.{ne_eqb, le-leb, eqb-true, eqb-false, leb-true}
use Rattle.gid.specs.declared.Update.{Update}
use Rattle.gid.specs.declared.Update.TheVariants.{Step, Terminal, Close}
use Rattle.gid.specs.Updates.{edge, values}
use Rattle.gid.specs.Refusals.{max_states}
use Rattle.record.specs.declared.line.Form.{Form}
use Rattle.record.specs.declared.line.Form.TheVariants.{Plain, Keyed}
use Rattle.record.specs.Text.{decimal, keyed, head, field, text, max_value, KeyWithin, Within}
use Rattle.record.specs.Grammar.{Front, is_digit, digits, value, behind, whole, key_of, step, no_key, mark_with, update, fields, line_of, count_of, ◌and_then◌}
use Rattle.record.proofs.Decimals.{decimal_digit, decimal_more, decimal_then, two_digits, five_digits}

none_some : {A : Type 0} (a : A) → none ≡ some a → ⊥
none_some a e = let z : ◌≡◌ {A = ℕ} 0 1 = cc in omega arith

is-digit : (b : ℕ) → 48 ≤ b → b ≤ 57 → is_digit b ≡ true
is-digit b p q = rw (le-leb 48 b p, le-leb b 57 q)

digit_bounds : (b : ℕ) → is_digit b ≡ true → (48 ≤ b) × (b ≤ 57)
digit_bounds b = by (leb 48 b) refl
  where
    by : (t : Bool) → leb 48 b ≡ t → (t && leb b 57) ≡ true → (48 ≤ b) × (b ≤ 57)
    by true p e = (leb-true 48 b p, leb-true b 57 e)
    by false p e = absurd (false≢true e)

-- No digit is at the front.
abbrev pub NoDigit : List ℕ → Type 0
NoDigit [] = Unit {0}
NoDigit (b ∷ l) = is_digit b ≡ false

digit_then : (n b : ℕ) (l : List ℕ) → is_digit b ≡ true → n * 10 + (b - 48) ≤ max_value → digits n (b ∷ l) ≡ digits (n * 10 + (b - 48)) l
unfolding digits
digit_then n b l e p = rw (e, le-leb (n * 10 + (b - 48)) max_value p)

digits_stop : (n : ℕ) (l : List ℕ) → NoDigit l → digits n l ≡ some (record { number = n; rest = l })
unfolding digits
digits_stop n [] e = refl
digits_stop n (b ∷ l) e = rw e

value_first : (n : ℕ) (l : List ℕ) → 0 < n → n < 10 → value ((48 + n) ∷ l) ≡ digits n l
unfolding value
value_first n l p q =
    let e : 48 + n - 48 ≡ n = omega arith in
    rw (ne_eqb (48 + n) 48 (λ z. omega arith), is-digit (48 + n) (omega arith) (omega arith), e)

value_zero : (l : List ℕ) → value (48 ∷ l) ≡ some (record { number = 0; rest = l })
unfolding value
value_zero l = refl

-- the digits of a number are read as the number, whatever is behind them
value_digits : (k n : ℕ) → n ≤ k → 0 < n → n ≤ max_value → (t : List ℕ) → value (decimal n ++ t) ≡ digits n t
value_digits zero n h p q t = absurd (omega arith)
value_digits (suc k) n h p q t = by (dec_lt n 10) (value_digits k (n / 10))
  where
    by : Dec (n < 10) → (n / 10 ≤ k → 0 < n / 10 → n / 10 ≤ max_value → (s : List ℕ) → value (decimal (n / 10) ++ s) ≡ digits (n / 10) s) → value (decimal n ++ t) ≡ digits n t
    by (yes r) ih = rw (decimal_digit n r) (value_first n t p r)
    by (no r) ih =
        let e : n / 10 * 10 + (48 + n % 10 - 48) ≡ n = omega arith in
        rw (decimal_more n (omega arith), append_assoc)
        (ih (omega arith) (omega arith) (omega arith) ((48 + n % 10) ∷ t) ∙
        digit_then (n / 10) (48 + n % 10) t (is-digit (48 + n % 10) (omega arith) (omega arith)) (rw e q) ∙
        rw e)

-- The text of a number, with no digit behind it, is read as that number.
pub value_back : (n : ℕ) → n ≤ max_value → (t : List ℕ) → NoDigit t → value (decimal n ++ t) ≡ some (record { number = n; rest = t })
value_back zero q t e = rw (decimal_digit zero (omega arith)) (value_zero t)
value_back (suc n) q t e = value_digits (suc n) (suc n) (omega arith) (omega arith) q t ∙ digits_stop (suc n) t e

-- the same at the end of a line
value_last : (n : ℕ) → n ≤ max_value → value (decimal n) ≡ some (record { number = n; rest = [] })
value_last n h = subst (λ (l : List ℕ). value l ≡ some (record { number = n; rest = [] })) (append-nil (decimal n)) (value_back n h [] tt)

fields_head : (f : Form) (kind from : ℕ) → from ≤ max_value → (t : List ℕ) → fields f (head kind from ++ t) ≡ update f kind from t
unfolding fields behind
fields_head f kind from h t = rw (append_assoc (decimal from) (32 ∷ []) t, value_back from h (32 ∷ t) refl)

key_text : (f : Form) (k : ℕ) → KeyWithin f k → key_of f (keyed f (decimal k)) ≡ some (record { number = k; rest = [] })
unfolding key_of behind
key_text Plain k h = rw h refl
key_text Keyed k h = value_last k h

no_digit : (f : Form) (key : List ℕ) → NoDigit (keyed f key)
no_digit Plain key = tt
no_digit Keyed key = refl

step-text : (f : Form) (from to k : ℕ) → to ≤ max_value → KeyWithin f k → step f from (decimal to ++ keyed f (decimal k)) ≡ some (Step (edge from to k))
unfolding step
step-text f from to k h p = rw (value_back to h (keyed f (decimal k)) (no_digit f (decimal k)), key_text f k p)

mark_text : (f : Form) (x : Update) → mark_with f x (45 ∷ keyed f (45 ∷ [])) ≡ some x
unfolding mark_with no_key behind
mark_text Plain x = refl
mark_text Keyed x = refl

fields_text : (f : Form) (x : Update) → Within f x → fields f (text f x) ≡ some x
unfolding update
fields_text f (Step e) h =
    let last = keyed f (decimal e.key) in
    rw (append_assoc (head 69 e.from) (decimal e.to) last)
    (fields_head f 69 e.from h.0 (decimal e.to ++ last) ∙ step-text f e.from e.to e.key h.1 h.2)
fields_text f (Terminal u) h =
    let last = keyed f (45 ∷ []) in
    rw (append_assoc (head 84 u) (45 ∷ []) last) (fields_head f 84 u h (45 ∷ last) ∙ mark_text f (Terminal u))
fields_text f (Close u) h =
    let last = keyed f (45 ∷ []) in
    rw (append_assoc (head 67 u) (45 ∷ []) last) (fields_head f 67 u h (45 ∷ last) ∙ mark_text f (Close u))

-- A line has at most 13 bytes, and those of its key.
pub text_length : (f : Form) (x : Update) → Within f x → length (text f x) ≤ 13 + length (keyed f (field (values x).key))
text_length f (Step e) h =
    let last = keyed f (decimal e.key) in
    omega (arith, length-append (head 69 e.from ++ decimal e.to) last, length-append (head 69 e.from) (decimal e.to), length-append (decimal e.from) (32 ∷ []), five_digits e.from (omega (arith, h.0)), five_digits e.to (omega (arith, h.1)))
text_length f (Terminal u) h =
    let last = keyed f (45 ∷ []) in
    omega (arith, length-append (head 84 u ++ (45 ∷ [])) last, length-append (head 84 u) (45 ∷ []), length-append (decimal u) (32 ∷ []), five_digits u (omega arith))
text_length f (Close u) h =
    let last = keyed f (45 ∷ []) in
    omega (arith, length-append (head 67 u ++ (45 ∷ [])) last, length-append (head 67 u) (45 ∷ []), length-append (decimal u) (32 ∷ []), five_digits u (omega arith))

-- A plain line is never too long, and a keyed one is not where its key has at most two digits.
abbrev pub Short : Form → Update → Type 0
Short Plain x = Unit {0}
Short Keyed (Step e) = e.key < 100
Short Keyed (Terminal u) = Unit {0}
Short Keyed (Close u) = Unit {0}

pub text_short : (f : Form) (x : Update) → Within f x → Short f x → length (text f x) ≤ 16
text_short Plain x h p = omega (arith, text_length Plain x h)
text_short Keyed (Step e) h p = omega (arith, text_length Keyed (Step e) h, two_digits e.key p)
text_short Keyed (Terminal u) h p = omega (arith, text_length Keyed (Terminal u) h)
text_short Keyed (Close u) h p = omega (arith, text_length Keyed (Close u) h)

-- The round trip: a written line is read as the update that it was written from, where it is not too long.
pub line_back : (f : Form) (x : Update) → Within f x → length (text f x) ≤ 16 → line_of f (text f x) ≡ some x
unfolding line_of
line_back f x h p = rw (le-leb (length (text f x)) 16 p) (fields_text f x h)

-- what a step of the grammar took
taken : {A B : Type 0} (o : Option A) (f : A → Option B) (b : B) → o and_then f ≡ some b → (a : A) × (o ≡ some a) × (f a ≡ some b)
taken none f b e = absurd (none_some b e)
taken (some a) f b e = (a, refl, e)

behind_taken : (b : ℕ) (l r : List ℕ) → behind b l ≡ some r → l ≡ b ∷ r
unfolding behind
behind_taken b [] r e = absurd (none_some r e)
behind_taken b (c ∷ l) r e = by (eqb c b) refl e
  where
    by : (t : Bool) → eqb c b ≡ t → cond t (some l) none ≡ some r → c ∷ l ≡ b ∷ r
    by true p q = let s : l ≡ r = cc in rw (eqb-true c b p, s)
    by false p q = absurd (none_some r q)

-- what was read as a value is the text of its number
Taken : List ℕ → Front → Type 0
Taken l f = (l ≡ decimal f.number ++ f.rest) × (f.number ≤ max_value)

-- a digit at the end of a number
longer : (n b : ℕ) (l : List ℕ) → 0 < n → (48 ≤ b) × (b ≤ 57) → decimal (n * 10 + (b - 48)) ++ l ≡ decimal n ++ (b ∷ l)
longer n b l p h =
    let e : 48 + (b - 48) ≡ b = omega arith in
    rw (decimal_then n (b - 48) p (omega arith), append_assoc, e)

digits_taken : (n : ℕ) (l : List ℕ) (f : Front) → 0 < n → n ≤ max_value → digits n l ≡ some f → Taken (decimal n ++ l) f
unfolding digits Taken
digits_taken n [] f p q e =
    let g : record { number = n; rest = [] } ≡ f = cc in
    subst (λ (f : Front). (decimal n ++ [] ≡ decimal f.number ++ f.rest) × (f.number ≤ max_value)) g (refl, q)
digits_taken n (b ∷ l) f p q e = by (is_digit b) refl (digits_taken (n * 10 + (b - 48)) l f) e
  where
    w : ℕ
    w = n * 10 + (b - 48)

    further : is_digit b ≡ true → (0 < w → w ≤ max_value → digits w l ≡ some f → Taken (decimal w ++ l) f) → (t : Bool) → leb w max_value ≡ t → cond t (digits w l) none ≡ some f → Taken (decimal n ++ (b ∷ l)) f
    further d ih true r z =
        let g = ih (omega arith) (leb-true w max_value r) z in
        (sym (longer n b l p (digit_bounds b d)) ∙ g.0, g.1)
    further d ih false r z = absurd (none_some f z)

    by : (t : Bool) → is_digit b ≡ t → (0 < w → w ≤ max_value → digits w l ≡ some f → Taken (decimal w ++ l) f) → cond t (cond (leb w max_value) (digits w l) none) (some (record { number = n; rest = b ∷ l })) ≡ some f → Taken (decimal n ++ (b ∷ l)) f
    by true d ih z = further d ih (leb w max_value) refl z
    by false d ih z =
        let g : record { number = n; rest = b ∷ l } ≡ f = cc in
        subst (λ (f : Front). (decimal n ++ (b ∷ l) ≡ decimal f.number ++ f.rest) × (f.number ≤ max_value)) g (refl, q)

value_taken : (l : List ℕ) (f : Front) → value l ≡ some f → Taken l f
unfolding value Taken
value_taken [] f e = absurd (none_some f e)
value_taken (b ∷ l) f e = by (eqb b 48) refl e
  where
    other : (t : Bool) → is_digit b ≡ t → (b ≡ 48 → ⊥) → cond t (digits (b - 48) l) none ≡ some f → Taken (b ∷ l) f
    other true d n z =
        let h = digit_bounds b d in
        let g = digits_taken (b - 48) l f (omega arith) (omega arith) z in
        let k : 48 + (b - 48) ≡ b = omega arith in
        let m : decimal (b - 48) ≡ b ∷ [] = decimal_digit (b - 48) (omega arith) ∙ (rw k) in
        (ap (λ (x : List ℕ). x ++ l) (sym m) ∙ g.0, g.1)
    other false d n z = absurd (none_some f z)

    by : (t : Bool) → eqb b 48 ≡ t → cond t (some (record { number = 0; rest = l })) (cond (is_digit b) (digits (b - 48) l) none) ≡ some f → Taken (b ∷ l) f
    by true p z =
        let g : record { number = 0; rest = l } ≡ f = cc in
        subst (λ (f : Front). (b ∷ l ≡ decimal f.number ++ f.rest) × (f.number ≤ max_value)) g
        (rw (decimal_digit 0 (omega arith), eqb-true b 48 p) refl, omega arith)
    by false p z = other (is_digit b) refl (eqb-false b 48 p) z

whole_taken : (y x : Update) (l : List ℕ) → whole y l ≡ some x → (l ≡ []) × (y ≡ x)
whole_taken y x [] e = (refl, cc)
whole_taken y x (b ∷ l) e = absurd (none_some x e)

-- what was read behind `to` is the text of a key,
key_taken : (f : Form) (l : List ℕ) (k : Front) → key_of f l ≡ some k → (l ≡ keyed f (decimal k.number) ++ k.rest) × KeyWithin f k.number
unfolding key_of Taken
key_taken Plain l k e =
    let g : record { number = 0; rest = l } ≡ k = cc in
    subst (λ (k : Front). (l ≡ k.rest) × (k.number ≡ 0)) g (refl, refl)
key_taken Keyed l k e =
    let t = taken (behind 32 l) value k e in
    let v = value_taken t.0 k t.2 in
    (behind_taken 32 l t.0 t.1 ∙ ap (λ (r : List ℕ). 32 ∷ r) v.0, v.1)

-- or of none
no_key_taken : (f : Form) (l r : List ℕ) → no_key f l ≡ some r → l ≡ keyed f (45 ∷ []) ++ r
unfolding no_key
no_key_taken Plain l r e = cc
no_key_taken Keyed l r e =
    let t = taken (behind 32 l) (behind 45) r e in
    behind_taken 32 l t.0 t.1 ∙ ap (λ (r : List ℕ). 32 ∷ r) (behind_taken 45 t.0 r t.2)

-- what was read as an update of a kind has the text of its last values, and its values are within bounds
Read : Form → ℕ → ℕ → List ℕ → Update → Type 0
Read f kind from l x = (head kind from ++ l ≡ text f x) × Within f x

step_taken : (f : Form) (u : ℕ) (l : List ℕ) (x : Update) → u ≤ max_value → step f u l ≡ some x → Read f 69 u l x
unfolding step Taken Read
step_taken f u l x h e =
    let t = taken (value l) (λ to. key_of f to.rest and_then λ key. whole (Step (edge u to.number key.number)) key.rest) x e in
    let v = value_taken l t.0 t.1 in
    let s = taken (key_of f t.0.rest) (λ key. whole (Step (edge u t.0.number key.number)) key.rest) x t.2 in
    let k = key_taken f t.0.rest s.0 s.1 in
    let w = whole_taken (Step (edge u t.0.number s.0.number)) x s.0.rest s.2 in
    let to = decimal t.0.number in
    let last = keyed f (decimal s.0.number) in
    let r : t.0.rest ≡ last = k.0 ∙ ap (λ (r : List ℕ). last ++ r) w.0 ∙ append-nil last in
    subst (λ (x : Update). (head 69 u ++ l ≡ text f x) × Within f x) w.1
    (ap (λ (l : List ℕ). head 69 u ++ l) (v.0 ∙ ap (λ (r : List ℕ). to ++ r) r) ∙ sym (append_assoc (head 69 u) to last), (h, v.1, k.1))

mark_taken : (f : Form) (y x : Update) (l : List ℕ) → mark_with f y l ≡ some x → (l ≡ 45 ∷ keyed f (45 ∷ [])) × (y ≡ x)
unfolding mark_with
mark_taken f y x l e =
    let t = taken (behind 45 l and_then no_key f) (whole y) x e in
    let s = taken (behind 45 l) (no_key f) t.0 t.1 in
    let w = whole_taken y x t.0 t.2 in
    let last = keyed f (45 ∷ []) in
    (behind_taken 45 l s.0 s.1 ∙ ap (λ (r : List ℕ). 45 ∷ r) (no_key_taken f s.0 t.0 s.2 ∙ ap (λ (r : List ℕ). last ++ r) w.0 ∙ append-nil last), w.1)

update_taken : (f : Form) (k u : ℕ) (l : List ℕ) (x : Update) → u ≤ max_value → update f k u l ≡ some x → Read f k u l x
unfolding update Read
update_taken f k u l x h e = is_step (eqb k 69) refl e
  where
    marked : (y : Update) → (head k u ++ (45 ∷ []) ++ keyed f (45 ∷ []) ≡ text f y) × Within f y → mark_with f y l ≡ some x → Read f k u l x
    marked y t z =
        let m = mark_taken f y x l z in
        subst (λ (x : Update). (head k u ++ l ≡ text f x) × Within f x) m.1 (rw m.0 (sym (append_assoc (head k u) (45 ∷ []) (keyed f (45 ∷ []))) ∙ t.0), t.1)

    is_close : (t : Bool) → eqb k 67 ≡ t → cond t (mark_with f (Close u) l) none ≡ some x → Read f k u l x
    is_close true p z = marked (Close u) (rw (eqb-true k 67 p) refl, h) z
    is_close false p z = absurd (none_some x z)

    is_terminal : (t : Bool) → eqb k 84 ≡ t → cond t (mark_with f (Terminal u) l) (cond (eqb k 67) (mark_with f (Close u) l) none) ≡ some x → Read f k u l x
    is_terminal true p z = marked (Terminal u) (rw (eqb-true k 84 p) refl, h) z
    is_terminal false p z = is_close (eqb k 67) refl z

    is_step : (t : Bool) → eqb k 69 ≡ t → cond t (step f u l) (cond (eqb k 84) (mark_with f (Terminal u) l) (cond (eqb k 67) (mark_with f (Close u) l) none)) ≡ some x → Read f k u l x
    is_step true p z = rw (eqb-true k 69 p) (step_taken f u l x h z)
    is_step false p z = is_terminal (eqb k 84) refl z

joined : (kind n : ℕ) {l s r to : List ℕ} → l ≡ 32 ∷ s → s ≡ decimal n ++ r → r ≡ 32 ∷ to → kind ∷ l ≡ head kind n ++ to
joined kind n {l} {s} {r} {to} p q z =
    rw (append_assoc (decimal n) (32 ∷ []) to)
    (ap (λ (m : List ℕ). kind ∷ m) (p ∙ ap (λ (m : List ℕ). 32 ∷ m) (q ∙ ap (λ (m : List ℕ). decimal n ++ m) z)))

fields_taken : (f : Form) (l : List ℕ) (x : Update) → fields f l ≡ some x → (l ≡ text f x) × Within f x
unfolding fields Taken Read
fields_taken f [] x e = absurd (none_some x e)
fields_taken f (kind ∷ l) x e =
    let t = taken (behind 32 l and_then value) (λ from. behind 32 from.rest and_then update f kind from.number) x e in
    let s = taken (behind 32 l) value t.0 t.1 in
    let v = value_taken s.0 t.0 s.2 in
    let r = taken (behind 32 t.0.rest) (update f kind t.0.number) x t.2 in
    let u = update_taken f kind t.0.number r.0 x v.1 r.2 in
    (joined kind t.0.number (behind_taken 32 l s.0 s.1) v.0 (behind_taken 32 t.0.rest r.0 r.1) ∙ u.0, u.1)

-- What is read as an update is its text.
pub line_only : (f : Form) (l : List ℕ) (x : Update) → line_of f l ≡ some x → (l ≡ text f x) × Within f x × (length l ≤ 16)
unfolding line_of
line_only f l x e = by (leb (length l) 16) refl e
  where
    by : (t : Bool) → leb (length l) 16 ≡ t → cond t (fields f l) none ≡ some x → (l ≡ text f x) × Within f x × (length l ≤ 16)
    by true p z =
        let r = fields_taken f l x z in
        (r.0, r.1, leb-true (length l) 16 p)
    by false p z = absurd (none_some x z)

-- The grammar and the text are one: a line is an update exactly where it is the update's text, with values within bounds and at most 16 bytes.
pub line-text : (f : Form) (l : List ℕ) (x : Update) → (line_of f l ≡ some x) ↔ ((l ≡ text f x) × Within f x × (length l ≤ 16))
line-text f l x = (line_only f l x, λ h. rw h.0 (line_back f x h.1 (rw h.0 at h.2)))

-- What is read as a count is the text of its number.
no_bytes : (l : List ℕ) → length l ≤ 0 → l ≡ []
no_bytes [] h = refl
no_bytes (b ∷ l) h = absurd (omega arith)

count-of : (f : Front) (c : ℕ) → cond (leb (length f.rest) 0 && (leb 1 f.number && leb f.number max_states)) (some f.number) none ≡ some c → (f.rest ≡ []) × (f.number ≡ c) × (1 ≤ c) × (c ≤ max_states)
count-of f c e = by (leb (length f.rest) 0) (leb 1 f.number) (leb f.number max_states) refl refl refl e
  where
    by : (p q r : Bool) → leb (length f.rest) 0 ≡ p → leb 1 f.number ≡ q → leb f.number max_states ≡ r → cond (p && (q && r)) (some f.number) none ≡ some c → (f.rest ≡ []) × (f.number ≡ c) × (1 ≤ c) × (c ≤ max_states)
    by true true true x y z w =
        let v : f.number ≡ c = cc in
        (no_bytes f.rest (leb-true (length f.rest) 0 x), v, omega (arith, leb-true 1 f.number y, v), omega (arith, leb-true f.number max_states z, v))
    by true true false x y z w = absurd (none_some c w)
    by true false r x y z w = absurd (none_some c w)
    by false q r x y z w = absurd (none_some c w)

pub count_only : (l : List ℕ) (c : ℕ) → count_of l ≡ some c → (l ≡ decimal c) × (1 ≤ c) × (c ≤ max_states)
unfolding count_of Taken
count_only l c e =
    let t = taken (value l) (λ f. cond (leb (length f.rest) 0 && (leb 1 f.number && leb f.number max_states)) (some f.number) none) c e in
    let v = value_taken l t.0 t.1 in
    let w = count-of t.0 c t.2 in
    (v.0 ∙ ap (λ (n : ℕ). decimal n ++ t.0.rest) w.1 ∙ ap (λ (r : List ℕ). decimal c ++ r) w.0 ∙ append-nil (decimal c), w.2, w.3)

pub count_back : (c : ℕ) → 1 ≤ c → c ≤ max_states → count_of (decimal c) ≡ some c
unfolding count_of
count_back c p q = rw (value_last c (omega arith), le-leb 1 c p, le-leb c max_states q)

-- A line is a count exactly where it is the text of a number from 1 to 2,048.
pub count_text : (l : List ℕ) (c : ℕ) → (count_of l ≡ some c) ↔ ((l ≡ decimal c) × (1 ≤ c) × (c ≤ max_states))
count_text l c = (count_only l c, λ h. rw h.0 (count_back c h.1 h.2))

pub count_long : (l : List ℕ) → 5 < length l → count_of l ≡ none
count_long l h = by (count_of l) refl
  where
    by : (o : Option ℕ) → count_of l ≡ o → o ≡ none
    by none e = refl
    by (some c) e = let w = count_only l c e in absurd (omega (arith, ap length w.0, five_digits c (omega (arith, w.2))))
