-- Writing at the front of a buffer: one byte, a list of bytes, and one text behind another.
-- Assumes nothing.
use mathlib.Core.Path.{◌≡◌, refl, sym, ◌∙◌, ap}
use mathlib.Core.List.{List, [], ◌∷◌, ◌++◌, append_assoc}
use Prim.Native.Nat.{ℕ, suc, ◌+◌, ◌/◌, ◌%◌, ◌≤◌, ◌<◌}
use native.Mathlib.Omega.{arith}
use native.Mathlib.Numerals.{add-one}
use lib.ListN.{length, get_or, take, drop, set, length-append}
use lib.Seq.{drop-cons, set_at, take_at, drop_at, drop-drop}
use mathlib.Core.Option.{none}
use Rattle.gid.specs.declared.Edge.{Edge}
use Rattle.gid.specs.declared.Update.TheVariants.{Step}
use Rattle.record.specs.declared.line.Form.TheVariants.{Keyed}
use Rattle.record.specs.Text.{decimal, keyed, head, field, text, Wrote, WroteAt}
use Rattle.record.proofs.Decimals.{decimal_digit, decimal_more, some_digit}

pub wrote_byte : (b : ℕ) (d : List ℕ) → 0 < length d → Wrote (b ∷ []) d (set d 0 b) 1
wrote_byte b [] h = absurd (omega arith)
wrote_byte b (x ∷ d) h = record { bytes = refl; count = refl }

-- one byte behind a text
pub wrote_then : (t d e : List ℕ) (r b : ℕ) → Wrote t d e r → length t < length d → Wrote (t ++ (b ∷ [])) d (set e r b) (r + 1)
wrote_then t d e r b w h =
    let m : length (t ++ (b ∷ [])) ≡ suc (length t) = length-append t (b ∷ []) ∙ add-one (length t) in
    record {
      bytes =
          ap (λ (l : List ℕ). set l r b) (w.bytes ∙ ap (λ (l : List ℕ). t ++ l) (drop-cons d (length t) 0 h)) ∙
          set_at t (get_or d (length t) 0) (drop (suc (length t)) d) b r (sym w.count) ∙
          sym (append_assoc t (b ∷ []) (drop (suc (length t)) d)) ∙
          ap (λ (k : ℕ). t ++ (b ∷ []) ++ drop k d) (sym m);
      count = omega (arith, w.count);
    }

-- a text behind another
pub wrote_at : (t u d e f : List ℕ) (r k : ℕ) → Wrote t d e r → WroteAt r u e f k → length t + length u ≤ length d → Wrote (t ++ u) d f k
wrote_at t u d e f r k w a h =
    record {
      bytes =
          a.bytes ∙
          ap (λ (l : List ℕ). l ++ (u ++ drop (r + length u) e)) (ap (take r) w.bytes ∙ take_at t (drop (length t) d) r (sym w.count)) ∙
          ap (λ (l : List ℕ). t ++ (u ++ l)) (ap (drop (r + length u)) w.bytes ∙ behind) ∙
          sym (append_assoc t u (drop (length (t ++ u)) d));
      count = a.after ∙ (rw w.count (sym (length-append t u)));
    }
  where
    behind : drop (r + length u) (t ++ drop (length t) d) ≡ drop (length (t ++ u)) d
    behind =
        sym (drop-drop (length u) r (t ++ drop (length t) d)) ∙
        ap (drop (length u)) (drop_at t (drop (length t) d) r (sym w.count)) ∙
        drop-drop (length u) (length t) d ∙
        ap (λ (n : ℕ). drop n d) (sym (length-append t u))

-- the digits of a number
pub room_more : (v : ℕ) → 10 ≤ v → length (decimal v) ≡ length (decimal (v / 10)) + 1
room_more v p = rw (decimal_more v p, length-append) refl

-- the digits of a number: one, or those before the last and one more
pub wrote_digit : (v : ℕ) (d : List ℕ) → v < 10 → length (decimal v) ≤ length d → Wrote (decimal v) d (set d 0 (48 + v)) 1
wrote_digit v d p h = rw (decimal_digit v p) (wrote_byte (48 + v) d (omega (arith, h, some_digit v)))

pub wrote_more : (v : ℕ) (d e : List ℕ) (r : ℕ) → 10 ≤ v → Wrote (decimal (v / 10)) d e r → length (decimal v) ≤ length d → Wrote (decimal v) d (set e r (48 + v % 10)) (r + 1)
wrote_more v d e r p w h = rw (decimal_more v p) (wrote_then (decimal (v / 10)) d e r (48 + v % 10) w (omega (arith, h, room_more v p)))

pub head_length : (kind from : ℕ) → length (head kind from) ≡ length (decimal from) + 3
head_length kind from = omega (arith, length-append (decimal from) (32 ∷ []))

-- a line of the keyed form, behind its head
pub step_length : (e : Edge) → length (text Keyed (Step e)) ≡ length (decimal e.from) + length (decimal e.to) + length (decimal e.key) + 4
step_length e =
    let h = head 69 e.from in
    let to = decimal e.to in
    omega (arith, head_length 69 e.from, length-append h to, length-append (h ++ to) (32 ∷ decimal e.key))

pub mark_length : (kind state : ℕ) → length (head kind state ++ field none ++ keyed Keyed (field none)) ≡ length (decimal state) + 6
mark_length kind state =
    let h = head kind state in
    omega (arith, head_length kind state, length-append h (45 ∷ []), length-append (h ++ (45 ∷ [])) (32 ∷ 45 ∷ []))
