-- Texts written at a place of a buffer, one behind another.
-- Assumes nothing.
use mathlib.Core.Path.{◌≡◌, refl, sym, ◌∙◌, ap}
use mathlib.Core.List.{List, [], ◌∷◌, ◌++◌, append_assoc}
use Prim.Native.Nat.{ℕ, ◌+◌, ◌≤◌, ◌<◌}
use native.Mathlib.Omega.{arith}
use lib.ListN.{length, take, drop, set, length-append, length-drop, take-append-drop}
use lib.Seq.{length-take-le, take_at}
use Rattle.record.specs.Text.{Wrote, WroteAt}
use Rattle.record.proofs.Writing.{wrote_then, wrote_at}

-- a text at a place is a text at the front, behind what stood there
pub to_front : (at : ℕ) (t d e : List ℕ) (r : ℕ) → at ≤ length d → WroteAt at t d e r → Wrote (take at d ++ t) d e r
to_front at t d e r h w =
    let n : length (take at d ++ t) ≡ at + length t = length-append (take at d) t ∙ (rw (length-take-le at d h) refl) in
    record {
      bytes = w.bytes ∙ sym (append_assoc (take at d) t (drop (at + length t) d)) ∙ ap (λ (k : ℕ). take at d ++ t ++ drop k d) (sym n);
      count = w.after ∙ sym n;
    }

pub from_front : (at : ℕ) (t d e : List ℕ) (r : ℕ) → at ≤ length d → Wrote (take at d ++ t) d e r → WroteAt at t d e r
from_front at t d e r h w =
    let n : length (take at d ++ t) ≡ at + length t = length-append (take at d) t ∙ (rw (length-take-le at d h) refl) in
    record {
      bytes = w.bytes ∙ ap (λ (k : ℕ). take at d ++ t ++ drop k d) n ∙ append_assoc (take at d) t (drop (at + length t) d);
      after = w.count ∙ n;
    }

-- one text behind another
pub placed_then : (at : ℕ) (t u d e f : List ℕ) (r k : ℕ) → WroteAt at t d e r → WroteAt r u e f k → at + length t + length u ≤ length d → WroteAt at (t ++ u) d f k
placed_then at t u d e f r k w a h =
    let p : at ≤ length d = omega arith in
    let n : length (take at d ++ t) ≡ at + length t = length-append (take at d) t ∙ (rw (length-take-le at d p) refl) in
    from_front at (t ++ u) d f k p
    (rw (← append_assoc (take at d) t u) (wrote_at (take at d ++ t) u d e f r k (to_front at t d e r p w) a (omega arith)))

-- one byte behind a text
pub placed_byte : (at : ℕ) (t d e : List ℕ) (r b : ℕ) → WroteAt at t d e r → at + length t < length d → WroteAt at (t ++ (b ∷ [])) d (set e r b) (r + 1)
placed_byte at t d e r b w h =
    let p : at ≤ length d = omega arith in
    let n : length (take at d ++ t) ≡ at + length t = length-append (take at d) t ∙ (rw (length-take-le at d p) refl) in
    from_front at (t ++ (b ∷ [])) d (set e r b) (r + 1) p
    (rw (← append_assoc (take at d) t (b ∷ [])) (wrote_then (take at d ++ t) d e r b (to_front at t d e r p w) (omega arith)))

-- nothing written
pub placed_none : (at : ℕ) (d : List ℕ) → WroteAt at [] d d at
placed_none at d =
    let z : at ≡ at + 0 = omega arith in
    record { bytes = sym (take-append-drop at d) ∙ ap (λ (k : ℕ). take at d ++ drop k d) z; after = z }

-- one text behind another, by where the second ends
pub placed_on : {at : ℕ} {t u d e f : List ℕ} {r k : ℕ} → WroteAt at t d e r → WroteAt r u e f k → k ≤ length d → WroteAt at (t ++ u) d f k
placed_on {at} {t} {u} {d} {e} {f} {r} {k} w v h = placed_then at t u d e f r k w v (omega (arith, w.after, v.after))

pub placed_length : (at : ℕ) (t d e : List ℕ) (r : ℕ) → WroteAt at t d e r → at + length t ≤ length d → length e ≡ length d
placed_length at t d e r w h =
    let p : at ≤ length d = omega arith in
    ap length w.bytes ∙ rw (length-append, length-append, length-take-le at d p, length-drop) (omega arith)

-- the front of the buffer, up to the place after the text
pub placed_take : {at : ℕ} {t d e : List ℕ} {r : ℕ} → WroteAt at t d e r → at ≤ length d → take r e ≡ take at d ++ t
placed_take {at} {t} {d} {e} {r} w h =
    let n : length (take at d ++ t) ≡ at + length t = length-append (take at d) t ∙ (rw (length-take-le at d h) refl) in
    ap (λ (k : ℕ). take k e) w.after ∙ ap (take (at + length t)) (w.bytes ∙ sym (append_assoc (take at d) t (drop (at + length t) d))) ∙ take_at (take at d ++ t) (drop (at + length t) d) (at + length t) n
