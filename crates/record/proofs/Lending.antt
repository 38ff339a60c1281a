-- A text in the rest of a buffer, which was lent to its writer and has come back.
-- Assumes nothing.
use mathlib.Core.Path.{◌≡◌, refl, ◌∙◌, ap}
use mathlib.Core.List.{List, [], ◌∷◌, ◌++◌, append-nil}
use Prim.Native.Nat.{ℕ, ◌+◌, ◌-◌, ◌≤◌}
use native.Mathlib.Omega.{arith}
use lib.ListN.{length, take, drop, length-drop, drop_of_length-le}
use lib.Seq.{take_all, drop-drop}
use Rattle.record.specs.Text.{Wrote, WroteAt}
use Rattle.record.specs.Putting.{Puts}
use Rattle.record.specs.declared.text.TextBuffer.{TextBuffer}

none_taken : (l : List ℕ) → take 0 l ≡ []
none_taken [] = refl
none_taken (x ∷ l) = refl

front : (t s y : List ℕ) (r : ℕ) → WroteAt 0 t s y r → Wrote t s y r
front t s y r w =
    let n : 0 + length t ≡ length t = omega arith in
    record {
      bytes = w.bytes ∙ ap (λ (l : List ℕ). l ++ (t ++ drop (0 + length t) s)) (none_taken s) ∙ ap (λ (k : ℕ). t ++ drop k s) n;
      count = w.after ∙ n;
    }

-- What is put from the front on stands at the front, and its end is its length.
pub put_front : {t y : List ℕ} {p q : TextBuffer} → Puts t p q → p.end ≡ 0 → y ≡ q.buf.now → Wrote t p.buf.now y q.end
put_front {t = t} {y = y} {p = p} {q = q} w start came = front t p.buf.now y q.end (rw (came, ← start) w.wrote)

module _ (at : ℕ) (t d y : List ℕ) (r : ℕ) (inside : at ≤ length d) (w : Wrote t (take (length d - at) (drop at d)) y r) where
  few : length (drop at d) ≤ length d - at
  few = rw length-drop (omega arith)

  all : take (length d - at) (drop at d) ≡ drop at d
  all = take_all (length d - at) (drop at d) few

  -- nothing stands behind the rest
  none_left : y ++ drop (length d - at) (drop at d) ≡ y
  none_left = ap (λ (l : List ℕ). y ++ l) (drop_of_length-le (drop at d) few) ∙ append-nil y

  lent_back : WroteAt at t d (take at d ++ (y ++ drop (length d - at) (drop at d))) (at + r)
  lent_back =
      record {
        bytes = ap (λ (l : List ℕ). take at d ++ l) (none_left ∙ w.bytes ∙ ap (λ (l : List ℕ). t ++ drop (length t) l) all ∙ ap (λ (l : List ℕ). t ++ l) (drop-drop (length t) at d));
        after = ap (λ (n : ℕ). at + n) w.count;
      }

-- A text that was written at the front of the rest of a buffer is put behind what stands in the buffer.
pub put_back : {t y : List ℕ} {r : ℕ} {b b' : TextBuffer} → b.end + length t ≤ length b.buf.now → Wrote t (take (length b.buf.now - b.end) (drop b.end b.buf.now)) y r → b'.buf.now ≡ take b.end b.buf.now ++ (y ++ drop (length b.buf.now - b.end) (drop b.end b.buf.now)) → length b'.buf.now ≡ length b.buf.now → b'.end ≡ b.end + r → b'.buf.ghost_name ≡ b.buf.ghost_name → Puts t b b'
put_back {t = t} {y = y} {r = r} {b = b} room w whole size end same =
    record {
      wrote = rw (whole, end) (lent_back b.end t b.buf.now y r (omega arith) w);
      size = size;
      within = omega (arith, room, size, end, w.count);
      same = same;
    }
