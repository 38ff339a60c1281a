-- The comparison of two lists of bytes.
-- Assumes nothing.
use Rattle.std.proofs.Common.{◌≡◌, ℕ, suc, ◌≤◌, ◌<◌, false, ◌&&◌, List, [], ◌∷◌, length, take, eqb, Some, None, Bor, MatchOption, refl, ap, le-leb}
use Rattle.std.proofs.Math.Bool.{and-false}
use Rattle.std.specs.Cmp.Lexicographic.{pointwise}
use borrow.Author.Tests.{lt-leb}
use Rattle.std.specs.Prelude.{Option as Answer}
use Rattle.std.specs.Option.{option_eq}
use Rattle.record.specs.declared.line.Line.{Line}
use Rattle.record.specs.Items.{same}
use Rattle.record.specs.Buffer.{of_bytes}

pub other_length : (l m : List ℕ) → (length l ≡ length m → ⊥) → same l m ≡ false
unfolding same
other_length [] [] h = absurd (h refl)
other_length [] (y ∷ m) h = refl
other_length (x ∷ l) [] h = refl
other_length (x ∷ l) (y ∷ m) h = rw (other_length l m (λ e. h (ap suc e))) (and-false (eqb x y))

-- what `==` answers
pub same_bytes : (l m : List ℕ) → pointwise eqb l m ≡ same l m
unfolding same
same_bytes [] [] = refl
same_bytes [] (y ∷ m) = refl
same_bytes (x ∷ l) [] = refl
same_bytes (x ∷ l) (y ∷ m) = ap (λ t. eqb x y && t) (same_bytes l m)

-- what `==` answers of the content of a line
pub line_same : (l : Line) (o : Answer (Bor (List ℕ))) (t : Bor (List ℕ)) → MatchOption o (16 < l.len) (λ s. (l.len ≤ 16) × (s.now ≡ take l.len l.bytes)) → option_eq (λ x y. pointwise eqb x.now y.now) o (Some t) ≡ of_bytes (λ s. same s t.now) false l
line_same l None t h = rw (lt-leb l.len 16 h)
line_same l (Some s) t h = rw (le-leb l.len 16 h.0, ← h.1) (same_bytes s.now t.now)
