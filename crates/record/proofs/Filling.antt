-- Filling the line buffer from a slice is adding its bytes one by one.
-- Assumes nothing.
use mathlib.Core.Path.{◌≡◌}
use mathlib.Core.List.{List, []}
use Prim.Native.Nat.{ℕ, suc, ◌+◌, ◌≤◌, ◌<◌}
use native.Mathlib.Omega.{arith}
use lib.ListN.{length, get_or, drop, set, drop_of_length-le}
use borrow.Author.Tests.{eq-eqb, ne_eqb, le-leb, lt-leb}
use Rattle.record.specs.declared.line.Line.{Line}
use Rattle.record.specs.declared.line.Filled.{Filled}
use Rattle.record.specs.Lines.{before}
use Rattle.record.specs.Buffer.{with_byte, with_bytes, filled_from}
use Rattle.std.proofs.lemmas.List.{drop_more}

pub with_long : (b : Line) (c : ℕ) → 16 ≤ b.len → with_byte b c ≡ record { bytes = b.bytes; len = 17 }
unfolding with_byte
with_long b c h = rw (le-leb 16 b.len h)

pub with_short : (b : Line) (c : ℕ) → b.len < 16 → with_byte b c ≡ record { bytes = set b.bytes b.len c; len = b.len + 1 }
unfolding with_byte
with_short b c h = rw (lt-leb 16 b.len h)

stays : (b : Line) (i : ℕ) (l : List ℕ) → before l ≡ [] → ◌≡◌ {A = Filled} (record { line = with_bytes b (before l); next = i + length (before l) }) (record { line = b; next = i })
unfolding with_bytes
stays b i l e = let z : i + 0 ≡ i = omega arith in rw (e, z)

module _ (b : Line) (s : List ℕ) (i : ℕ) where
  pub filled_end : length s ≤ i → filled_from b s i ≡ record { line = b; next = i }
  unfolding before
  filled_end h = stays b i (drop i s) (rw (drop_of_length-le s h))

  module _ (h : i < length s) where
    pub filled_break : get_or s i 0 ≡ 10 → filled_from b s i ≡ record { line = b; next = i }
    unfolding before
    filled_break e = stays b i (drop i s) (rw (drop_more s i 0 h, eq-eqb (get_or s i 0) 10 e))

    pub filled_more : (get_or s i 0 ≡ 10 → ⊥) → filled_from b s i ≡ filled_from (with_byte b (get_or s i 0)) s (i + 1)
    unfolding before with_bytes
    filled_more e =
        let l = before (drop (i + 1) s) in
        let z : i + suc (length l) ≡ i + 1 + length l = omega arith in
        rw (drop_more s i 0 h, ne_eqb (get_or s i 0) 10 e, z)
