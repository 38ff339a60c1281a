-- The laws of putting text: none, and one text behind another.
-- Assumes nothing.
use mathlib.Core.Path.{refl, ◌∙◌}
use mathlib.Core.List.{List, [], ◌++◌}
use Prim.Native.Nat.{ℕ, ◌≤◌}
use native.Mathlib.Omega.{arith}
use lib.ListN.{length}
use Rattle.record.specs.declared.text.TextBuffer.{TextBuffer}
use Rattle.record.specs.Putting.{Puts}
use Rattle.record.proofs.Placing.{placed_none, placed_on}

pub puts_none : (b : TextBuffer) → b.end ≤ length b.buf.now → Puts [] b b
puts_none b h = record { wrote = placed_none b.end b.buf.now; size = refl; within = h; same = refl }

pub puts_then : {t u : List ℕ} {p q r : TextBuffer} → Puts t p q → Puts u q r → Puts (t ++ u) p r
puts_then a b =
    record {
      wrote = placed_on a.wrote b.wrote (omega (arith, b.within, a.size, b.size));
      size = b.size ∙ a.size;
      within = b.within;
      same = b.same ∙ a.same;
    }
