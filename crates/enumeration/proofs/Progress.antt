-- A listing under way: rank by rank, and the count behind the last.
-- Assumes nothing.
use mathlib.Core.Path.{◌≡◌, refl, sym, ◌∙◌, ap}
use mathlib.Core.Bool.{Bool, true, false, cond}
use mathlib.Core.List.{List, [], ◌∷◌, ◌++◌, map, append_assoc, append-nil}
use Prim.Native.Nat.{ℕ, zero, suc, ◌+◌, ◌<◌, ◌≤◌}
use native.Mathlib.Omega.{arith}
use native.Mathlib.Numerals.{add-one}
use lib.ListN.{length, length-append}
use Rattle.gid.specs.News.{below}
use Rattle.record.specs.Text.{decimal, WroteAt}
use Rattle.record.proofs.Decimals.{five_digits}
use Rattle.record.specs.declared.text.TextBuffer.{TextBuffer}
use Rattle.record.specs.Putting.{Puts}
use Rattle.record.proofs.Putting.{puts_none, puts_then}
use Rattle.enumeration.specs.Ranking.{unranked, is_legal, legal_ranks, rank_count, histories}
use Rattle.enumeration.specs.Lines.{history_text, histories_text, enumeration_text, enumeration_room, Enumerates}
use Rattle.enumeration.specs.Parts.{history_room, EnumeratesBelow}
use Rattle.enumeration.proofs.Counting.{ranks_counted}

-- one line more
lines_more : (l : List ℕ) (i : ℕ) → histories_text (map unranked (l ++ (i ∷ []))) ≡ histories_text (map unranked l) ++ history_text (unranked i)
unfolding histories_text
lines_more [] i = append-nil (history_text (unranked i))
lines_more (j ∷ l) i = ap (λ (t : List ℕ). history_text (unranked j) ++ t) (lines_more l i) ∙ sym (append_assoc (history_text (unranked j)) (histories_text (map unranked l)) (history_text (unranked i)))

-- one rank more, of a legal history and of another
ranks_legal : (m : ℕ) → is_legal (unranked m) ≡ true → legal_ranks (m + 1) ≡ legal_ranks m ++ (m ∷ [])
unfolding below
ranks_legal m e = rw (add-one m, e)

ranks_passed : (m : ℕ) → is_legal (unranked m) ≡ false → legal_ranks (m + 1) ≡ legal_ranks m
unfolding below
ranks_passed m e = rw (add-one m, e) (append-nil (legal_ranks m))

pub ranks_few : (m : ℕ) → length (legal_ranks m) ≤ m
unfolding below
ranks_few zero = omega arith
ranks_few (suc m) = omega (arith, length-append (legal_ranks m) (cond (is_legal (unranked m)) (m ∷ []) []), one (is_legal (unranked m)), ranks_few m)
  where
    one : (b : Bool) → length (cond b (m ∷ []) []) ≤ 1
    one true = omega arith
    one false = omega arith

pub lists_none : (b : TextBuffer) → b.end ≤ length b.buf.now → EnumeratesBelow 0 b b 0
unfolding below histories_text
lists_none b h = record { puts = puts_none b h; counted = refl; room = omega arith }

module _ (m : ℕ) {b p : TextBuffer} {k : ℕ} (l : EnumeratesBelow m b p k) where
  pub lists_legal : {q : TextBuffer} → is_legal (unranked m) ≡ true → Puts (history_text (unranked m)) p q → q.end ≤ p.end + history_room → EnumeratesBelow (m + 1) b q (k + 1)
  lists_legal e w r =
      record {
        puts = rw (ranks_legal m e, lines_more (legal_ranks m) m) (puts_then l.puts w);
        counted = rw (ranks_legal m e, length-append (legal_ranks m) (m ∷ []), l.counted) refl;
        room = omega (arith, l.room, r);
      }

  pub lists_passed : is_legal (unranked m) ≡ false → EnumeratesBelow (m + 1) b p k
  lists_passed e =
      record {
        puts = rw (ranks_passed m e) l.puts;
        counted = rw (ranks_passed m e) l.counted;
        room = omega (arith, l.room);
      }

-- The count has room behind the lines.
pub count_room : {b p : TextBuffer} {k : ℕ} → EnumeratesBelow rank_count b p k → b.end + enumeration_room ≤ length b.buf.now → p.end + length (decimal k) < length p.buf.now
count_room {k = k} l h = omega (arith, l.room, l.puts.size, five_digits k (omega (arith, l.counted, ranks_few rank_count)))

-- The lines, the count and a newline are the listing.
pub enumeration_placed : {output output' : List ℕ} {k end : ℕ} → k ≡ length (legal_ranks rank_count) → WroteAt 0 ((histories_text (map unranked (legal_ranks rank_count)) ++ decimal k) ++ (10 ∷ [])) output output' end → enumeration_room ≤ length output → Enumerates output output' end
unfolding enumeration_text histories
enumeration_placed {k = k} c w h =
    let all = histories_text (map unranked (legal_ranks rank_count)) in
    record {
      short = λ s. absurd (omega arith);
      whole = λ s. rw (← ranks_counted, ← c, ← append_assoc all (decimal k) (10 ∷ [])) w;
    }
