-- The text of a history by its rank, and the lengths of its parts.
-- Assumes nothing.
use mathlib.Core.Path.{◌≡◌, refl, sym, ◌∙◌, ap}
use mathlib.Core.Bool.{true}
use mathlib.Core.List.Memᴰ
use mathlib.Core.List.{List, [], ◌∷◌, ◌++◌, append_assoc}
use Prim.Native.Nat.{ℕ, ◌+◌, ◌*◌, ◌-◌, ◌<◌, ◌≤◌}
use native.Mathlib.Omega.{arith}
use lib.ListN.{get_or, length, take, drop, set, length-append}
use lib.Seq.{set_at, length-take-le}
use Rattle.gid.specs.declared.Update.{Update}
use Rattle.gid.specs.declared.Update.TheVariants.{Step, Terminal, Close}
use Rattle.gid.specs.Histories.{History}
use Rattle.gid.specs.Statuses.{status, status_dead}
use Rattle.gid.proofs.Statuses.{Classified, as_live, as_dead, as_unknown, as_open, as_unseen, classified}
use Rattle.record.specs.declared.line.Form.TheVariants.{Keyed}
use Rattle.record.specs.Text.{text, WroteAt}
use Rattle.record.proofs.Decimals.{decimal_digit}
use Rattle.record.specs.declared.text.TextBuffer.{TextBuffer}
use Rattle.record.specs.Putting.{Puts}
use Rattle.record.proofs.Putting.{puts_then}
use Rattle.record.proofs.Writing.{step_length, mark_length}
use Rattle.enumeration.specs.Small.{SmallUpdate}
use Rattle.enumeration.specs.Ranking.{unranked, is_legal, rank_count}
use Rattle.enumeration.specs.Lines.{comma_terminated, comma_separated, history_text}
use Rattle.enumeration.specs.Sending.{StatusesAfter}
use Rattle.enumeration.specs.Parts.{newest_of, older_of}
use Rattle.enumeration.proofs.Ranking.{AllSmall, unranked_none, unranked_newest, unranked_short, unranked_small}
use Rattle.enumeration.proofs.Listing.{small_ranked}
use Rattle.enumeration.proofs.Accepting.{statuses_right}

-- the last byte of a text that was written, replaced
pub placed_last : (at : ℕ) (t d e : List ℕ) (r b c : ℕ) → WroteAt at (t ++ (b ∷ [])) d e r → at + length t < length d → WroteAt at (t ++ (c ∷ [])) d (set e (r - 1) c) r
placed_last at t d e r b c w h =
    let m : length (t ++ (b ∷ [])) ≡ length t + 1 = length-append t (b ∷ []) in
    let k : length (t ++ (c ∷ [])) ≡ length t + 1 = length-append t (c ∷ []) in
    let p : length (take at d ++ t) ≡ r - 1 = length-append (take at d) t ∙ (rw (length-take-le at d (omega arith)) (omega (arith, w.after))) in
    record {
      bytes =
          ap (λ (l : List ℕ). set l (r - 1) c) (w.bytes ∙ regroup b (drop (at + length (t ++ (b ∷ []))) d)) ∙
          set_at (take at d ++ t) b (drop (at + length (t ++ (b ∷ []))) d) c (r - 1) p ∙
          sym (regroup c (drop (at + length (t ++ (b ∷ []))) d)) ∙
          ap (λ (n : ℕ). take at d ++ ((t ++ (c ∷ [])) ++ drop (at + n) d)) (m ∙ sym k);
      after = w.after ∙ ap (λ (n : ℕ). at + n) (m ∙ sym k);
    }
  where
    regroup : (x : ℕ) (rest : List ℕ) → take at d ++ ((t ++ (x ∷ [])) ++ rest) ≡ (take at d ++ t) ++ (x ∷ rest)
    regroup x rest = simp append_assoc

-- of the empty history, and of one with a newest update
pub terminated_none : (i : ℕ) → i ≡ 0 → comma_terminated (unranked i) ≡ []
unfolding comma_terminated
terminated_none i e = rw (e, unranked_none)

pub terminated_ranked : (i : ℕ) → 0 < i → comma_terminated (unranked i) ≡ comma_terminated (unranked (older_of i)) ++ (text Keyed (newest_of i) ++ (44 ∷ []))
unfolding comma_terminated
terminated_ranked i h = rw (unranked_newest i h)

pub separated_none : (i : ℕ) → i ≡ 0 → comma_separated (unranked i) ≡ []
separated_none i e = rw (e, unranked_none)

pub separated_ranked : (i : ℕ) → 0 < i → comma_separated (unranked i) ≡ comma_terminated (unranked (older_of i)) ++ text Keyed (newest_of i)
separated_ranked i h = rw (unranked_newest i h)

-- The room that the newest update takes with the byte behind it, and that all take.
ended_room : (t u : List ℕ) (b : ℕ) → length (t ++ (u ++ (b ∷ []))) ≡ length t + length u + 1
ended_room t u b = omega (arith, length-append t (u ++ (b ∷ [])), length-append u (b ∷ []))

pub terminated_room : (i : ℕ) → 0 < i → length (comma_terminated (unranked i)) ≡ length (comma_terminated (unranked (older_of i))) + length (text Keyed (newest_of i)) + 1
terminated_room i h = ap length (terminated_ranked i h) ∙ ended_room (comma_terminated (unranked (older_of i))) (text Keyed (newest_of i)) 44

pub separated_room : (i : ℕ) → 0 < i → length (comma_separated (unranked i)) ≡ length (comma_terminated (unranked (older_of i))) + length (text Keyed (newest_of i))
separated_room i h = ap length (separated_ranked i h) ∙ length-append (comma_terminated (unranked (older_of i))) (text Keyed (newest_of i))

module _ {p q r : TextBuffer} (i j : ℕ) (x : Update) (h : 0 < i) (older : j ≡ older_of i) (newest : x ≡ newest_of i) (w : Puts (comma_terminated (unranked j)) p q) where
  pub terminated_placed : Puts (text Keyed x ++ (44 ∷ [])) q r → Puts (comma_terminated (unranked i)) p r
  terminated_placed v = rw (terminated_ranked i h, ← older, ← newest) (puts_then w v)

  pub separated_placed : Puts (text Keyed x ++ (58 ∷ [])) q r → Puts (comma_separated (unranked i) ++ (58 ∷ [])) p r
  separated_placed v =
      rw (separated_ranked i h, append_assoc (comma_terminated (unranked (older_of i))) (text Keyed (newest_of i)) (58 ∷ []), ← older, ← newest) (puts_then w v)

-- An update over two states has seven bytes,
text_small : (x : Update) → SmallUpdate x → length (text Keyed x) ≡ 7
text_small (Step e) s =
    let n : e.key < 10 = rw s.2 (omega arith) in
    step_length e ∙ (rw (decimal_digit e.from (omega (arith, s.0)), decimal_digit e.to (omega (arith, s.1)), decimal_digit e.key n))
text_small (Terminal u) s = mark_length 84 u ∙ (rw (decimal_digit u (omega arith)))
text_small (Close u) s = mark_length 67 u ∙ (rw (decimal_digit u (omega arith)))

-- so that a line of at most three has at most 27: 23 of the updates, the colon, two digits and the newline.
terminated_length : (h : History) → AllSmall h → length (comma_terminated h) ≡ 8 * length h
unfolding comma_terminated
terminated_length [] s = refl
terminated_length (x ∷ h) s =
    let t = text_small x (s x (Memᴰ.head refl)) in
    let c = terminated_length h (λ y m. s y (Memᴰ.tail m)) in
    ended_room (comma_terminated h) (text Keyed x) 44 ∙ omega arith

separated_length : (h : History) → length h ≤ 3 → AllSmall h → length (comma_separated h) ≤ 23
separated_length [] l s = omega arith
separated_length (x ∷ h) l s =
    let t = text_small x (s x (Memᴰ.head refl)) in
    let c = terminated_length h (λ y m. s y (Memᴰ.tail m)) in
    omega (arith, length-append (comma_terminated h) (text Keyed x))

pub separated_few : (i : ℕ) → i < rank_count → length (comma_separated (unranked i)) ≤ 23
separated_few i l = separated_length (unranked i) (unranked_short 3 i l) (unranked_small i)

-- A status has one digit.
pub status_few : (h : History) (s : ℕ) → status h s ≤ status_dead
status_few h s = at (status h s) (classified h s)
  where
    at : (k : ℕ) → Classified h s k → k ≤ status_dead
    at k (as_live e _) = omega arith
    at k (as_dead e _) = omega arith
    at k (as_unknown e _ _ _) = omega arith
    at k (as_open e _ _ _) = omega arith
    at k (as_unseen e _) = omega arith

-- The line of a history: its updates with a colon, and the digits of its statuses.
pub line_placed : {p q s : TextBuffer} (i : ℕ) (r : List ℕ) → i < rank_count → is_legal (unranked i) ≡ true → StatusesAfter (unranked i) r → Puts (comma_separated (unranked i) ++ (58 ∷ [])) p q → Puts ((48 + get_or r 0 0) ∷ (48 + get_or r 1 0) ∷ 10 ∷ []) q s → Puts (history_text (unranked i)) p s
unfolding history_text
line_placed i r l e a w v =
    let s = statuses_right (small_ranked i l e) a in
    rw (← s.0, ← s.1, ← append_assoc (comma_separated (unranked i)) (58 ∷ []) ((48 + get_or r 0 0) ∷ (48 + get_or r 1 0) ∷ 10 ∷ [])) (puts_then w v)
