-- The texts of a listing, one put behind another, and the room that they take.
-- Assumes nothing.
use mathlib.Core.Path.{◌≡◌, refl, sym}
use mathlib.Core.Bool.{Bool, true, false, cond}
use mathlib.Core.List.{List, [], ◌∷◌, ◌++◌, append_assoc, append-nil}
use Prim.Native.Nat.{ℕ, zero, suc, ◌+◌, ◌*◌, ◌≤◌, ◌<◌}
use native.Mathlib.Omega.{arith}
use native.Mathlib.Numerals.{add-one}
use lib.Dec.{eqb}
use lib.ListN.{length, get_or, take, length-append}
use lib.Seq.{take-suc}
use Rattle.record.specs.Text.{decimal}
use Rattle.record.specs.declared.text.TextBuffer.{TextBuffer}
use Rattle.record.specs.Putting.{Puts}
use Rattle.record.proofs.Decimals.{five_digits}
use Rattle.record.proofs.Putting.{puts_then}
use Rattle.totals.specs.declared.Totals.{Totals}
use Rattle.totals.specs.Counting.{having, totals_below}
use Rattle.totals.proofs.Counting.{having_few}
use Rattle.report.specs.Texts.{open_word, unknown_word, end_live_word, end_dead_word, ending, row, news_text, verdict_word, totals_text}

pub ending_length : (word : List ℕ) (n : ℕ) → length (ending word n) ≡ length word + length (decimal n) + 1
unfolding ending
ending_length word n = rw (length-append (word ++ decimal n) (10 ∷ []), length-append word (decimal n)) refl

ending_room : (word : List ℕ) (n : ℕ) → n < 100000 → length (ending word n) ≤ length word + 6
ending_room word n h = omega (arith, ending_length word n, five_digits n h)

pub row_length : (line : ℕ) (word : List ℕ) (n : ℕ) → length (row line word n) ≡ length (decimal line) + length (ending word n)
unfolding row
row_length line word n = length-append (decimal line) (ending word n)

pub row_room : (line : ℕ) (word : List ℕ) (n : ℕ) → line < 100000 → n < 100000 → length (row line word n) ≤ length word + 11
row_room line word n p q = omega (arith, row_length line word n, ending_room word n q, five_digits line p)

-- the news, one state more
news_more : (line : ℕ) (f : ℕ → ℕ) (l : List ℕ) (s : ℕ) → news_text line f (l ++ (s ∷ [])) ≡ news_text line f l ++ row line (verdict_word (f s)) s
unfolding news_text
news_more line f [] s = append-nil (row line (verdict_word (f s)) s)
news_more line f (x ∷ l) s = rw (news_more line f l s) (sym (append_assoc (row line (verdict_word (f x)) x) (news_text line f l) (row line (verdict_word (f s)) s)))

pub news_next : (line : ℕ) (f : ℕ → ℕ) (l : List ℕ) (i : ℕ) → i < length l → news_text line f (take (i + 1) l) ≡ news_text line f (take i l) ++ row line (verdict_word (f (get_or l i 0))) (get_or l i 0)
news_next line f l i h = rw (add-one i, take-suc l i 0 h, news_more line f (take i l) (get_or l i 0)) refl

-- it fits where the news do
pub news_fits : (line : ℕ) (f : ℕ → ℕ) (l : List ℕ) (i : ℕ) → i < length l → length (news_text line f (take i l)) + length (row line (verdict_word (f (get_or l i 0))) (get_or l i 0)) ≤ length (news_text line f l)
unfolding news_text
news_fits line f [] i h = absurd (omega arith)
news_fits line f (s ∷ l) zero h = omega (arith, length-append (row line (verdict_word (f s)) s) (news_text line f l))
news_fits line f (s ∷ l) (suc i) h = omega (arith, news_fits line f l i (omega arith), length-append (row line (verdict_word (f s)) s) (news_text line f l), length-append (row line (verdict_word (f s)) s) (news_text line f (take i l)))

word_room : (b : Bool) → length {A = ℕ} (cond b (32 ∷ 108 ∷ 105 ∷ 118 ∷ 101 ∷ 32 ∷ []) (32 ∷ 100 ∷ 101 ∷ 97 ∷ 100 ∷ 32 ∷ [])) ≡ 6
word_room true = refl
word_room false = refl

verdict_room : (line k s : ℕ) → line < 100000 → s < 100000 → length (row line (verdict_word k) s) ≤ 17
verdict_room line k s p q = omega (arith, row_room line (verdict_word k) s p q, word_room (eqb k 3))

pub news_room : (line : ℕ) (f : ℕ → ℕ) (l : List ℕ) → line < 100000 → ((i : ℕ) → get_or l i 0 < 100000) → length (news_text line f l) ≤ 17 * length l
unfolding news_text
news_room line f [] p q = omega arith
news_room line f (s ∷ l) p q =
    rw (length-append (row line (verdict_word (f s)) s) (news_text line f l)) (omega (arith, verdict_room line (f s) s p (q 0), news_room line f l p (λ i. q (suc i))))

-- the totals, by their four lines
pub totals_length : (t : Totals) → length (totals_text t) ≡ length (ending open_word t.«open») + length (ending unknown_word t.unknown) + length (ending end_live_word t.live) + length (ending end_dead_word t.dead)
unfolding totals_text
totals_length t =
    let a = ending open_word t.«open» in
    let b = ending unknown_word t.unknown in
    let c = ending end_live_word t.live in
    rw (length-append (a ++ b ++ c) (ending end_dead_word t.dead), length-append (a ++ b) c, length-append a b) refl

pub totals_put : (t : Totals) {p q r s u : TextBuffer} → Puts (ending open_word t.«open») p q → Puts (ending unknown_word t.unknown) q r → Puts (ending end_live_word t.live) r s → Puts (ending end_dead_word t.dead) s u → Puts (totals_text t) p u
unfolding totals_text
totals_put t w x y z = puts_then (puts_then (puts_then w x) y) z

pub totals-room : (n : ℕ) → n ≤ 2048 → (f : ℕ → ℕ) → length (totals_text (totals_below n f)) ≤ 80
totals-room n h f =
    let i = ending_room open_word (having n f 1) (omega (arith, having_few n f 1)) in
    let j = ending_room unknown_word (having n f 2) (omega (arith, having_few n f 2)) in
    let k = ending_room end_live_word (having n f 3) (omega (arith, having_few n f 3)) in
    let l = ending_room end_dead_word (having n f 4) (omega (arith, having_few n f 4)) in
    omega (arith, totals_length (totals_below n f))
