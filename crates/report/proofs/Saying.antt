-- What the text of lines says: by the tables after each, and by the definitions.
-- Assumes nothing.
use mathlib.Core.Path.{◌≡◌, refl, sym, ◌∙◌, ap}
use mathlib.Core.Bool.{Bool, true, false, not, false≢true}
use mathlib.Core.List.{List, [], ◌∷◌, ◌++◌, append_assoc, append-nil, Memᴰ}
use mathlib.Core.Option.{Option, some}
use Prim.Native.Nat.{ℕ, ◌≤◌, ◌<◌}
use native.Mathlib.Omega.{arith}
use lib.Dec.{eqb}
use lib.ListN.{length, get_or, take}
use borrow.Author.Tests.{eqb-true, le-leb}
use Rattle.gid.specs.Histories.{History}
use Rattle.gid.specs.Statuses.{status}
use Rattle.gid.specs.Refusals.{max_states}
use Rattle.gid.specs.Outcomes.{Outcome, refused, accepted}
use Rattle.tables.specs.declared.Graph.{Graph}
use Rattle.std.specs.Prelude.{None, Some, Ok, Err}
use Rattle.tables.specs.Tables.{Tables}
use Rattle.tables.specs.Numbers.{number_of}
use Rattle.engine.specs.Answers.{Answer, answer_outcome}
use Rattle.engine.specs.Promise.{Promise}
use Rattle.engine.proofs.Running.{was_accepted}
use Rattle.record.specs.declared.splitter.Item.{Item}
use Rattle.record.specs.declared.splitter.Item.TheVariants.{BadNames, TooMany, BadCount}
use Rattle.record.specs.Items.{item_number, item_line}
use Rattle.record.proofs.Splitting.{Lacks, no_count', no_names'}
use Rattle.record.proofs.Heading.{NoCount, NoCounts, Headed}
use Rattle.reader.specs.declared.driver.Until.TheVariants.{News}
use Rattle.reader.specs.Opening.{reader_states}
use Rattle.reader.specs.Turning.{Told, Answered, Came, sent, nothing, malformed, bad_names, too_many, states, bad_count}
use Rattle.reader.specs.Replaying.{with_count, start_of, outcome_of, after_item, after_items}
use Rattle.reader.specs.Standing.{Standing}
use Rattle.reader.specs.Advancing.{Passed, items_of, Applies, none as no_line, next, has_news, waited, Quiet, Stops, found, ended}
use Rattle.reader.proofs.Lines.{line_right, head_right}
use Rattle.reader.proofs.Ending.{Silent, count_answer}
use Rattle.totals.specs.Counting.{totals_below}
use Rattle.totals.proofs.Counting.{totals_same}
use Rattle.report.specs.Texts.{refused_word, refused_text, news_text, totals_text}
use Rattle.report.specs.Listing.{outcome_text, line_text, lines_text}
use Rattle.report.specs.Printing.{line_room, told_text, answer_text, passed_text, table_totals}
use Rattle.tables.specs.Numbers.{least}
use Rattle.report.proofs.Placing.{row_room}

-- statuses that agree on the news print the same
news_same : (line : ℕ) (f g : ℕ → ℕ) (l : List ℕ) → ((s : ℕ) → Memᴰ s l → f s ≡ g s) → news_text line f l ≡ news_text line g l
unfolding news_text
news_same line f g [] e = refl
news_same line f g (s ∷ l) e = rw (e s (Memᴰ.head refl), news_same line f g l (λ x m. e x (Memᴰ.tail m))) refl

-- what is told of a line, by its text
told_same : (f : ℕ → ℕ) (line : ℕ) (x : Outcome (List ℕ)) (m : ℕ) (a : Answer) (news entries : List ℕ) → ◌≡◌ {A = Option Told} (some (record { line = m; outcome = answer_outcome a news })) (some (record { line = line; outcome = x })) → ((s k : ℕ) → a ≡ Ok k → Memᴰ s (take k news) → get_or entries s 0 ≡ f s) → told_text m a news entries ≡ outcome_text line f x
told_same f line x m (Ok k) news entries e q =
    let w : ◌≡◌ {A = Told} (record { line = m; outcome = accepted (take k news) }) (record { line = line; outcome = x }) = cc in
    let y : line ≡ m = sym (ap (λ (z : Told). z.line) w) in
    let z : x ≡ accepted (take k news) = sym (ap (λ (z : Told). z.outcome) w) in
    rw (y, z) (news_same m (λ s. get_or entries s 0) f (take k news) (λ s i. q s k refl i))
told_same f line x m (Err r) news entries e q =
    let w : ◌≡◌ {A = Told} (record { line = m; outcome = refused (number_of r) }) (record { line = line; outcome = x }) = cc in
    let y : line ≡ m = sym (ap (λ (z : Told). z.line) w) in
    let z : x ≡ refused (number_of r) = sym (ap (λ (z : Told). z.outcome) w) in
    rw (y, z)

-- One line.
pub line_says : {start : Graph} {h : History} {a : Item} {g g' : Graph} {t t' : Tables} {o : Answered} → Standing start h g t → NoCount a → Came a g t g' t' o → answer_text o t'.news t'.status ≡ line_text start h a
unfolding line_text news_text
line_says s n nothing = refl
line_says {start} {h} {g = g} {g' = g'} {t = t} {t' = t'} s n (sent {r = r} {a = a} p e q) =
    let x = Rattle.record.specs.declared.splitter.Item.TheVariants.Update r in
    let w = line_right s tt (sent {r = r} p e q) in
    rw e (told_same (status (after_item start h x)) r.line (outcome_of start h x) r.line a t'.news t'.status (rw e at w.0) (λ y k z i. w.1.fits.status y (rw w.1.states (rw s.states at (by a p z i)))))
  where
    by : {y k : ℕ} (b : Answer) → Promise g r.update t g' b t' → b ≡ Ok k → Memᴰ y (take k t'.news) → y < g.n
    by {y} {k} (Ok j) q z i = let v : j ≡ k = cc in (was_accepted q).1.named.in_range y (rw v i)
    by (Err w) q z i = absurd (let v : ◌≡◌ {A = ℕ} 0 1 = cc in omega arith)
line_says s n malformed = refl
line_says s n bad_names = refl
line_says s n too_many = refl
line_says s n states = absurd n
line_says s n bad_count = refl

head_says : {start : Graph} {a : Item} {g g' : Graph} {t t' : Tables} {o : Answered} → Standing start [] g t → Came a g t g' t' o → answer_text o t'.news t'.status ≡ line_text (with_count a start) [] a
unfolding line_text news_text
head_says s nothing = refl
head_says s (sent p e q) = line_says s tt (sent p e q)
head_says s malformed = refl
head_says s bad_names = refl
head_says s too_many = refl
head_says s states = refl
head_says s bad_count = refl

-- All lines.
pub lines_say : {start : Graph} {h : History} {g g' : Graph} {t t' : Tables} {l : List Passed} → NoCounts (items_of l) → Standing start h g t → Applies g t l g' t' → passed_text l ≡ lines_text start h (items_of l)
unfolding passed_text lines_text
lines_say n s no_line = refl
lines_say {start} {h} n s (next {p = p} c a) = rw (line_says s n.0 c, lines_say {h = after_item start h p.item} n.1 (line_right s n.0 c).1 a)

-- From the start of a record.
pub begins_say : {start : Graph} {g g' : Graph} {t t' : Tables} {l : List Passed} → max_states ≤ start.n → Headed (items_of l) → Standing start [] g t → Applies g t l g' t' → passed_text l ≡ lines_text (start_of start (items_of l)) [] (items_of l)
unfolding passed_text lines_text
begins_say w h s no_line = refl
begins_say w h s (next c a) = rw (head_says s c, lines_say h.1 (head_right w s h.0 c).1 a)

pub lines_then : (start : Graph) (h : History) (l m : List Item) → lines_text start h (l ++ m) ≡ lines_text start h l ++ lines_text start (after_items start h l) m
unfolding lines_text
lines_then start h [] m = refl
lines_then start h (a ∷ l) m = rw (lines_then start (after_item start h a) l m) (sym (append_assoc (line_text start h a) (lines_text start (after_item start h a) l) (lines_text start (after_items start (after_item start h a) l) m)))

pub passed_then : (l m : List Passed) → passed_text (l ++ m) ≡ passed_text l ++ passed_text m
unfolding passed_text
passed_then [] m = refl
passed_then (p ∷ l) m = rw (passed_then l m) (sym (append_assoc (answer_text p.answer p.after.news p.after.status) (passed_text l) (passed_text m)))

-- The totals of tables that fit are those of the history.
pub totals_say : {start : Graph} {h : History} {g : Graph} {t : Tables} → start.n ≤ reader_states → Standing start h g t → table_totals (least g.n reader_states) t.status ≡ totals_text (totals_below start.n (status h))
totals_say {start} {h} {g} {t = t} few s =
    let n : g.n ≤ reader_states = omega (arith, s.states) in
    rw (le-leb g.n reader_states n)
    (ap totals_text (ap (λ (k : ℕ). totals_below k (λ r. get_or t.status r 0)) s.states ∙ totals_same start.n (λ r. get_or t.status r 0) (status h) (λ r z. s.fits.status r (omega (arith, s.states)))))

-- Lines without news that are not refused print nothing.
quiet_text : (l : List Passed) → Quiet News l → passed_text l ≡ []
unfolding passed_text news_text
quiet_text [] q = refl
quiet_text (p ∷ l) q = rw (by p.answer q.0, quiet_text l q.1)
  where
    none_of : (line k : ℕ) (b : Bool) → eqb k 0 ≡ b → not b ≡ false → news_text line (λ s. get_or p.after.status s 0) (take k p.after.news) ≡ []
    none_of line k true z y = rw (eqb-true k 0 z)
    none_of line k false z y = absurd (false≢true (sym y))

    told : (line : ℕ) (a : Answer) → has_news a ≡ false → told_text line a p.after.news p.after.status ≡ []
    told line (Ok k) e = none_of line k (eqb k 0) refl e
    told line (Err r) e = absurd (false≢true (sym e))

    by : (o : Answered) → waited News o ≡ false → answer_text o p.after.news p.after.status ≡ []
    by None e = refl
    by (Some a) e = told a.line a.outcome e

-- the tables after the last line
applies_last : {g g' : Graph} {t t' : Tables} (l : List Passed) (p : Passed) → Applies g t (l ++ (p ∷ [])) g' t' → p.after ≡ t'
applies_last [] p (next c no_line) = refl
applies_last (q ∷ l) p (next c a) = applies_last l p a

-- What a reader that waits for news passes prints what came of the line that it found.
pub stops_text : {g g' : Graph} {t t' : Tables} {l : List Passed} {left : List ℕ} {o : Answered} → Applies g t l g' t' → Stops News l left o → passed_text l ≡ answer_text o t'.news t'.status
unfolding passed_text
stops_text {g} {g'} {t} {t'} {l = l} a (found before p e q w z) =
    let y : p.after ≡ t' = applies_last before p (rw e at a) in
    rw e (passed_then before (p ∷ []) ∙ rw (quiet_text before q, append-nil (answer_text p.answer p.after.news p.after.status), y, z))
stops_text {l = l} a (ended q e z) = rw z (quiet_text l q)

-- Lines that have no answer print nothing.
pub silent_text : (l : List Passed) → Silent l → passed_text l ≡ []
unfolding passed_text
silent_text [] q = refl
silent_text (p ∷ l) q = rw (q.0, silent_text l q.1)

-- What both missing newlines print fits a line's room.
refusal_room : (line k : ℕ) → line < 100000 → k < 100000 → length (refused_text line k) ≤ line_room
refusal_room line k p q = omega (arith, row_room line refused_word k p q)

refused_says : {a : Item} {k : ℕ} {g g' : Graph} {t t' : Tables} {o : Answered} → Came a g t g' t' o → item_number a ≡ some k → (news entries : List ℕ) → answer_text o news entries ≡ refused_text (item_line a) k
refused_says nothing e news entries = absurd (let z : ◌≡◌ {A = ℕ} 0 1 = cc in omega arith)
refused_says (sent p q w) e news entries = absurd (let z : ◌≡◌ {A = ℕ} 0 1 = cc in omega arith)
refused_says {k = k} (malformed {n = n}) e news entries = ap (refused_text n) (let z : 11 ≡ k = cc in z)
refused_says {k = k} (bad_names {n = n}) e news entries = ap (refused_text n) (let z : 10 ≡ k = cc in z)
refused_says {k = k} too_many e news entries = ap (refused_text (item_line TooMany)) (let z : 12 ≡ k = cc in z)
refused_says states e news entries = absurd (let z : ◌≡◌ {A = ℕ} 0 1 = cc in omega arith)
refused_says {k = k} bad_count e news entries = ap (refused_text 2) (let z : 17 ≡ k = cc in z)

pub lacks_room : {m : List Item} {g g' : Graph} {t t' : Tables} {l : List Passed} → Lacks m → m ≡ items_of l → Applies g t l g' t' → length (passed_text l) ≤ line_room
unfolding passed_text
lacks_room no_count' e no_line = omega arith
lacks_room no_count' e (next {p = p} c no_line) =
    let i : p.item ≡ BadCount = let z = e in cc in
    rw (refused_says c (ap item_number i) p.after.news p.after.status, append-nil (refused_text (item_line p.item) 17)) (refusal_room (item_line p.item) 17 (omega (arith, ap item_line i)) (omega arith))
lacks_room no_count' e (next c (next d a)) = absurd (let z = ap length e in omega arith)
lacks_room (no_names' k) e no_line = omega arith
lacks_room (no_names' k) e (next c no_line) = absurd (let z = ap length e in omega arith)
lacks_room (no_names' k) e (next {p = p} c (next {p = q} d no_line)) =
    let i : q.item ≡ BadNames 3 = let z = e in cc in
    rw (count_answer {c = k} c (let z = e in cc), refused_says d (ap item_number i) q.after.news q.after.status, append-nil (refused_text (item_line q.item) 10)) (refusal_room (item_line q.item) 10 (omega (arith, ap item_line i)) (omega arith))
lacks_room (no_names' k) e (next c (next d (next f a))) = absurd (let z = ap length e in omega arith)
