-- A listing from its first call to its last: each call keeps its progress, and where the last one says so the listing has been written.
-- Assumes nothing.
use mathlib.Core.Path.{◌≡◌, refl, sym, ◌∙◌, ap, subst}
use mathlib.Core.Bool.{Bool, true, false, cond}
use mathlib.Core.List.{List, [], ◌∷◌, ◌++◌, append_assoc, append-nil}
use mathlib.Core.Option.{none}
use Prim.Native.Nat.{ℕ, ◌≤◌}
use native.Mathlib.Omega.{arith}
use lib.Dec.{leb}
use lib.ListN.{length, take, drop, drop_of_length-le}
use lib.Seq.{take_at, take_all, take-length, drop-nil}
use borrow.Author.Tests.{leb-false, le-leb}
use Rattle.tables.specs.declared.Graph.{Graph}
use Rattle.tables.specs.Tables.{Tables}
use Rattle.record.specs.declared.splitter.Item.{Item}
use Rattle.record.specs.declared.splitter.Splitter.{Splitter}
use Rattle.record.specs.Text.{WroteAt}
use Rattle.record.specs.Items.{items}
use Rattle.record.specs.Splitting.{run}
use Rattle.record.proofs.Splitting.{run_items}
use Rattle.record.proofs.Heading.{Headed, items_headed, headed_back}
use Rattle.record.proofs.Placing.{placed_take}
use Rattle.reader.specs.declared.task.Task.{Task}
use Rattle.reader.specs.declared.task.Task.TheVariants.{Read, Write, End}
use Rattle.reader.specs.Opening.{reader_states, open_refusal}
use Rattle.reader.specs.Replaying.{with_count, start_of, after_items}
use Rattle.reader.specs.Standing.{Standing}
use Rattle.reader.specs.Reading.{record_limit, record_graph}
use Rattle.reader.specs.Advancing.{Passed, items_of, Applies, Follows}
use Rattle.reader.specs.Underway.{Underway}
use Rattle.reader.proofs.Lines.{opened_stands}
use Rattle.reader.proofs.Parts.{few_states, stands_more, underway_headed, underway_more, underway_follows, underway_last, underway_stopped}
use Rattle.report.specs.declared.lister.Lister.{Lister}
use Rattle.report.specs.Texts.{header}
use Rattle.report.specs.Listing.{lines_text, printed, listing}
use Rattle.report.specs.Progress.{left_by, Ongoing, Finished, ListingProgress, reads, writes, ends}
use Rattle.tables.specs.Numbers.{least}
use Rattle.report.specs.Printing.{passed_text, table_totals}
use Rattle.report.specs.Lister.{lister_room, begins, place_by, start_by, BeginsListing, Lists, full, pauses, goes_on, stopped, ended}
use Rattle.report.proofs.Saying.{lines_say, begins_say, lines_then, totals_say}

-- what is left, said in another way
abbrev left_as : {got left left' : List ℕ} {s : Splitter} {g : Graph} {t : Tables} → Underway record_graph got s left g t → left ≡ left' → Underway record_graph got s left' g t
left_as {s = s} u e = record { lines = u.lines; told = λ rest. u.told rest ∙ ap (λ (x : List ℕ). u.lines ++ run s (x ++ rest)) e; stands = u.stands }

-- The lines so far, as the record's state value has them, and their text.
abbrev said_by : List Item → List ℕ
said_by m = lines_text (start_of record_graph m) [] m

-- What the lines so far and those of a call print.
module _ {g g' : Graph} {t t' : Tables} {l : List Passed} (a : Applies g t l g' t') where
  says_more : (lines : List Item) → Headed (lines ++ items_of l) → Standing (start_of record_graph lines) (after_items (start_of record_graph lines) [] lines) g t → said_by (lines ++ items_of l) ≡ said_by lines ++ passed_text l
  unfolding lines_text
  says_more [] h s = sym (begins_say (omega arith) h s a)
  says_more (x ∷ lines) h s =
      let n = with_count x record_graph in
      lines_then n [] (x ∷ lines) (items_of l) ∙ ap (λ (y : List ℕ). lines_text n [] (x ∷ lines) ++ y) (sym (lines_say (headed_back x lines (items_of l) h) s a))

says : {got left left' : List ℕ} {s s' : Splitter} {g g' : Graph} {t t' : Tables} (u : Underway record_graph got s left g t) (f : Follows s left g t s' left' g' t') → said_by (u.lines ++ items_of f.passed) ≡ said_by u.lines ++ passed_text f.passed
says u f = says_more f.applied u.lines (underway_headed u f) u.stands

-- The text written so far, and a text behind it.
grown : (put output output' lined text : List ℕ) (at r : ℕ) → put ++ take at output ≡ header ++ lined → WroteAt at text output output' r → r ≤ length output → put ++ take r output' ≡ header ++ (lined ++ text)
grown put output output' lined text at r before w h =
    ap (λ (x : List ℕ). put ++ x) (placed_take w (omega (arith, w.after))) ∙ sym (append_assoc put (take at output) text) ∙
    ap (λ (x : List ℕ). x ++ text) before ∙ append_assoc header lined text

-- The whole listing: the lines, and behind them the totals of what they come to.
whole : {got left : List ℕ} {s : Splitter} {g g' : Graph} {t t' : Tables} {l : List Passed} (u : Underway record_graph got s left g t) → Applies g t l g' t' → (input : List ℕ) → items input ≡ u.lines ++ items_of l → header ++ (said_by u.lines ++ (passed_text l ++ table_totals (least g'.n reader_states) t'.status)) ≡ listing input
unfolding printed
whole {g' = g'} {t' = t'} {l = l} u a input e =
    let m = u.lines ++ items_of l in
    let k = table_totals (least g'.n reader_states) t'.status in
    let h : Headed m = subst Headed e (items_headed input) in
    ap (λ (x : List ℕ). header ++ x)
    (sym (append_assoc (said_by u.lines) (passed_text l) k) ∙
    ap (λ (x : List ℕ). x ++ k) (sym (says_more a u.lines h u.stands)) ∙
    ap (λ (x : List ℕ). said_by m ++ x) (totals_say (few_states record_limit m h) (stands_more record_graph (omega arith) a u.lines h u.stands)) ∙
    ap (λ (x : List Item). printed (start_of record_graph x) [] x) (sym e))

-- a place past the end of the output is its end
take_least : (n : ℕ) (d : List ℕ) → take (least n (length d)) d ≡ take n d
take_least n d = by (leb n (length d)) refl
  where
    by : (q : Bool) → leb n (length d) ≡ q → take (cond q n (length d)) d ≡ take n d
    by true e = refl
    by false e = let h = leb-false n (length d) e in let a : length d ≤ n = omega arith in take-length d ∙ sym (take_all n d a)

-- One call, on what is left of a piece: the bytes `got` have come, and what was written before the place ends with the lines so far.
module _
    (got put piece output : List ℕ) (l : Lister) (t : Tables)
    (u : Underway record_graph got l.reader.splitter (drop (start_by l.task l.next (length piece)) piece) l.reader.engine.graph t)
    (before : put ++ take (place_by l.task l.end) output ≡ header ++ said_by u.lines) where
  more : {text output' : List ℕ} {r : ℕ} → WroteAt (place_by l.task l.end) text output output' r → r ≤ length output → put ++ take r output' ≡ header ++ (said_by u.lines ++ text)
  more {text} {output'} {r} w h = grown put output output' (said_by u.lines) text (place_by l.task l.end) r before w h

  ongoing : {output' left : List ℕ} {l' : Lister} {t' : Tables} (f : Follows l.reader.splitter (drop (start_by l.task l.next (length piece)) piece) l.reader.engine.graph t l'.reader.splitter left l'.reader.engine.graph t') → left ≡ left_by l'.task l'.next piece → WroteAt (place_by l.task l.end) (passed_text f.passed) output output' l'.end → l'.end ≤ length output → Ongoing got put l' piece output' t'
  ongoing f e w h = record { under = left_as (underway_follows (omega arith) u f) e; text = more w h ∙ ap (λ (x : List ℕ). header ++ x) (sym (says u f)) }

  called : {output' : List ℕ} {l' : Lister} {t' : Tables} → Lists l piece output t l' output' t' → ListingProgress got put l' piece output' t'
  called (full h q z w) = rw (q, z, w) (writes refl (record { under = u; text = ap (λ (x : List ℕ). put ++ x) (take_least (place_by l.task l.end) output) ∙ before }))
  called (pauses f k s w h) = writes k (ongoing f (rw k) w h)
  called (goes_on f o k g s w h) = reads k (ongoing f (o ∙ rw k) w h)
  called (stopped f k s w h) = ends k (λ rest none. more w h ∙ whole u f.applied (got ++ rest) (underway_stopped (underway_follows (omega arith) u f) s rest))
  called (ended e n f o k w h) =
      ends k
      (λ rest none.
      more w h ∙
      whole u f.applied (got ++ rest)
      (ap (λ (x : List ℕ). items (got ++ x)) (none e) ∙ ap items (append-nil got) ∙ underway_last u (rw e (drop-nil (start_by l.task l.next 0))) f o n))

-- From the start of a piece, or from where the last call stopped in it.
drop_least : (next : ℕ) (piece : List ℕ) → drop (least next (length piece)) piece ≡ drop next piece
drop_least next piece = by (leb next (length piece)) refl
  where
    by : (q : Bool) → leb next (length piece) ≡ q → drop (cond q next (length piece)) piece ≡ drop next piece
    by true e = refl
    by false e = let h = leb-false next (length piece) e in let a : length piece ≤ next = omega arith in let b : length piece ≤ length piece = omega arith in drop_of_length-le piece b ∙ sym (drop_of_length-le piece a)

-- The first call: nothing has been read, and the header stands in the output.
pub progress_begun : {output output' : List ℕ} {t t' : Tables} {l : Lister} → BeginsListing output t l output' t' → lister_room ≤ length output → open_refusal record_limit t ≡ none → ListingProgress [] [] l [] output' t'
unfolding lines_text
progress_begun {output} {t = t} b h e =
    let z : begins output t ≡ true = rw (le-leb lister_room (length output) h, e) in
    rw (b.lister, b.tables, b.text, z)
    (reads refl
    (record {
      under = record { lines = []; told = λ rest. sym (run_items rest); stands = opened_stands record_limit t e };
      text = take_at header (drop (length header) output) (length header) refl ∙ sym (append-nil header);
    }))

module _ {got put piece output output' : List ℕ} {l l' : Lister} {t t' : Tables} where
  -- The piece that was asked for has been read, and listed from its start on.
  pub progress_read : {old : List ℕ} → ListingProgress got put l old output t → l.task ≡ Read → Lists l piece output t l' output' t' → ListingProgress (got ++ piece) put l' piece output' t'
  progress_read (reads q o) e c = called (got ++ piece) put piece output l t (left_as (underway_more (left_as o.under (rw e)) piece) (rw e)) (ap (λ (x : Task). put ++ take (place_by x l.end) output) e ∙ o.text) c
  progress_read (writes q o) e c = absurd (let z : ◌≡◌ {A = ℕ} 0 1 = cc in omega arith)
  progress_read (ends q o) e c = absurd (let z : ◌≡◌ {A = ℕ} 0 1 = cc in omega arith)

  -- The output has been written out, and the same piece is listed on.
  pub progress_written : ListingProgress got put l piece output t → l.task ≡ Write → Lists l piece output t l' output' t' → ListingProgress got (put ++ take l.end output) l' piece output' t'
  progress_written (reads q o) e c = absurd (let z : ◌≡◌ {A = ℕ} 0 1 = cc in omega arith)
  progress_written (writes q o) e c = called got (put ++ take l.end output) piece output l t (left_as o.under (rw (e, drop_least l.next piece))) (ap (λ (x : Task). put ++ take l.end output ++ take (place_by x l.end) output) e ∙ append-nil (put ++ take l.end output) ∙ o.text) c
  progress_written (ends q o) e c = absurd (let z : ◌≡◌ {A = ℕ} 0 1 = cc in omega arith)

-- The output has been written out for the last time: that was the listing.
pub progress_ended : {got put piece output : List ℕ} {l : Lister} {t : Tables} → ListingProgress got put l piece output t → l.task ≡ End → Finished got put l piece output
progress_ended (reads q o) e = absurd (let z : ◌≡◌ {A = ℕ} 0 1 = cc in omega arith)
progress_ended (writes q o) e = absurd (let z : ◌≡◌ {A = ℕ} 0 1 = cc in omega arith)
progress_ended (ends q o) e = o
