-- A whole record: its lines up to the first refusal, the lines behind it, and the last ones, which may lack a newline.
-- Assumes nothing.
use mathlib.Core.Path.{◌≡◌, refl, sym, ◌∙◌, ap, subst}
use mathlib.Core.Bool.{true, false, false≢true}
use mathlib.Core.List.{List, [], ◌∷◌, ◌++◌, append_assoc, append-nil}
use mathlib.Core.Option.{Option, some, none}
use Prim.Native.Nat.{ℕ, ◌≤◌}
use native.Mathlib.Omega.{arith}
use lib.ListN.{length}
use Rattle.gid.specs.Histories.{History}
use Rattle.gid.specs.Refusals.{max_states}
use Rattle.gid.specs.Outcomes.{Outcome, accepted, by_number}
use Rattle.tables.specs.declared.Graph.{Graph}
use Rattle.tables.specs.Tables.{Tables}
use Rattle.tables.specs.Keeping.{KeptTables}
use Rattle.tables.proofs.Keeping.{tables_same, tables_then}
use Rattle.engine.specs.declared.Engine.{Engine}
use Rattle.record.specs.declared.splitter.Item.{Item}
use Rattle.record.specs.declared.splitter.Item.TheVariants.{Nothing as NoLine, Update as Sent, Malformed, BadNames, TooMany, States, BadCount}
use Rattle.record.specs.declared.splitter.Splitter.{Splitter}
use Rattle.record.specs.Items.{item_line, items}
use Rattle.record.specs.Splitting.{started, last_newlines}
use Rattle.record.proofs.Heading.{NoCounts, Headed, items_headed, bad_alone}
use Rattle.std.specs.Prelude.{Option as Perhaps, None, Some, Result, Ok, Err}
use Rattle.std.specs.Option.{option_or}
use Rattle.tables.specs.declared.refusal.Refusal.{Refusal as Why}
use Rattle.tables.specs.Numbers.{number_of}
use Rattle.engine.specs.Answers.{Answer, answer_outcome}
use Rattle.reader.specs.declared.RefusedLine.{RefusedLine}
use Rattle.reader.specs.declared.driver.Until.TheVariants.{Refusal as UntilRefusal, End}
use Rattle.reader.specs.Opening.{reader_states, reader_graph, open_refusal, freshened, Opens}
use Rattle.reader.specs.Turning.{Told, Answered, line_outcome, Came, sent, nothing, malformed, bad_names, too_many, states, bad_count}
use Rattle.reader.specs.Replaying.{with_count, start_of, outcome_of, after_item, record_start, history_of, Refusal, or_later, first_refusal}
use Rattle.reader.specs.Standing.{Standing}
use Rattle.reader.specs.Advancing.{Passed, items_of, Applies, none as no_line, next, waited, Quiet, is_refused, Stops, found, ended, Advances}
use Rattle.reader.specs.Reading.{line_refusal, graph_after_record, reading_of, Reads, refused_by, refused_line}
use Rattle.reader.proofs.Opening.{opened_kept}
use Rattle.reader.proofs.Lines.{standing_graph, line_told, line_right, head_right}
use Rattle.reader.proofs.Parts.{ready_opened, ready_stands, underway_opened, underway_more, underway_follows, underway_last}
use Rattle.reader.proofs.Following.{applies_same, applies_then, items_then, begins_within, begins_stands}

-- The first refusal among lines that were passed, by what came of each.
abbrev pub or_refused_by : ℕ → Answer → Option Refusal → Option Refusal
or_refused_by line (Ok k) r = r
or_refused_by line (Err w) r = some (record { line = line; number = number_of w })

abbrev pub or_refused : Answered → Option Refusal → Option Refusal
or_refused None r = r
or_refused (Some a) r = or_refused_by a.line a.outcome r

abbrev refusal_in : List Passed → Option Refusal
refusal_in [] = none
refusal_in (p ∷ l) = or_refused p.answer (refusal_in l)

outcome_told : (line : ℕ) (a : Answer) (news : List ℕ) (r : Option Refusal) → or_later (answer_outcome a news) line r ≡ or_refused_by line a r
outcome_told line (Ok k) news r = refl
outcome_told line (Err w) news r = refl

by_told : (line : ℕ) (x : Outcome (List ℕ)) (o : Answered) (news : List ℕ) → line_outcome o news ≡ some (record { line = line; outcome = x }) → (r : Option Refusal) → or_later x line r ≡ or_refused o r
by_told line x None news e r = absurd (let z : ◌≡◌ {A = ℕ} 0 1 = cc in omega arith)
by_told line x (Some a) news e r =
    let w : ◌≡◌ {A = Told} (record { line = a.line; outcome = answer_outcome a.outcome news }) (record { line = line; outcome = x }) = cc in
    let z : x ≡ answer_outcome a.outcome news = sym (ap (λ (y : Told). y.outcome) w) in
    let y : line ≡ a.line = sym (ap (λ (y : Told). y.line) w) in
    rw (z, y) (outcome_told a.line a.outcome news r)

not_told : (o : Answered) (news : List ℕ) → line_outcome o news ≡ none → (r : Option Refusal) → r ≡ or_refused o r
not_told None news e r = refl
not_told (Some a) news e r = absurd (let z : ◌≡◌ {A = ℕ} 0 1 = cc in omega arith)

-- what the definitions say of a line, and what came of it
pub told_refused : (start : Graph) (h : History) (a : Item) (o : Answered) (news : List ℕ) → line_outcome o news ≡ line_told start h a → (r : Option Refusal) → or_later (outcome_of start h a) (item_line a) r ≡ or_refused o r
told_refused start h NoLine o news e r = not_told o news e r
told_refused start h (Sent n) o news e r = by_told (item_line (Sent n)) (outcome_of start h (Sent n)) o news e r
told_refused start h (Malformed n) o news e r = by_told (item_line (Malformed n)) (outcome_of start h (Malformed n)) o news e r
told_refused start h (BadNames n) o news e r = by_told (item_line (BadNames n)) (outcome_of start h (BadNames n)) o news e r
told_refused start h TooMany o news e r = by_told (item_line TooMany) (outcome_of start h TooMany) o news e r
told_refused start h (States c) o news e r = not_told o news e r
told_refused start h BadCount o news e r = by_told (item_line BadCount) (outcome_of start h BadCount) o news e r

-- On tables that stand, the first refusal by the definitions is the first by what came of the lines.
first_refused : {start : Graph} {h : History} {g g' : Graph} {t t' : Tables} {l : List Passed} → NoCounts (items_of l) → Standing start h g t → Applies g t l g' t' → first_refusal start h (items_of l) ≡ refusal_in l
first_refused n s no_line = refl
first_refused {start} {h} n s (next {p = p} {l = l} c a) =
    let w = line_right s n.0 c in
    told_refused start h p.item p.answer p.after.news w.0 (first_refusal start (after_item start h p.item) (items_of l)) ∙
    ap (or_refused p.answer) (first_refused {h = after_item start h p.item} n.1 w.1 a)

begins_refused : {start : Graph} {g g' : Graph} {t t' : Tables} {l : List Passed} → max_states ≤ start.n → Headed (items_of l) → Standing start [] g t → Applies g t l g' t' → first_refusal (start_of start (items_of l)) [] (items_of l) ≡ refusal_in l
begins_refused m h s no_line = refl
begins_refused {start} m h s (next {p = p} {l = l} c a) =
    let n = with_count p.item start in
    let w = head_right m s h.0 c in
    told_refused n [] p.item p.answer p.after.news w.0 (first_refusal n (after_item n [] p.item) (items_of l)) ∙
    ap (or_refused p.answer) (first_refused h.1 w.1 a)

-- A 17 leaves the tables.
bad_came : {a : Item} {g g' : Graph} {t t' : Tables} {o : Answered} → Came a g t g' t' o → a ≡ BadCount → t' ≡ t
bad_came nothing e = refl
bad_came (sent p q w) e = absurd (let z : ◌≡◌ {A = ℕ} 0 1 = cc in omega arith)
bad_came malformed e = refl
bad_came bad_names e = refl
bad_came too_many e = refl
bad_came states e = refl
bad_came bad_count e = refl

bad_leaves : {g g' : Graph} {t t' : Tables} {l : List Passed} → items_of l ≡ BadCount ∷ [] → Applies g t l g' t' → t' ≡ t
bad_leaves e no_line = refl
bad_leaves e (next c no_line) = bad_came c (let z = e in cc)
bad_leaves e (next c (next d a)) = absurd (let z = ap length e in omega arith)

-- a line that is not refused changes nothing,
pub quiet_or : (o : Answered) (r : Option Refusal) → waited UntilRefusal o ≡ false → or_refused o r ≡ r
quiet_or None r e = refl
quiet_or (Some a) r e = at a.line a.outcome e
  where
    at : (line : ℕ) (x : Answer) → is_refused x ≡ false → or_refused_by line x r ≡ r
    at line (Ok k) e = refl
    at line (Err w) e = absurd (false≢true (sym e))

-- and so do lines of which none is
quiet_skips : (l m : List Passed) → Quiet UntilRefusal l → refusal_in (l ++ m) ≡ refusal_in m
quiet_skips [] m q = refl
quiet_skips (p ∷ l) m q = quiet_or p.answer (refusal_in (l ++ m)) q.0 ∙ quiet_skips l m q.1

quiet_none : (l : List Passed) → Quiet UntilRefusal l → refusal_in l ≡ none
quiet_none l q = ap refusal_in (sym (append-nil l)) ∙ quiet_skips l [] q

-- The first refusal, of what came of two lines of which the first may be refused.
either : (o : Answered) (p : Perhaps RefusedLine) → line_refusal (option_or (refused_line o) p) ≡ or_refused o (line_refusal p)
either None p = refl
either (Some a) p = at a.line a.outcome
  where
    at : (line : ℕ) (x : Answer) → line_refusal (option_or (refused_by line x) p) ≡ or_refused_by line x (line_refusal p)
    at line (Ok k) = refl
    at line (Err w) = refl

-- a refusal is the first one
pub at_refusal : (o : Answered) (r : Option Refusal) → waited UntilRefusal o ≡ true → or_refused o none ≡ or_refused o r
at_refusal None r e = absurd (false≢true e)
at_refusal (Some a) r e = at a.line a.outcome e
  where
    at : (line : ℕ) (x : Answer) → is_refused x ≡ true → or_refused_by line x none ≡ or_refused_by line x r
    at line (Ok k) e = absurd (false≢true e)
    at line (Err w) e = refl

-- the refusal of a line where it is the only one
lone : (o : Answered) → line_refusal (refused_line o) ≡ or_refused o none
lone None = refl
lone (Some a) = at a.line a.outcome
  where
    at : (line : ℕ) (x : Answer) → line_refusal (refused_by line x) ≡ or_refused_by line x none
    at line (Ok k) = refl
    at line (Err w) = refl

-- The refusal where the lines up to it stop, or none.
stop_refusal : (l : List Passed) (left : List ℕ) (o : Answered) → Stops UntilRefusal l left o → line_refusal (refused_line o) ≡ refusal_in l
stop_refusal l left o (found before p q quiet w z) = lone o ∙ rw (q, quiet_skips before (p ∷ []) quiet, z)
stop_refusal l left o (ended quiet z w) = rw (w, quiet_none l quiet)

module _ (l m n : List Passed) (left last : List ℕ) (o o' : Answered) where
  first_of : Stops UntilRefusal l left o → (left ≡ [] → m ≡ []) → Stops UntilRefusal n last o' → line_refusal (option_or (refused_line o) (refused_line o')) ≡ refusal_in (l ++ (m ++ n))
  first_of (found before p q quiet w z) idle k =
      either o (refused_line o') ∙ sym (at_refusal o (line_refusal (refused_line o')) w) ∙ at_refusal o (refusal_in (m ++ n)) w ∙
      rw (q, append_assoc before (p ∷ []) (m ++ n), quiet_skips before (p ∷ (m ++ n)) quiet, z)
  first_of (ended quiet z w) idle k = rw (w, idle z, quiet_skips l n quiet) (stop_refusal n last o' k)

-- waiting for the end finds no line
pub only_ended : {l : List Passed} {left : List ℕ} {o : Answered} → Stops End l left o → left ≡ []
only_ended (found before p q quiet w z) = absurd (false≢true w)
only_ended (ended quiet e z) = e

-- Refused: the record is not read.
pub reads_refused : (limit : ℕ) (bytes : List ℕ) {t t' : Tables} (k : Why) → Opens limit t t' (Err k) → Reads limit bytes t t' (Err k)
reads_refused limit bytes {t} {t'} k o = at (open_refusal limit t) refl
  where
    at : (x : Option ℕ) → open_refusal limit t ≡ x → Reads limit bytes t t' (Err k)
    at none q = absurd (let y = o.answer in let z : ◌≡◌ {A = ℕ} 0 1 = cc in omega arith)
    at (some j) q =
        let z : number_of k ≡ j = let y = o.answer in cc in
        let same : t' ≡ t = o.tables ∙ rw q in
        record {
          answer = rw (q, z);
          unchanged = λ i w. same;
          stands = λ w. absurd (let y : ◌≡◌ {A = ℕ} 0 1 = cc in omega arith);
          beyond = λ w. absurd (let y : ◌≡◌ {A = ℕ} 0 1 = cc in omega arith);
          uncounted = λ w b. absurd (let y : ◌≡◌ {A = ℕ} 0 1 = cc in omega arith);
          kept = rw same (tables_same reader_states reader_states limit t);
        }

-- Opened: the three parts of the reading.
module _
    {limit : ℕ} {bytes : List ℕ} {t t₁ t₂ t₃ t₄ : Tables} {opened : Result Engine Why} {start opening e : Engine} {s s₁ s₂ s₃ : Splitter} {g₁ g₂ : Graph} {left₁ left₂ left₃ newline : List ℕ} {o₁ o₂ o₃ : Answered}
    (opens : Opens limit t t₁ opened) (ready : opened ≡ Ok opening) (begins : s ≡ started) (same : start ≡ opening)
    (first : Advances UntilRefusal s bytes start.graph t₁ s₁ left₁ g₁ t₂ o₁)
    (rest : Advances End s₁ left₁ g₁ t₂ s₂ left₂ g₂ t₃ o₂)
    (ends : newline ≡ last_newlines s₂) (last : Advances UntilRefusal s₂ newline g₂ t₃ s₃ left₃ e.graph t₄ o₃) (over : left₃ ≡ []) where
  passes : open_refusal limit t ≡ none
  passes = (ready_opened opens ready).0

  begun : (start.graph ≡ reader_graph limit) × (t₁ ≡ freshened limit t)
  begun = let w = ready_opened opens ready in (rw same w.1, w.2)

  stood : Standing (reader_graph limit) [] start.graph t₁
  stood = rw same (ready_stands opens ready)

  abbrev lines : List Passed
  lines = first.follows.passed ++ (rest.follows.passed ++ last.follows.passed)

  applied : Applies start.graph t₁ lines e.graph t₄
  applied = applies_then first.follows.applied (applies_then rest.follows.applied last.follows.applied)

  told : items bytes ≡ items_of lines
  told =
      let wide : max_states ≤ (reader_graph limit).n = omega arith in
      let u = underway_more (underway_opened opens ready begins (ap (λ (x : Engine). x.graph) same)) bytes in
      let v = underway_follows wide (underway_follows wide u first.follows) rest.follows in
      underway_last v (only_ended rest.stops) last.follows over ends ∙
      append_assoc (items_of first.follows.passed) (items_of rest.follows.passed) (items_of last.follows.passed) ∙
      sym (items_then first.follows.passed (rest.follows.passed ++ last.follows.passed) ∙ ap (λ (x : List Item). items_of first.follows.passed ++ x) (items_then rest.follows.passed last.follows.passed))

  headed : Headed (items_of lines)
  headed = subst Headed told (items_headed bytes)

  stands : Standing (record_start limit bytes) (history_of limit bytes) e.graph t₄
  stands = rw told (begins_stands (omega arith) headed stood applied)

  decided : first_refusal (record_start limit bytes) [] (items bytes) ≡ refusal_in lines
  decided = rw told (begins_refused (omega arith) headed stood applied)

  past : KeptTables (record_start limit bytes).n (record_start limit bytes).n limit (freshened limit t) t₄
  past = rw told (rw (begun.0, begun.1) at (begins_within headed applied).kept)

  pub reads_whole : Reads limit bytes t t₄ (Ok (record { engine = e; refused = option_or (refused_line o₁) (refused_line o₃) }))
  reads_whole =
      let g : e.graph ≡ graph_after_record limit bytes = standing_graph stands in
      record {
        answer =
            ap (λ (x : Option Refusal). accepted (record { graph = e.graph; refusal = x })) (first_of first.follows.passed rest.follows.passed last.follows.passed left₁ left₃ o₁ o₃ first.stops rest.idle last.stops) ∙
            ap (λ (x : Option Refusal). accepted (record { graph = e.graph; refusal = x })) (sym decided) ∙
            ap (λ (x : Graph). accepted (record { graph = x; refusal = first_refusal (record_start limit bytes) [] (items bytes) })) g ∙
            ap (λ (x : Option ℕ). by_number x (reading_of limit bytes)) (sym passes);
        unchanged = λ k q. absurd (let p = passes in let z : ◌≡◌ {A = ℕ} 0 1 = cc in omega arith);
        stands = λ q. rw g at stands;
        beyond = λ q. past;
        uncounted = λ q b. bad_leaves (sym told ∙ bad_alone bytes b) applied ∙ begun.1;
        kept = tables_then (opened_kept limit t passes) (rw (begun.0, begun.1) at (applies_same applied).kept);
      }
