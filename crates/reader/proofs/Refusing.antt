-- Reading up to the first refused line: which line it is, and what the tables then stand for.
-- Assumes nothing.
use mathlib.Core.Path.{◌≡◌, refl, sym, ◌∙◌, ap, subst}
use mathlib.Core.Bool.{true, false, false≢true}
use mathlib.Core.List.{List, [], ◌∷◌, ◌++◌, append_assoc, append-nil}
use mathlib.Core.Option.{Option, none}
use Prim.Native.Nat.{ℕ, ◌≤◌}
use native.Mathlib.Omega.{arith}
use Rattle.gid.specs.Histories.{History}
use Rattle.gid.specs.Refusals.{max_states}
use Rattle.gid.specs.Outcomes.{Outcome, refused, accepted}
use Rattle.tables.specs.declared.Graph.{Graph}
use Rattle.tables.specs.Tables.{Tables}
use Rattle.record.specs.declared.splitter.Item.{Item}
use Rattle.record.specs.Items.{item_line}
use Rattle.record.proofs.Heading.{NoCounts, Headed}
use Rattle.std.specs.Prelude.{None, Some, Ok, Err}
use Rattle.engine.specs.Answers.{Answer}
use Rattle.reader.specs.declared.driver.Until.TheVariants.{Refusal as UntilRefusal}
use Rattle.reader.specs.Turning.{Answered, line_outcome}
use Rattle.reader.specs.Replaying.{start_of, outcome_of, after_item, Refusal, or_later, first_refusal, or_stop, up_to_refusal}
use Rattle.reader.specs.Standing.{Standing}
use Rattle.reader.specs.Advancing.{Passed, items_of, Applies, none as no_line, next, is_refused, waited, Quiet, Stops, found, ended}
use Rattle.reader.proofs.Lines.{line_told, line_right, head_right}
use Rattle.reader.proofs.Whole.{or_refused_by, or_refused, at_refusal, quiet_or, told_refused}

-- the first refusal is found where the lines stop, and none behind it counts
by_answer : (x : Outcome (List ℕ)) (line m : ℕ) (a : Answer) → ((r : Option Refusal) → or_later x line r ≡ or_refused_by m a r) → (later : List Item) → (is_refused a ≡ true → or_stop x later ≡ []) × (is_refused a ≡ false → or_stop x later ≡ later)
by_answer (refused k) line m (Ok j) e later = absurd (let z = e none in let w : ◌≡◌ {A = ℕ} 0 1 = cc in omega arith)
by_answer (refused k) line m (Err j) e later = (λ w. refl, λ w. absurd (false≢true (sym w)))
by_answer (accepted l) line m (Ok j) e later = (λ w. absurd (false≢true w), λ w. refl)
by_answer (accepted l) line m (Err j) e later = absurd (let z = e none in let w : ◌≡◌ {A = ℕ} 0 1 = cc in omega arith)

by_outcome : (x : Outcome (List ℕ)) (line : ℕ) (o : Answered) → ((r : Option Refusal) → or_later x line r ≡ or_refused o r) → (later : List Item) → (waited UntilRefusal o ≡ true → or_stop x later ≡ []) × (waited UntilRefusal o ≡ false → or_stop x later ≡ later)
by_outcome (refused k) line None e later = absurd (let z = e none in let w : ◌≡◌ {A = ℕ} 0 1 = cc in omega arith)
by_outcome (accepted l) line None e later = (λ w. absurd (false≢true w), λ w. refl)
by_outcome x line (Some a) e later = by_answer x line a.line a.outcome e later

stop_told : (start : Graph) (h : History) (a : Item) (o : Answered) (news : List ℕ) → line_outcome o news ≡ line_told start h a → (later : List Item) → (waited UntilRefusal o ≡ true → or_stop (outcome_of start h a) later ≡ []) × (waited UntilRefusal o ≡ false → or_stop (outcome_of start h a) later ≡ later)
stop_told start h a o news e = by_outcome (outcome_of start h a) (item_line a) o (told_refused start h a o news e)

-- What is known of lines, where the answer o ended the reading: it is their first refusal, if there is one, and these are the lines up to it.
pub record Decided (start : Graph) (h : History) (lines : List Item) (o : Answered) (first : List Item) : Type 0 where
  pub refusal : first_refusal start h lines ≡ or_refused o none
  pub up_to : up_to_refusal start h lines ≡ first

module _ {start : Graph} {h : History} (p : Passed) (told : line_outcome p.answer p.after.news ≡ line_told start h p.item) where
  step_quiet : {lines first : List Item} {o : Answered} → waited UntilRefusal p.answer ≡ false → Decided start (after_item start h p.item) lines o first → Decided start h (p.item ∷ lines) o (p.item ∷ first)
  step_quiet {lines} e d =
      let r = first_refusal start (after_item start h p.item) lines in
      let l = up_to_refusal start (after_item start h p.item) lines in
      record {
        refusal = told_refused start h p.item p.answer p.after.news told r ∙ quiet_or p.answer r e ∙ d.refusal;
        up_to = ap (λ (x : List Item). p.item ∷ x) ((stop_told start h p.item p.answer p.after.news told l).1 e ∙ d.up_to);
      }

  step_found : (lines : List Item) → waited UntilRefusal p.answer ≡ true → Decided start h (p.item ∷ lines) p.answer (p.item ∷ [])
  step_found lines e =
      let r = first_refusal start (after_item start h p.item) lines in
      let l = up_to_refusal start (after_item start h p.item) lines in
      record {
        refusal = told_refused start h p.item p.answer p.after.news told r ∙ sym (at_refusal p.answer r e);
        up_to = ap (λ (x : List Item). p.item ∷ x) ((stop_told start h p.item p.answer p.after.news told l).0 e);
      }

found_at : {start : Graph} {h : History} {g g' : Graph} {t t' : Tables} (before : List Passed) (p : Passed) → NoCounts (items_of (before ++ (p ∷ []))) → Standing start h g t → Applies g t (before ++ (p ∷ [])) g' t' → Quiet UntilRefusal before → waited UntilRefusal p.answer ≡ true → (rest : List Item) → Decided start h (items_of (before ++ (p ∷ [])) ++ rest) p.answer (items_of (before ++ (p ∷ [])))
found_at [] p n s (next c a) q w rest = step_found p (line_right s n.0 c).0 rest w
found_at {start} {h} (b ∷ before) p n s (next c a) q w rest =
    let r = line_right s n.0 c in step_quiet b r.0 q.0 (found_at {h = after_item start h b.item} before p n.1 r.1 a q.1 w rest)

quiet_all : {start : Graph} {h : History} {g g' : Graph} {t t' : Tables} {l : List Passed} → NoCounts (items_of l) → Standing start h g t → Applies g t l g' t' → Quiet UntilRefusal l → Decided start h (items_of l) None (items_of l)
quiet_all n s no_line q = record { refusal = refl; up_to = refl }
quiet_all {start} {h} n s (next {p = p} c a) q =
    let r = line_right s n.0 c in step_quiet p r.0 q.0 (quiet_all {h = after_item start h p.item} n.1 r.1 a q.1)

-- From the start of a record.
module _ {start : Graph} {g : Graph} {t : Tables} (wide : max_states ≤ start.n) (s : Standing start [] g t) where
  found_begins : {g' : Graph} {t' : Tables} (before : List Passed) (p : Passed) → Headed (items_of (before ++ (p ∷ []))) → Applies g t (before ++ (p ∷ [])) g' t' → Quiet UntilRefusal before → waited UntilRefusal p.answer ≡ true → (rest : List Item) → Decided (start_of start (items_of (before ++ (p ∷ [])) ++ rest)) [] (items_of (before ++ (p ∷ [])) ++ rest) p.answer (items_of (before ++ (p ∷ [])))
  found_begins [] p h (next c a) q w rest = step_found p (head_right wide s h.0 c).0 rest w
  found_begins (b ∷ before) p h (next c a) q w rest = let r = head_right wide s h.0 c in step_quiet b r.0 q.0 (found_at before p h.1 r.1 a q.1 w rest)

  quiet_begins : {g' : Graph} {t' : Tables} {l : List Passed} → Headed (items_of l) → Applies g t l g' t' → Quiet UntilRefusal l → Decided (start_of start (items_of l)) [] (items_of l) None (items_of l)
  quiet_begins h no_line q = record { refusal = refl; up_to = refl }
  quiet_begins h (next {p = p} c a) q = let r = head_right wide s h.0 c in step_quiet p r.0 q.0 (quiet_all h.1 r.1 a q.1)

  -- Lines that stop at a refusal, whatever follows, or that are all there are.
  pub decides : {g' : Graph} {t' : Tables} {l : List Passed} {left : List ℕ} {o : Answered} → Headed (items_of l) → Applies g t l g' t' → Stops UntilRefusal l left o → (rest : List Item) → (o ≡ None → rest ≡ []) → Decided (start_of start (items_of l ++ rest)) [] (items_of l ++ rest) o (items_of l)
  decides {l = l} h a (found before p e q w z) rest n = rw (e, z) (found_begins before p (subst (λ (x : List Passed). Headed (items_of x)) e h) (rw e at a) q (rw z at w) rest)
  decides {l = l} h a (ended q e z) rest n = rw (z, n z, append-nil (items_of l)) (quiet_begins h a q)

quiet_then : (l m : List Passed) → Quiet UntilRefusal l → Quiet UntilRefusal m → Quiet UntilRefusal (l ++ m)
quiet_then [] m a b = b
quiet_then (p ∷ l) m a b = (a.0, quiet_then l m a.1 b)

-- No line of the first part is refused, and the second part goes on behind it.
pub stops_then : {l m : List Passed} {left left' : List ℕ} {o o' : Answered} → Stops UntilRefusal l left o → waited UntilRefusal o ≡ false → Stops UntilRefusal m left' o' → Stops UntilRefusal (l ++ m) left' o'
stops_then (found before p e q w z) n k = absurd (false≢true (sym n ∙ w))
stops_then {l = l} (ended q e z) n (found before p e' q' w z') = found (l ++ before) p (ap (λ (x : List Passed). l ++ x) e' ∙ sym (append_assoc l before (p ∷ []))) (quiet_then l before q q') w z'
stops_then {l = l} {m = m} (ended q e z) n (ended q' e' z') = ended (quiet_then l m q q') e' z'
