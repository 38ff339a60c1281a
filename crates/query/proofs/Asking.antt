-- The status call from its parts: the tests, the lines up to the first refusal, and the last lines.
-- Assumes nothing.
use mathlib.Core.Path.{◌≡◌, refl, sym, ◌∙◌, ap, subst}
use mathlib.Core.Bool.{true, false, false≢true}
use mathlib.Core.List.{List, [], ◌∷◌, ◌++◌, append-nil}
use mathlib.Core.Option.{Option, some, none}
use Prim.Native.Nat.{ℕ, ◌+◌, ◌<◌, ◌≤◌}
use native.Mathlib.Omega.{arith}
use lib.ListN.{length, get_or}
use Rattle.gid.specs.Statuses.{status, status_dead}
use Rattle.tables.specs.declared.Graph.{Graph}
use Rattle.tables.specs.Tables.{Tables}
use Rattle.tables.proofs.Keeping.{tables_same, tables_then}
use Rattle.tables.proofs.Sizes.{long-enough}
use Rattle.engine.specs.declared.Engine.{Engine}
use Rattle.engine.specs.Answers.{Answer}
use Rattle.record.specs.declared.splitter.Item.{Item}
use Rattle.record.specs.declared.splitter.Splitter.{Splitter}
use Rattle.record.specs.Items.{items, count_in}
use Rattle.record.specs.Splitting.{started, last_newlines, run}
use Rattle.record.proofs.Splitting.{run_items}
use Rattle.record.proofs.Heading.{Headed, items_headed, headed_front}
use Rattle.reader.specs.Turning.{Answered}
use Rattle.std.specs.Prelude.{Result, Ok, Err, None, Some}
use Rattle.tables.specs.declared.refusal.Refusal.{Refusal as RefusedBy}
use Rattle.tables.specs.Numbers.{number_of}
use Rattle.reader.specs.declared.driver.Until.TheVariants.{Refusal as UntilRefusal}
use Rattle.reader.specs.Opening.{reader_states, open_refusal, Opens}
use Rattle.reader.specs.Replaying.{start_of, record_start, history_of, after_items, Refusal}
use Rattle.reader.specs.Reading.{record_limit, record_graph}
use Rattle.reader.specs.Standing.{Standing}
use Rattle.reader.specs.Advancing.{Passed, items_of, Applies, waited, is_refused, Stops, found, ended, Advances}
use Rattle.reader.proofs.Opening.{opened_kept}
use Rattle.reader.proofs.Lines.{standing_graph}
use Rattle.reader.proofs.Parts.{ready_opened, ready_stands, underway_opened, underway_more, underway_follows, underway_last}
use Rattle.reader.proofs.Following.{applies_same, applies_then, items_then, begins_stands, follows_told}
use Rattle.reader.proofs.Ending.{last_all}
use Rattle.reader.proofs.Whole.{or_refused}
use Rattle.reader.proofs.Refusing.{Decided, decides, stops_then}
use Rattle.query.proofs.Numbers.{head_below, status_few}
use Rattle.query.specs.Answering.{or_line, head_refusal, answer_of, answer_on, history_up_to, StatusAfter, refused_or, status_code, given, accepted}

-- what decides, by the answer that ended the reading
line-answer : (o : Answered) (b : ℕ) → refused_or o b ≡ or_line (or_refused o none) b
line-answer None b = refl
line-answer (Some a) b = elim a.outcome as (λ x. refused_or (Some (record { line = a.line; outcome = x })) b ≡ or_line (or_refused (Some (record { line = a.line; outcome = x })) none) b) [ Ok k ↦ refl | Err r ↦ refl ]

-- a line is refused or accepted
pub refused_line : {r : RefusedBy} (o : Answered) → accepted o ≡ Err r → (waited UntilRefusal o ≡ true) × ((b : ℕ) → refused_or o b ≡ 16 + number_of r)
refused_line None e = absurd (let z : ◌≡◌ {A = ℕ} 0 1 = cc in omega arith)
refused_line {r} (Some a) e = by a.outcome e
  where
    by : (x : Answer) → given x (tt {0}) ≡ Err r → (is_refused x ≡ true) × ((b : ℕ) → status_code (given x b) ≡ 16 + number_of r)
    by (Ok k) q = absurd (let z : ◌≡◌ {A = ℕ} 0 1 = cc in omega arith)
    by (Err w) q = let z : w ≡ r = cc in (refl, λ b. rw z)

pub accepted_line : (o : Answered) → accepted o ≡ Ok (tt {0}) → (waited UntilRefusal o ≡ false) × ((b : ℕ) → refused_or o b ≡ b)
accepted_line None e = (refl, λ b. refl)
accepted_line (Some a) e = by a.outcome e
  where
    by : (x : Answer) → given x (tt {0}) ≡ Ok tt → (is_refused x ≡ false) × ((b : ℕ) → status_code (given x b) ≡ b)
    by (Ok k) q = (refl, λ b. refl)
    by (Err w) q = absurd (let z : ◌≡◌ {A = ℕ} 0 1 = cc in omega arith)

refused_answer : (o : Answered) (a b : ℕ) → waited UntilRefusal o ≡ true → refused_or o a ≡ or_line (or_refused o none) b
refused_answer None a b e = absurd (false≢true e)
refused_answer (Some w) a b e = by w.outcome e
  where
    by : (x : Answer) → is_refused x ≡ true → status_code (given x a) ≡ or_line (or_refused (Some (record { line = w.line; outcome = x })) none) b
    by (Ok k) q = absurd (false≢true q)
    by (Err r) q = refl

not_nothing : (o : Answered) → waited UntilRefusal o ≡ true → o ≡ None → ⊥
not_nothing o e q = false≢true (ap (waited UntilRefusal) (sym q) ∙ e)

all_read : {l : List Passed} {left : List ℕ} {o : Answered} → Stops UntilRefusal l left o → waited UntilRefusal o ≡ false → left ≡ []
all_read (found before p e q w z) n = absurd (false≢true (sym n ∙ w))
all_read (ended q e z) n = e

-- what the lines are read with is known by the first of them
start_same : (start : Graph) {l : List Passed} {left : List ℕ} {o : Answered} → Stops UntilRefusal l left o → (rest : List Item) → (o ≡ None → rest ≡ []) → start_of start (items_of l ++ rest) ≡ start_of start (items_of l)
start_same start {l = l} (found before p e q w z) rest n = rw e (by before)
  where
    by : (b : List Passed) → start_of start (items_of (b ++ (p ∷ [])) ++ rest) ≡ start_of start (items_of (b ++ (p ∷ [])))
    by [] = refl
    by (x ∷ b) = refl
start_same start {l = l} (ended q e z) rest n = rw (n z, append-nil (items_of l))

-- what the head's test answered, of the record's bytes
pub head_of : (bytes : List ℕ) (s : ℕ) {a : Item} {o : Option ℕ} → a ≡ count_in (items bytes) → o ≡ head_refusal a s → head_refusal (count_in (items bytes)) s ≡ o
head_of bytes s e f = sym (rw e at f)

module _ (bytes : List ℕ) (s : ℕ) {t t₁ : Tables} {opened : Result Engine RefusedBy} (opens : Opens record_limit t t₁ opened) where
  -- Tables that are too short.
  pub asks_short : {r : RefusedBy} → opened ≡ Err r → StatusAfter bytes s t t₁ (16 + number_of r)
  unfolding answer_on
  asks_short {r} q = at (open_refusal record_limit t) refl
    where
      at : (x : Option ℕ) → open_refusal record_limit t ≡ x → StatusAfter bytes s t t₁ (16 + number_of r)
      at none e = absurd (let y = opens.answer in let z : ◌≡◌ {A = ℕ} 0 1 = cc in omega arith)
      at (some j) e =
          let z : number_of r ≡ j = let y = opens.answer in cc in
          let same : t₁ ≡ t = opens.tables ∙ rw e in
          record {
            answer = rw (e, z);
            too_short = λ i w. same;
            unread = λ i w h. absurd (let y : ◌≡◌ {A = ℕ} 0 1 = cc in omega arith);
            stands = λ w h. absurd (let y : ◌≡◌ {A = ℕ} 0 1 = cc in omega arith);
            kept = rw same (tables_same reader_states reader_states record_limit t);
          }

  module _ {engine : Engine} (ready : opened ≡ Ok engine) where
    -- A 17, or a state that the record does not have.
    pub asks_head : {k : ℕ} → head_refusal (count_in (items bytes)) s ≡ some k → StatusAfter bytes s t t₁ (16 + k)
    unfolding answer_on answer_of
    asks_head e =
        let w = ready_opened opens ready in
        record {
          answer = rw (w.0, e);
          too_short = λ k z. absurd (let p = w.0 in let y : ◌≡◌ {A = ℕ} 0 1 = cc in omega arith);
          unread = λ k z h. w.2;
          stands = λ z h. absurd (let y : ◌≡◌ {A = ℕ} 0 1 = cc in omega arith);
          kept = rw w.2 (opened_kept record_limit t w.0);
        }

    module _ (passes : head_refusal (count_in (items bytes)) s ≡ none) where
      -- Lines that end with an answer, and what is known of them.
      module _ {g : Graph} {t' : Tables} {l : List Passed} {left : List ℕ} {o : Answered} (applied : Applies engine.graph t₁ l g t') (ends : Stops UntilRefusal l left o) (rest : List Item) (all : o ≡ None → rest ≡ []) (told : items bytes ≡ items_of l ++ rest) where
        headed : Headed (items_of l)
        headed = headed_front (items_of l) rest (subst Headed told (items_headed bytes))

        decided : Decided (record_start record_limit bytes) [] (items bytes) o (items_of l)
        decided = rw told (decides (omega arith) (ready_stands opens ready) headed applied ends rest all)

        same_start : record_start record_limit bytes ≡ start_of record_graph (items_of l)
        same_start = ap (start_of record_graph) told ∙ start_same record_graph ends rest all

        pub stood : Standing (record_start record_limit bytes) (history_up_to bytes) g t'
        stood =
            rw decided.up_to
            (subst (λ (x : Graph). Standing x (after_items x [] (items_of l)) g t') (sym same_start) (begins_stands (omega arith) headed (ready_stands opens ready) applied))

        asks_lines : {r : ℕ} → r ≡ or_line (or_refused o none) (status (history_of record_limit bytes) s) → StatusAfter bytes s t t' r
        unfolding answer_on answer_of
        asks_lines e =
            let w = ready_opened opens ready in
            record {
              answer = rw (w.0, passes) (e ∙ ap (λ (x : Option Refusal). or_line x (status (history_of record_limit bytes) s)) (sym decided.refusal));
              too_short = λ k z. absurd (let p = w.0 in let y : ◌≡◌ {A = ℕ} 0 1 = cc in omega arith);
              unread = λ k z h. absurd (let p = passes in let y : ◌≡◌ {A = ℕ} 0 1 = cc in omega arith);
              stands = λ z p. subst (λ (x : Graph). Standing (record_start record_limit bytes) (history_up_to bytes) x t') (standing_graph stood) stood;
              kept = tables_then (opened_kept record_limit t w.0) (rw (w.1, w.2) at (applies_same applied).kept);
            }

      module _ {start : Engine} {s₀ s₁ : Splitter} {g₁ : Graph} {t₂ : Tables} {left : List ℕ} {o : Answered} (begins : s₀ ≡ started) (same : start ≡ engine) (first : Advances UntilRefusal s₀ bytes start.graph t₁ s₁ left g₁ t₂ o) where
        graphs : start.graph ≡ engine.graph
        graphs = ap (λ (x : Engine). x.graph) same

        -- A line is refused.
        pub asks_refused : {r : RefusedBy} → accepted o ≡ Err r → StatusAfter bytes s t t₂ (16 + number_of r)
        asks_refused e =
            let w = refused_line o e in
            let told : items bytes ≡ items_of first.follows.passed ++ run s₁ (left ++ []) = sym (run_items bytes) ∙ ap (run started) (sym (append-nil bytes)) ∙ ap (λ (x : Splitter). run x (bytes ++ [])) (sym begins) ∙ follows_told first.follows [] in
            asks_lines (rw graphs at first.follows.applied) first.stops (run s₁ (left ++ [])) (λ q. absurd (not_nothing o w.0 q)) told (sym (w.1 0) ∙ refused_answer o 0 (status (history_of record_limit bytes) s) w.0)

        -- None is, up to the last.
        module _ {newlines left' : List ℕ} {s₂ : Splitter} {g₂ : Graph} {t₃ : Tables} {o₂ : Answered} (accepts : accepted o ≡ Ok (tt {0})) (lacks : newlines ≡ last_newlines s₁) (last : Advances UntilRefusal s₁ newlines g₁ t₂ s₂ left' g₂ t₃ o₂) where
          none_yet : waited UntilRefusal o ≡ false
          none_yet = (accepted_line o accepts).0

          abbrev lines : List Passed
          lines = first.follows.passed ++ last.follows.passed

          applied : Applies engine.graph t₁ lines g₂ t₃
          applied = applies_then (rw graphs at first.follows.applied) last.follows.applied

          ends : Stops UntilRefusal lines left' o₂
          ends = stops_then first.stops none_yet last.stops

          told : items bytes ≡ items_of lines
          told =
              let u = underway_more (underway_opened opens ready begins graphs) bytes in
              let v = underway_follows (omega arith) u first.follows in
              underway_last v (all_read first.stops none_yet) last.follows (last_all lacks last) lacks ∙ sym (items_then first.follows.passed last.follows.passed)

          stands : Standing (record_start record_limit bytes) (history_up_to bytes) g₂ t₃
          stands = stood applied ends [] (λ q. refl) (told ∙ sym (append-nil (items_of lines)))

          below : s < (record_start record_limit bytes).n
          below = head_below record_limit (items bytes) s passes

          pub asks_long : s < length t₃.status
          asks_long = omega (arith, below, (long-enough (record_start record_limit bytes).n (record_start record_limit bytes).n (record_start record_limit bytes).limit t₃ stands.long).1.status)

          judged : get_or t₃.status s 0 ≡ status (history_of record_limit bytes) s
          judged =
              let h : Headed (items_of lines) = subst Headed told (items_headed bytes) in
              let z = begins_stands (omega arith) h (ready_stands opens ready) applied in
              let n : start_of record_graph (items_of lines) ≡ record_start record_limit bytes = ap (start_of record_graph) (sym told) in
              z.fits.status s (omega (arith, z.states, ap (λ (x : Graph). x.n) n, below)) ∙ ap (λ (x : List Item). status (after_items (start_of record_graph x) [] x) s) (sym told)

          pub asks_byte : get_or t₃.status s 0 ≤ status_dead
          asks_byte = rw judged (status_few (history_of record_limit bytes) s)

          pub asks_last : accepted o₂ ≡ Ok (tt {0}) → StatusAfter bytes s t t₃ (get_or t₃.status s 0)
          asks_last e =
              asks_lines applied ends [] (λ q. refl) (told ∙ sym (append-nil (items_of lines)))
              (sym ((accepted_line o₂ e).1 (get_or t₃.status s 0)) ∙ ap (refused_or o₂) judged ∙ line-answer o₂ (status (history_of record_limit bytes) s))

          pub asks_last_refused : {r : RefusedBy} → accepted o₂ ≡ Err r → StatusAfter bytes s t t₃ (16 + number_of r)
          asks_last_refused e =
              asks_lines applied ends [] (λ q. refl) (told ∙ sym (append-nil (items_of lines)))
              (sym ((refused_line o₂ e).1 (status (history_of record_limit bytes) s)) ∙ line-answer o₂ (status (history_of record_limit bytes) s))

-- On tables that are long enough the answer is that of the record alone.
pub answer_opened : (t : Tables) (bytes : List ℕ) (s : ℕ) → open_refusal record_limit t ≡ none → answer_on t bytes s ≡ answer_of bytes s
unfolding answer_on
answer_opened t bytes s e = rw e
