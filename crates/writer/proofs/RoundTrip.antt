-- The round trip: "For fitting tables, reading that record with the same limit gives the same marks, steps and statuses, and unseen from n on." With the same keys (document 02, #101) and the same n (#107).
-- Assumes nothing.
use mathlib.Core.Path.{◌≡◌, refl, sym, ◌∙◌, ap}
use mathlib.Core.Logic.{inl, inr, ⊎_elim}
use mathlib.Core.List.Memᴰ
use mathlib.Core.List.{List, [], ◌∷◌, map, Memᴰ}
use mathlib.Core.Option.{none}
use Prim.Native.Nat.{ℕ, ◌-◌, ◌≤◌, ◌<◌}
use native.Mathlib.Omega.{arith}
use lib.ListN.{length, get_or, take, drop}
use Rattle.gid.specs.declared.Edge.{Edge}
use Rattle.gid.specs.declared.Update.{Update}
use Rattle.gid.specs.declared.Update.TheVariants.{Step, Terminal, Close}
use Rattle.gid.specs.Histories.{History, Has, following, listed}
use Rattle.gid.specs.Statuses.{status}
use Rattle.gid.specs.Outcomes.{accepted}
use Rattle.gid.proofs.Paths.{Inside}
use Rattle.std.specs.Prelude.{Result}
use Rattle.tables.specs.declared.Graph.{Graph}
use Rattle.tables.specs.declared.refusal.Refusal.{Refusal}
use Rattle.tables.specs.Tables.{Tables}
use Rattle.tables.specs.Fitting.{sources, targets, keys, marks_of, Consistent, Fits}
use Rattle.tables.proofs.Keeping.{filled_at}
use Rattle.tables.proofs.Refusing.{Lent, lent_leaves}
use Rattle.record.specs.declared.splitter.Item.{Item}
use Rattle.record.specs.declared.splitter.Item.TheVariants.{States}
use Rattle.record.specs.Items.{items}
use Rattle.reader.specs.declared.RecordRead.{RecordRead}
use Rattle.reader.specs.Opening.{reader_states, reader_graph, open_refusal}
use Rattle.reader.specs.Replaying.{start_of, record_start, history_of, first_refusal}
use Rattle.reader.specs.Reading.{Reads}
use Rattle.writer.specs.Answering.{written_outcome, the_record, all_long, Writes}
use Rattle.writer.specs.Rereading.{ReadBack}
use Rattle.writer.proofs.Deciding.{ended}
use Rattle.writer.proofs.Alike.{same_marks, same_status}
use Rattle.writer.proofs.Splits.{numbered, Writable, items_record}
use Rattle.writer.proofs.Accepting.{InBounds, KeyFits, lines_accepted}
use Rattle.writer.proofs.Members.{written_of, follows, followed, written_legal, written_had, had_written, same_list}

-- values that a record can hold
within : (n : ℕ) (x : Update) → n ≤ reader_states → InBounds n x → Writable x
within n (Step e) few (r, k) = ((omega (arith, r e.from (inl refl)), omega (arith, r e.to (inr refl)), omega arith), omega arith)
within n (Terminal u) few (r, k) = (omega (arith, r u refl), tt)
within n (Close u) few (r, k) = (omega (arith, r u refl), tt)

module _ {h : History} {g : Graph} {t : Tables} (c : Consistent h g t) (l : Lent g (all_long g t.marks t.from t.to t.key)) where
  abbrev bytes : List ℕ
  bytes = the_record g t.marks t.from t.to t.key

  -- The written updates are those of h.
  to : Inside (following [] (written_of g t)) h
  to x m = ⊎_elim (λ q. absurd (Memᴰ.not-nil q)) (written_had c) (followed [] (written_of g t) m)

  of : Inside h (following [] (written_of g t))
  of x m = follows [] (written_of g t) (had_written c x m)

  range : (x : Update) → Memᴰ x (written_of g t) → InBounds g.n x
  range x m = (λ s q. c.in_range s (x, written_had c m, q), key x (written_had c m))
    where
      key : (y : Update) → Has h y → KeyFits y
      key (Step e) q = c.keys_in_range e q
      key (Terminal u) q = tt
      key (Close u) q = tt

  count : length (listed (following [] (written_of g t))) ≡ g.steps
  count = ap length (same_list c) ∙ sym c.steps

  -- Every line is accepted: what is read is the count and the written updates.
  written : items bytes ≡ States g.n ∷ numbered 4 (written_of g t)
  written = items_record g.n g.steps t.marks t.from t.to t.key l.some_states l.few_states (omega (arith, l.room, l.low_limit)) (λ x m. within g.n x l.few_states (range x m))

  read : (first_refusal (record_start g.limit bytes) [] (items bytes) ≡ none) × (history_of g.limit bytes ≡ following [] (written_of g t))
  read =
      rw written
      (lines_accepted g.n g.limit l.some_states l.few_states l.some_limit l.low_limit 4 [] (written_of g t) (written_legal g.n g.steps t.marks t.from t.to t.key) range (omega (arith, count, l.room)))

  states : (record_start g.limit bytes).n ≡ g.n
  states = ap (λ (x : List Item). (start_of (reader_graph g.limit) x).n) written

  limits : (record_start g.limit bytes).limit ≡ g.limit
  limits = ap (λ (x : List Item). (start_of (reader_graph g.limit) x).limit) written

  read_same : {t₀ t' : Tables} {r : Result RecordRead Refusal} → open_refusal g.limit t₀ ≡ none → Reads g.limit bytes t₀ t' r → ReadBack g t t' r
  read_same {t₀} {t'} {r} o q =
      let s = (q.stands o).fits in
      let e = read.1 in
      let k : length (listed (history_of g.limit bytes)) ≡ g.steps = ap (λ (f : History). length (listed f)) e ∙ count in
      let marked : (u : ℕ) → u < g.n → get_or t'.marks u 0 ≡ marks_of h u = λ u b. s.marks u (omega (arith, states)) ∙ ap (λ (f : History). marks_of f u) e ∙ same_marks to of u in
      let judged : (u : ℕ) → u < g.n → get_or t'.status u 0 ≡ status h u = λ u b. s.status u (omega (arith, states)) ∙ ap (λ (f : History). status f u) e ∙ same_status to of u in
      let past = q.beyond o in
      record {
        answer = q.answer ∙ rw (o, read.0, k, states, limits);
        tables =
            record {
              marks = λ u p. marked u p ∙ sym (c.marks u p);
              from = ap (λ (i : ℕ). take i t'.from) (sym k) ∙ s.from ∙ ap sources e ∙ ap (map (λ (x : Edge). x.from)) (same_list c) ∙ sym c.from;
              to = ap (λ (i : ℕ). take i t'.to) (sym k) ∙ s.to ∙ ap targets e ∙ ap (map (λ (x : Edge). x.to)) (same_list c) ∙ sym c.to;
              key = ap (λ (i : ℕ). take i t'.key) (sym k) ∙ s.key ∙ ap keys e ∙ ap (map (λ (x : Edge). x.key)) (same_list c) ∙ sym c.key;
              status = λ u p. judged u p ∙ sym (c.status u p);
              unseen = λ u p b. (past.status.past u (omega (arith, states)) ∙ filled_at reader_states 0 t₀.status u b, past.marks.past u (omega (arith, states)) ∙ filled_at reader_states 0 t₀.marks u b);
            };
      }

-- What `write` wrote of tables that fit, from the starting place up to its answer, read by `reader::read` with the same limit into any tables that are long enough.
pub read_back_same : (g : Graph) (t : Tables) → Fits g t → {buf buf' : List ℕ} {at end : ℕ} {w : Result ℕ Refusal} → Writes g t.marks t.from t.to t.key buf at buf' w → written_outcome w ≡ accepted end → {t₀ t' : Tables} {r : Result RecordRead Refusal} → open_refusal g.limit t₀ ≡ none → Reads g.limit (take (end - at) (drop at buf')) t₀ t' r → ReadBack g t t' r
read_back_same g t f w e o q =
    let d = ended w e in
    read_same f.2 (lent_leaves g (all_long g t.marks t.from t.to t.key) d.0) o (rw d.1 at q)
