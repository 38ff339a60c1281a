-- Opened tables are fresh, of the lengths that they came with, and untouched past the needed ones.
-- Assumes nothing.
use mathlib.Core.Path.{◌≡◌, refl, sym, ◌∙◌, ap}
use mathlib.Core.Bool.{Bool, true}
use mathlib.Core.List.{List, ◌++◌}
use mathlib.Core.Option.{some, none}
use Prim.Native.Nat.{ℕ, ◌≤◌}
use lib.ListN.{length, take, drop, replicate}
use lib.Seq.{length-take-le}
use Rattle.tables.specs.declared.lengths.Lengths.{Lengths}
use Rattle.tables.specs.Tables.{Tables, tables_of, nodes_of, visited_length, lengths, enough, needs, long_enough, Long}
use Rattle.tables.specs.Keeping.{KeptTables, filled}
use Rattle.tables.specs.Refused.{number, lent_number}
use Rattle.tables.specs.Fitting.{Fresh}
use Rattle.tables.proofs.Keeping.{kept_none, filled_at, filled_kept}
use Rattle.tables.proofs.Refusing.{number_positive, lent_leaves, lent_passes, lent_refuses}
use Rattle.tables.proofs.Sizes.{long-enough}
use Rattle.std.specs.Prelude.{Ok, Err}
use Rattle.tables.specs.declared.refusal.Refusal.{Refusal}
use Rattle.tables.specs.Numbers.{number_of}
use Rattle.reader.specs.Opening.{reader_states, reader_graph, open_refusal, freshened, Opens}

-- the number that the code tests
abbrev pub open_number : ℕ → Tables → ℕ
open_number limit t = lent_number (reader_graph limit) (long_enough (reader_graph limit) t)

module _ (limit : ℕ) (t : Tables) where
  -- what the test answered, of the tables as they came
  pub open_tested : {l : Lengths} {n : ℕ} {b : Bool} {k : ℕ} → l ≡ lengths t → n ≡ nodes_of (reader_graph limit) → b ≡ enough (needs reader_states n limit l) → k ≡ lent_number (reader_graph limit) b → open_number limit t ≡ k
  open_tested e f q z = sym (rw (q, e, f) at z)

  pub opens_refused : (k : Refusal) → open_number limit t ≡ number_of k → Opens limit t t (Err k)
  opens_refused k e =
      let r : open_refusal limit t ≡ some (number_of k) = lent_refuses (reader_graph limit) (long_enough (reader_graph limit) t) (number_of k) e (number_positive k) in
      record { answer = rw r; tables = rw r }

  pub passes : open_number limit t ≡ 0 → open_refusal limit t ≡ none
  passes e = lent_passes (reader_graph limit) (long_enough (reader_graph limit) t) e

  pub opens_ready : {t' : Tables} → open_number limit t ≡ 0 → t' ≡ freshened limit t → Opens limit t t' (Ok (record { graph = reader_graph limit }))
  opens_ready e f = record { answer = rw (passes e); tables = rw (passes e) f }

  -- what the tests leave
  pub opened_number : open_refusal limit t ≡ none → open_number limit t ≡ 0
  unfolding lent_number
  opened_number e = ap number e

  module _ (e : open_refusal limit t ≡ none) where
    pub opened_enough : long_enough (reader_graph limit) t ≡ true
    opened_enough = (lent_leaves (reader_graph limit) (long_enough (reader_graph limit) t) (opened_number e)).longs

    pub opened_long : Long reader_states reader_states limit t
    opened_long = (long-enough reader_states reader_states limit t opened_enough).1

    pub opened_fresh : Fresh (reader_graph limit) (freshened limit t)
    opened_fresh =
        record {
          no_steps = refl;
          status = filled_at reader_states 0 t.status;
          marks = filled_at reader_states 0 t.marks;
          successor = filled_at reader_states 65535 t.successor;
          in_head = filled_at reader_states 0 t.in_head;
          out_head = filled_at reader_states 0 t.out_head;
          queue = filled_at reader_states 0 t.queue;
          visited = filled_at (visited_length reader_states) 0 t.visited;
          in_next = filled_at limit 0 t.in_next;
          out_next = filled_at limit 0 t.out_next;
        }

    pub opened_kept : KeptTables reader_states reader_states limit t (freshened limit t)
    opened_kept =
        let l = opened_long in
        record {
          status = filled_kept reader_states 0 t.status l.status;
          marks = filled_kept reader_states 0 t.marks l.marks;
          from = kept_none limit t.from;
          to = kept_none limit t.to;
          key = kept_none limit t.key;
          successor = filled_kept reader_states 65535 t.successor l.successor;
          news = kept_none reader_states t.news;
          in_head = filled_kept reader_states 0 t.in_head l.in_head;
          out_head = filled_kept reader_states 0 t.out_head l.out_head;
          queue = filled_kept reader_states 0 t.queue l.queue;
          visited = filled_kept (visited_length reader_states) 0 t.visited l.visited;
          in_next = filled_kept limit 0 t.in_next l.in_next;
          out_next = filled_kept limit 0 t.out_next l.out_next;
        }

module _ (limit : ℕ) (t : Tables) where
  -- the tables' lengths, by what the test answered
  pub open_long : {l : Lengths} {n : ℕ} {b : Bool} → l ≡ lengths t → n ≡ nodes_of (reader_graph limit) → b ≡ enough (needs reader_states n limit l) → 0 ≡ lent_number (reader_graph limit) b → Long reader_states reader_states limit t
  open_long e f q z = opened_long limit t (passes limit t (open_tested limit t e f q z))

-- so many entries hold the marks of the states
visited_entries : visited_length reader_states ≡ 128
unfolding visited_length
visited_entries = refl

pub visited_long : (l : List ℕ) → visited_length reader_states ≤ length l → 128 ≤ length l
visited_long l h = rw visited_entries at h

-- The front of a table has as many entries as are asked for,
pub front : (n : ℕ) (l : List ℕ) → n ≤ length l → n ≡ length (take n l)
front n l h = sym (length-take-le n l h)

-- and filled with one value it makes the table a filled one.
pub front_filled : (n v : ℕ) (l l' : List ℕ) → n ≤ length l → (((y : ℕ) → y ≡ v → y ≡ v) → l' ≡ replicate (length (take n l)) v) → l' ++ drop n l ≡ filled n v l
unfolding filled
front_filled n v l l' h a = ap (λ (x : List ℕ). x ++ drop n l) (a (λ y e. e) ∙ ap (λ (m : ℕ). replicate m v) (length-take-le n l h))

pub visited_filled : (l l' : List ℕ) → visited_length reader_states ≤ length l → (((y : ℕ) → y ≡ 0 → y ≡ 0) → l' ≡ replicate (length (take 128 l)) 0) → l' ++ drop 128 l ≡ filled (visited_length reader_states) 0 l
visited_filled l l' h a = rw visited_entries (front_filled 128 0 l l' (visited_long l h) a)

-- the fresh tables, from what each call left
pub freshened_by :
    (limit : ℕ) (t : Tables) {st ma su ih oh qu vi in' on : List ℕ} →
    st ≡ filled reader_states 0 t.status → ma ≡ filled reader_states 0 t.marks → su ≡ filled reader_states 65535 t.successor →
    ih ≡ filled reader_states 0 t.in_head → oh ≡ filled reader_states 0 t.out_head → qu ≡ filled reader_states 0 t.queue → vi ≡ filled (visited_length reader_states) 0 t.visited →
    in' ≡ filled limit 0 t.in_next → on ≡ filled limit 0 t.out_next →
    tables_of st ma t.from t.to t.key su t.news ih oh qu vi in' on ≡ freshened limit t
freshened_by limit t a b c d e f g h k =
    λ i.
    record {
      status = a i;
      marks = b i;
      from = t.from;
      to = t.to;
      key = t.key;
      successor = c i;
      news = t.news;
      in_head = d i;
      out_head = e i;
      queue = f i;
      visited = g i;
      in_next = h i;
      out_next = k i;
    }
