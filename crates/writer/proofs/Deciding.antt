-- Which answer the writer gives after which tests, and what it then left in the buffer.
-- Assumes nothing.
use mathlib.Core.Path.{◌≡◌, refl, sym, ◌∙◌, ap}
use mathlib.Core.Bool.{Bool, true, false, cond, ◌&&◌, false≢true}
use mathlib.Core.List.{List, [], ◌∷◌, ◌++◌}
use mathlib.Core.Option.{Option, some, none}
use Prim.Native.Nat.{ℕ, ◌+◌, ◌-◌, ◌≤◌, ◌<◌}
use lib.Dec.{leb, ltb}
use native.Mathlib.Omega.{arith}
use lib.ListN.{length, take, drop}
use lib.Seq.{length-take-le, take_at, drop_at}
use borrow.Author.Tests.{lt-ltb, le-ltb, leb-true, ltb-false}
use Rattle.gid.specs.Refusals.{first, max_states, max_steps}
use Rattle.gid.specs.Outcomes.{accepted, by_number}
use Rattle.std.specs.Prelude.{Result, Ok, Err}
use Rattle.tables.specs.declared.Graph.{Graph}
use Rattle.tables.specs.declared.refusal.Refusal.{Refusal}
use Rattle.tables.specs.declared.refusal.Refusal.TheVariants.{ShortBuffer}
use Rattle.tables.specs.Numbers.{number_of}
use Rattle.tables.specs.Refused.{lent_rules, lent_number, number}
use Rattle.tables.proofs.Refusing.{first_some, first_none, lent_passes, lent_refuses, lent_leaves, passed, none_applies, neither, number_positive}
use Rattle.record.specs.Text.{WroteAt}
use Rattle.writer.specs.Order.{record_of}
use Rattle.writer.proofs.Bytes.{cut_record}
use Rattle.writer.specs.Answering.{written_outcome, short, the_record, all_long, write_rules, write_answer, or_filled, buffer_after, Writes}

both : (a b : Bool) → (a && b) ≡ true → (a ≡ true) × (b ≡ true)
both true b e = (refl, e)
both false b e = absurd (false≢true e)

-- Long enough: each of the four tables.
pub all-long : (g : Graph) (marks from to key : List ℕ) → all_long g marks from to key ≡ true → (g.n ≤ length marks) × (g.limit ≤ length from) × (g.limit ≤ length to) × (g.limit ≤ length key)
all-long g marks from to key e =
    let a = both (leb g.n (length marks)) (leb g.limit (length from) && (leb g.limit (length to) && (leb g.limit (length key) && true))) e in
    let b = both (leb g.limit (length from)) (leb g.limit (length to) && (leb g.limit (length key) && true)) a.1 in
    let d = both (leb g.limit (length to)) (leb g.limit (length key) && true) b.1 in
    let f = both (leb g.limit (length key)) true d.1 in
    (leb-true g.n (length marks) a.0, leb-true g.limit (length from) b.0, leb-true g.limit (length to) d.0, leb-true g.limit (length key) f.0)

-- What the tests 1 to 4 leave: the tables have the states and the steps, and those are few.
pub record Whole (g : Graph) (marks from to key : List ℕ) : Type 0 where
  pub states : g.n ≤ length marks
  pub sources : g.steps ≤ length from
  pub targets : g.steps ≤ length to
  pub keys : g.steps ≤ length key
  pub few_states : g.n ≤ max_states
  pub few_steps : g.steps ≤ max_steps

pub whole : (g : Graph) (marks from to key : List ℕ) → lent_number g (all_long g marks from to key) ≡ 0 → Whole g marks from to key
whole g marks from to key e =
    let l = lent_leaves g (all_long g marks from to key) e in
    let a = all-long g marks from to key l.longs in
    record {
      states = a.0;
      sources = omega (arith, l.room);
      targets = omega (arith, l.room);
      keys = omega (arith, l.room);
      few_states = l.few_states;
      few_steps = omega (arith, l.room, l.low_limit);
    }

-- Then the record is that of their first entries.
pub cut : {g : Graph} {marks from to key : List ℕ} → Whole g marks from to key → record_of (length (take g.n marks)) (length (take g.steps from)) (take g.n marks) (take g.steps from) (take g.steps to) (take g.steps key) ≡ the_record g marks from to key
cut {g} {marks} {from} {to} {key} w = cut_record g.n g.steps marks from to key w.states w.sources

module _ {g : Graph} {marks from to key buf : List ℕ} {at : ℕ} where
  by-number : (o : Option ℕ) {f : List ℕ} {r : Result ℕ Refusal} → first (write_rules g marks from to key buf at) ≡ o → written_outcome r ≡ by_number o (at + length (the_record g marks from to key)) → f ≡ or_filled g marks from to key buf at o → Writes g marks from to key buf at f r
  unfolding write_answer buffer_after
  by-number o e a b = record { answer = rw e a; buffer = rw e b }

  -- The tests 1 to 4: one applies, or 13 is tested.
  pub lent_refused : (r : Refusal) → lent_number g (all_long g marks from to key) ≡ number_of r → Writes g marks from to key buf at buf (Err r)
  lent_refused r e =
      by-number (some (number_of r))
      (first_some (lent_rules g (all_long g marks from to key)) (record { applies = short buf at (length (the_record g marks from to key)); number = 13 } ∷ []) (number_of r) (lent_refuses g (all_long g marks from to key) (number_of r) e (number_positive r)))
      refl refl

  module _ (e : lent_number g (all_long g marks from to key) ≡ 0) where
    tested : (b : Bool) {f : List ℕ} {r : Result ℕ Refusal} → short buf at (length (the_record g marks from to key)) ≡ b → written_outcome r ≡ by_number (cond b (some 13) none) (at + length (the_record g marks from to key)) → f ≡ or_filled g marks from to key buf at (cond b (some 13) none) → Writes g marks from to key buf at f r
    tested b q =
        by-number (cond b (some 13) none)
        (first_none (lent_rules g (all_long g marks from to key)) (record { applies = short buf at (length (the_record g marks from to key)); number = 13 } ∷ []) (lent_passes g (all_long g marks from to key) e) ∙
        ap (λ (t : Bool). cond t (some 13) none) q)

    pub past_end : length buf < at → Writes g marks from to key buf at buf (Err ShortBuffer)
    past_end h = tested true (rw (lt-ltb (length buf) at h)) refl refl

    pub too_short : at ≤ length buf → length buf - at < length (the_record g marks from to key) → Writes g marks from to key buf at buf (Err ShortBuffer)
    too_short h k = tested true (rw (le-ltb (length buf) at h, lt-ltb (length buf - at) (length (the_record g marks from to key)) k)) refl refl

    pub fits : {f : List ℕ} {r : ℕ} → at ≤ length buf → length (the_record g marks from to key) ≤ length buf - at → WroteAt at (the_record g marks from to key) buf f r → Writes g marks from to key buf at f (Ok r)
    fits h k w = tested false (rw (le-ltb (length buf) at h, le-ltb (length buf - at) (length (the_record g marks from to key)) k)) (ap accepted w.after) w.bytes

  -- Where the call is accepted, the tests pass, and the bytes from the starting place up to the answer are the record.
  pub ended : {f : List ℕ} {r : Result ℕ Refusal} {end : ℕ} → Writes g marks from to key buf at f r → written_outcome r ≡ accepted end → (lent_number g (all_long g marks from to key) ≡ 0) × (take (end - at) (drop at f) ≡ the_record g marks from to key)
  unfolding lent_number write_answer buffer_after
  ended {f} {r} {end} w e = by (first (write_rules g marks from to key buf at)) refl (sym e ∙ w.answer) w.buffer
    where
      by : (o : Option ℕ) → first (write_rules g marks from to key buf at) ≡ o → accepted end ≡ by_number (first (write_rules g marks from to key buf at)) (at + length (the_record g marks from to key)) → f ≡ or_filled g marks from to key buf at (first (write_rules g marks from to key buf at)) → (number (first (lent_rules g (all_long g marks from to key))) ≡ 0) × (take (end - at) (drop at f) ≡ the_record g marks from to key)
      by none q a b =
          let p = passed (write_rules g marks from to key buf at) q in
          let s = neither (ltb (length buf) at) (ltb (length buf - at) (length (the_record g marks from to key))) p.1.1.1.1.0 in
          let h = ltb-false (length buf) at s.0 in
          let z : end ≡ at + length (the_record g marks from to key) = cc in
          let d : length (the_record g marks from to key) ≡ end - at = omega arith in (
            ap number (none_applies (lent_rules g (all_long g marks from to key)) (p.0, (p.1.0, (p.1.1.0, (p.1.1.1.0, tt))))),
            rw (b, q, drop_at (take at buf) (the_record g marks from to key ++ drop (at + length (the_record g marks from to key)) buf) at (length-take-le at buf h)) (take_at (the_record g marks from to key) (drop (at + length (the_record g marks from to key)) buf) (end - at) d),
          )
      by (some k) q a b = absurd (let z : ◌≡◌ {A = ℕ} 0 1 = cc in omega arith)
