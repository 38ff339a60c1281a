-- What the writer answers: "It tests 1 to 4, then 13", and then "returns the place after the last byte, and leaves all other bytes".
-- Assumes nothing.
use Rattle.std.specs.Prelude.{◌≡◌, Bool, ◌||◌, List, [], ◌∷◌, ◌++◌, ℕ, ◌+◌, ◌-◌, ltb, length, take, drop, Result, Ok, Err}
use Rattle.std.proofs.Math.Option.{Option, some, none}
use Rattle.gid.specs.Refusals.{Rule, first}
use Rattle.gid.specs.Outcomes.{Outcome, refused, accepted, by_number}
use Rattle.tables.specs.declared.Graph.{Graph}
use Rattle.tables.specs.declared.refusal.Refusal.{Refusal}
use Rattle.tables.specs.Numbers.{number_of}
use Rattle.tables.specs.Tables.{Needed, enough}
use Rattle.tables.specs.Refused.{lent_rules}
use Rattle.writer.specs.Order.{record_of}

-- Document 01's number and value for each answer: the place after the last byte.
abbrev pub written_outcome : Result ℕ Refusal → Outcome ℕ
written_outcome (Ok place) = accepted place
written_outcome (Err r) = refused (number_of r)

-- "Test 3 covers the tables that the call in hand is lent": the marks and the step list.
abbrev pub writer_needs : Graph → (marks from to key : ℕ) → List Needed
writer_needs g marks from to key =
    record { have = marks; need = g.n } ∷ record { have = from; need = g.limit } ∷ record { have = to; need = g.limit } ∷ record { have = key; need = g.limit } ∷ []

-- "13: the writer's buffer is too short from its starting place, or that place is past its end."
abbrev pub short : List ℕ → ℕ → ℕ → Bool
short buf at size = ltb (length buf) at || ltb (length buf - at) size

module _ (g : Graph) (marks from to key : List ℕ) where
  abbrev pub the_record : List ℕ
  the_record = record_of g.n g.steps marks from to key

  abbrev pub all_long : Bool
  all_long = enough (writer_needs g (length marks) (length from) (length to) (length key))

  module _ (buf : List ℕ) (at : ℕ) where
    -- The numbers 1 to 4 and 13, by rising number.
    abbrev pub write_rules : List Rule
    write_rules = lent_rules g all_long ++ (record { applies = short buf at (length the_record); number = 13 } ∷ [])

    -- The answer: the number of the first test that applies, or the place after the record.
    unfoldable pub write_answer : Outcome ℕ
    write_answer = by_number (first write_rules) (at + length the_record)

    abbrev pub or_filled : Option ℕ → List ℕ
    or_filled none = take at buf ++ (the_record ++ drop (at + length the_record) buf)
    or_filled (some k) = buf

    -- The buffer after the call: what stood before the place, the record, and what stood behind it; as it was where the call is refused.
    unfoldable pub buffer_after : List ℕ
    buffer_after = or_filled (first write_rules)

-- The answer and the buffer after the call. The tables are lent for reading alone.
pub record Writes (g : Graph) (marks from to key buf : List ℕ) (at : ℕ) (buf' : List ℕ) (r : Result ℕ Refusal) : Type 0 where
  pub answer : written_outcome r ≡ write_answer g marks from to key buf at
  pub buffer : buf' ≡ buffer_after g marks from to key buf at
