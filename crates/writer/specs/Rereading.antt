-- What reading a written record comes to: "For fitting tables, reading that record with the same limit gives the same marks, steps and statuses, and unseen from n on." The keys are the same too (document 02, #101), and so is n (#107). proofs/RoundTrip.antt proves it (`read_back_same`).
-- Assumes nothing.
use Rattle.std.specs.Prelude.{◌≡◌, ℕ, ◌<◌, ◌≤◌, get_or, take, Result}
use Rattle.std.proofs.Math.Option.{none}
use Rattle.gid.specs.Statuses.{status_unseen}
use Rattle.gid.specs.Outcomes.{accepted}
use Rattle.tables.specs.declared.Graph.{Graph}
use Rattle.tables.specs.declared.refusal.Refusal.{Refusal}
use Rattle.tables.specs.Tables.{Tables}
use Rattle.reader.specs.declared.RecordRead.{RecordRead}
use Rattle.reader.specs.Opening.{reader_states}
use Rattle.reader.specs.Reading.{read_outcome}

-- The tables t' that a reader filled, beside those that the record was written from.
pub record SameTables (g : Graph) (t t' : Tables) : Type 0 where
  pub marks : (s : ℕ) → s < g.n → get_or t'.marks s 0 ≡ get_or t.marks s 0
  pub from : take g.steps t'.from ≡ take g.steps t.from
  pub to : take g.steps t'.to ≡ take g.steps t.to
  pub key : take g.steps t'.key ≡ take g.steps t.key
  pub status : (s : ℕ) → s < g.n → get_or t'.status s 0 ≡ get_or t.status s 0
  pub unseen : (s : ℕ) → g.n ≤ s → s < reader_states → (get_or t'.status s 0 ≡ status_unseen) × (get_or t'.marks s 0 ≡ 0)

-- Every line is accepted, the state value has the same n and as many steps, and the tables are the same.
pub record ReadBack (g : Graph) (t t' : Tables) (r : Result RecordRead Refusal) : Type 0 where
  pub answer : read_outcome r ≡ accepted (record { graph = record { n = g.n; limit = g.limit; steps = g.steps }; refusal = none })
  pub tables : SameTables g t t'
