-- The rounds of the status call: the record's bytes are read, then the newlines that it lacks.
-- Assumes nothing.
use mathlib.Core.Path.{◌≡◌}
use mathlib.Core.List.{List}
use mathlib.Core.Option.{none}
use Prim.Native.Nat.{ℕ, ◌+◌, ◌<◌, ◌≤◌}
use native.Mathlib.Omega.{arith}
use lib.ListN.{length, get_or}
use Rattle.std.specs.Prelude.{Result, Ok, Err}
use Rattle.gid.specs.Statuses.{status_dead}
use Rattle.tables.specs.declared.Graph.{Graph}
use Rattle.tables.specs.declared.refusal.Refusal.{Refusal as RefusedBy}
use Rattle.tables.specs.Tables.{Tables}
use Rattle.tables.specs.Numbers.{number_of}
use Rattle.engine.specs.declared.Engine.{Engine}
use Rattle.record.specs.declared.splitter.Splitter.{Splitter}
use Rattle.record.specs.Items.{items, count_in}
use Rattle.record.specs.Splitting.{started, last_newlines}
use Rattle.reader.specs.Turning.{Answered}
use Rattle.reader.specs.declared.driver.Until.TheVariants.{Refusal as UntilRefusal}
use Rattle.reader.specs.Opening.{Opens}
use Rattle.reader.specs.Reading.{record_limit}
use Rattle.reader.specs.Advancing.{Advances}
use Rattle.query.specs.Answering.{head_refusal, StatusAfter, accepted}
use Rattle.query.proofs.Asking.{asks_refused, asks_last_refused, asks_long, asks_last, asks_byte}

-- After i rounds without a refusal, with the part that is read next: the splitter, the state value and the tables, and what they were before the first.
pub data Asked (bytes : List ℕ) (s₀ : Splitter) (g₀ : Graph) (t₀ : Tables) (i : ℕ) (part : List ℕ) (sp : Splitter) (g : Graph) (t : Tables) : Type 0 where
  begun : i ≡ 0 → part ≡ bytes → sp ≡ s₀ → g ≡ g₀ → t ≡ t₀ → Asked bytes s₀ g₀ t₀ i part sp g t
  once : {left : List ℕ} {o : Answered} → Advances UntilRefusal s₀ bytes g₀ t₀ sp left g t o → accepted o ≡ Ok (tt {0}) → i ≡ 1 → part ≡ last_newlines sp → Asked bytes s₀ g₀ t₀ i part sp g t
  twice : {s₁ : Splitter} {g₁ : Graph} {t₁ : Tables} {newlines left left' : List ℕ} {o o₂ : Answered} → Advances UntilRefusal s₀ bytes g₀ t₀ s₁ left g₁ t₁ o → accepted o ≡ Ok (tt {0}) → newlines ≡ last_newlines s₁ → Advances UntilRefusal s₁ newlines g₁ t₁ sp left' g t o₂ → accepted o₂ ≡ Ok (tt {0}) → i ≡ 2 → Asked bytes s₀ g₀ t₀ i part sp g t

module _ {bytes : List ℕ} {s₀ : Splitter} {g₀ : Graph} {t₀ : Tables} {i : ℕ} {part : List ℕ} {sp : Splitter} {g : Graph} {t : Tables} where
  -- A round is followed by the next one, where no line of it is refused.
  pub asked_more : {sp' : Splitter} {left part' : List ℕ} {g' : Graph} {t' : Tables} {o : Answered} → Asked bytes s₀ g₀ t₀ i part sp g t → i < 2 → Advances UntilRefusal sp part g t sp' left g' t' o → accepted o ≡ Ok (tt {0}) → part' ≡ last_newlines sp' → Asked bytes s₀ g₀ t₀ (i + 1) part' sp' g' t'
  asked_more (begun z p b e k) h a q n = once (rw (p, b, e, k) at a) q (omega arith) n
  asked_more (once first accepts z p) h a q n = twice first accepts p a q (omega arith)
  asked_more (twice first accepts lacks last w z) h a q n = absurd (omega arith)

  module _ (s : ℕ) {entry : Tables} {opened : Result Engine RefusedBy} (opens : Opens record_limit entry t₀ opened) {engine : Engine} (ready : opened ≡ Ok engine) (passes : head_refusal (count_in (items bytes)) s ≡ none) (begins : s₀ ≡ started) {start : Engine} (same : start ≡ engine) (from : g₀ ≡ start.graph) (a : Asked bytes s₀ g₀ t₀ i part sp g t) where
    -- A line that is refused decides.
    pub asked_refused : {sp' : Splitter} {left : List ℕ} {g' : Graph} {t' : Tables} {o : Answered} {r : RefusedBy} → i < 2 → Advances UntilRefusal sp part g t sp' left g' t' o → accepted o ≡ Err r → StatusAfter bytes s entry t' (16 + number_of r)
    asked_refused {sp' = sp'} {left = left} {g' = g'} {t' = t'} {o = o} {r = r} h b q = by a
      where
        by : Asked bytes s₀ g₀ t₀ i part sp g t → StatusAfter bytes s entry t' (16 + number_of r)
        by (begun z p w e k) = asks_refused bytes s opens ready passes begins same (rw (p, w, e, k, from) at b) q
        by (once first accepts z p) = asks_last_refused bytes s opens ready passes begins same (rw from at first) accepts p b q
        by (twice first accepts lacks last w z) = absurd (omega arith)

    -- After the second round the state has a status,
    pub asked_long : 2 ≤ i → s < length t.status
    asked_long h = by a
      where
        by : Asked bytes s₀ g₀ t₀ i part sp g t → s < length t.status
        by (begun z p w e k) = absurd (omega arith)
        by (once first accepts z p) = absurd (omega arith)
        by (twice first accepts lacks last w z) = asks_long bytes s opens ready passes begins same (rw from at first) accepts lacks last

    pub asked_byte : 2 ≤ i → get_or t.status s 0 ≤ status_dead
    asked_byte h = by a
      where
        by : Asked bytes s₀ g₀ t₀ i part sp g t → get_or t.status s 0 ≤ status_dead
        by (begun z p w e k) = absurd (omega arith)
        by (once first accepts z p) = absurd (omega arith)
        by (twice first accepts lacks last w z) = asks_byte bytes s opens ready passes begins same (rw from at first) accepts lacks last

    -- which is that of the record's history.
    pub asked_all : 2 ≤ i → StatusAfter bytes s entry t (get_or t.status s 0)
    asked_all h = by a
      where
        by : Asked bytes s₀ g₀ t₀ i part sp g t → StatusAfter bytes s entry t (get_or t.status s 0)
        by (begun z p w e k) = absurd (omega arith)
        by (once first accepts z p) = absurd (omega arith)
        by (twice first accepts lacks last w z) = asks_last bytes s opens ready passes begins same (rw from at first) accepts lacks last w
