-- The driver's loop: what holds at its test, and what it leaves.
-- Assumes nothing.
use mathlib.Core.Path.{◌≡◌, refl, ap}
use mathlib.Core.Bool.{true, false}
use mathlib.Core.List.{List, []}
use Prim.Native.Nat.{ℕ, ◌≤◌, ◌<◌}
use native.Mathlib.Omega.{arith}
use lib.ListN.{length, drop, length-drop, drop_of_length-le}
use Rattle.tables.specs.Tables.{Tables}
use Rattle.record.specs.Splitting.{after_part}
use Rattle.record.proofs.Splitting.{part_next}
use Rattle.reader.specs.declared.Reader.{Reader}
use Rattle.std.specs.Prelude.{None}
use Rattle.reader.specs.declared.driver.Until.{Until}
use Rattle.reader.specs.Turning.{Answered, Came}
use Rattle.reader.specs.Advancing.{waited, Quiet, Follows, Advances}
use Rattle.reader.proofs.Following.{follows_none, follows_line, advances_found, advances_ended}

-- From the reader r at the index `at` of a part to the reader r' at the index `next`.
pub record Going (until : Until) (part : List ℕ) (at : ℕ) (r : Reader) (t : Tables) (r' : Reader) (t' : Tables) (next : ℕ) : Type 0 where
  pub onward : at ≤ next
  pub within : at ≤ length part → next ≤ length part
  pub follows : Follows r.splitter (drop at part) r.engine.graph t r'.splitter (drop next part) r'.engine.graph t'
  pub quiet : Quiet until follows.passed
  pub idle : drop at part ≡ [] → follows.passed ≡ []

-- What a call of the driver promises.
abbrev Gone : Until → List ℕ → ℕ → Reader → Tables → Reader → Tables → ℕ → Answered → Type 0
Gone until part at r t r' t' next o =
    (at ≤ length part → next ≤ length part) × (at < length part → at < next) × Advances until r.splitter (drop at part) r.engine.graph t r'.splitter (drop next part) r'.engine.graph t' o

pub going_none : (until : Until) (part : List ℕ) (at : ℕ) (r : Reader) (t : Tables) → Going until part at r t r t at
going_none until part at r t = record { onward = omega arith; within = λ h. h; follows = follows_none r.splitter (drop at part) r.engine.graph t; quiet = tt; idle = λ e. refl }

module _ {until : Until} {part : List ℕ} {at : ℕ} {r : Reader} {t : Tables} {r' : Reader} {t' : Tables} {next : ℕ} (g : Going until part at r t r' t' next) where
  module _ (h : next < length part) {r'' : Reader} {t'' : Tables} {j : ℕ} {o : Answered} (n : j ≡ (after_part r'.splitter part next).next) (m : r''.splitter ≡ (after_part r'.splitter part next).splitter) (c : Came (after_part r'.splitter part next).item r'.engine.graph t' r''.engine.graph t'' o) where
    further : (next < j) × (j ≤ length part)
    further = rw n (part_next r'.splitter part next h)

    -- a byte was to be read
    some : drop at part ≡ [] → ⊥
    some e = omega (arith, length-drop at part, ap length e, g.onward)

    pub going_line : waited until o ≡ false → Going until part at r t r'' t'' j
    going_line e =
        let f = follows_line until part next j g.follows g.quiet n m c e in
        record { onward = omega (arith, g.onward, further.0); within = λ z. further.1; follows = f.0; quiet = f.1; idle = λ z. absurd (some z) }

    pub going_found : waited until o ≡ true → Gone until part at r t r'' t'' j o
    going_found e = (λ z. further.1, λ q. omega (arith, g.onward, further.0), advances_found until part next j g.follows g.quiet n m c some e)

  pub going_ended : length part ≤ next → Gone until part at r t r' t' next None
  going_ended h = (g.within, λ q. omega arith, advances_ended until g.follows g.quiet g.idle (drop_of_length-le part h))
