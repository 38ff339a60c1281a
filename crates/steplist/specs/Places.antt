-- A place of the step list, as the code answers it.
-- Assumes nothing.
use Rattle.std.proofs.Math.Option as found
use Rattle.std.specs.Prelude.{ℕ, Option, Some, None}

-- "the first place of an equal step or that there is none" (document 02, #103). tables/specs/Listing.antt has the definition that it is equal to: `first_place`.
abbrev pub place_of : Option ℕ → found.Option ℕ
place_of (Some p) = found.some p
place_of None = found.none
