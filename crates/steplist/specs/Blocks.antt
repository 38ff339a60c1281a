-- What the parts of the search say of a block of places.
-- Assumes nothing.
use Rattle.std.specs.Prelude.{◌≡◌, List, ℕ, ◌<◌, ◌≤◌, get_or}

-- No place from start up to end has the source u and the target v.
abbrev pub NoPair : (u v start end : ℕ) → (from to : List ℕ) → Type 0
NoPair u v start end from to = (p : ℕ) → start ≤ p → p < end → get_or from p 0 ≡ u → get_or to p 0 ≡ v → ⊥
