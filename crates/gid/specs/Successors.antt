-- The successor rule: why an unknown state is not dead yet. Document 01, "Verdict rules"; document 000, section 3.
-- Assumes nothing.
use Rattle.std.specs.Prelude.{◌≡◌, ℕ, suc, ◌-◌, ◌<◌, ◌≤◌}
use Rattle.gid.specs.Statuses.{status_open, status_unknown}

-- The entry of a state that has no successor: "For every other state the entry is 65,535."
abbrev pub no_successor : ℕ
no_successor = 65535

-- From a state, following `Next` through unknown states reaches an open state after a number of steps. Where a state has several next ones, some choice of them does.
pub data Chain (Unknown Open : ℕ → Type 0) (Next : ℕ → ℕ → Type 0) : ℕ → ℕ → Type 0 where
  ends : {s : ℕ} → Open s → Chain Unknown Open Next s 0
  follows : {s t k : ℕ} → Unknown s → Next s t → Chain Unknown Open Next t k → Chain Unknown Open Next s (suc k)

-- A state below n that has a status.
abbrev pub Having : ℕ → (ℕ → ℕ) → ℕ → ℕ → Type 0
Having n status k s = (s < n) × (status s ≡ k)

-- The rule, for n states with these statuses, the listed steps as a relation of state, place and state, and the successor entries.
pub record SuccessorRule (n : ℕ) (Arc : ℕ → ℕ → ℕ → Type 0) (status successor : ℕ → ℕ) : Type 0 where
  -- "For an unknown state the successor entry is the place of a listed step that leaves it."
  pub listed : (s : ℕ) → Having n status status_unknown s → (t : ℕ) × Arc s (successor s) t
  -- "Following successors from there reaches an open state within n−1 steps."
  pub escapes : (s : ℕ) → Having n status status_unknown s → (k : ℕ) × (k ≤ n - 1) × Chain (Having n status status_unknown) (Having n status status_open) (λ r t. Arc r (successor r) t) s k
  -- "For every other state the entry is 65,535."
  pub others : (s : ℕ) → s < n → (status s ≡ status_unknown → ⊥) → successor s ≡ no_successor
