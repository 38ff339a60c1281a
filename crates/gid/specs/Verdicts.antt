-- Verdicts: live and dead. Document 01, "Verdict rules"; document 000, section 2.1 and figure 3.
-- Assumes nothing.
use Rattle.std.specs.Prelude.{ℕ}
use Rattle.gid.specs.Histories.{History, IsStep, IsTerminal, IsClosed, Legal, Continues}

-- A path of zero or more steps leads from one state to another.
pub data Reaches (h : History) : ℕ → ℕ → Type 0 where
  here : {s : ℕ} → Reaches h s s
  along : {u v w : ℕ} → IsStep h u v → Reaches h v w → Reaches h u w

-- "Live: a path of zero or more steps leads to a state marked terminal."
abbrev pub Live : History → ℕ → Type 0
Live h s = (v : ℕ) × Reaches h s v × IsTerminal h v

-- "Dead: no legal continuation, of any length and not held to the step limit, makes it live."
abbrev pub Dead : History → ℕ → Type 0
Dead h s = (g : History) → Continues h g → Legal g → Live g s → ⊥

-- Document 000: "All reachable states from u (including u) are closed and not terminal." `dead_equal` of proofs/Deadness.antt: for legal histories this is Dead.
abbrev pub DeadByReach : History → ℕ → Type 0
DeadByReach h s = (v : ℕ) → Reaches h s v → IsClosed h v × (IsTerminal h v → ⊥)
