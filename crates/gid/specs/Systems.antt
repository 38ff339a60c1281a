-- Systems of arcs: what a verdict is computed over, apart from histories. An arc leaves a node and has one or more targets; a node may be a goal, and may be final: nothing more can leave it. Nodes and arcs are numbers.
-- The verdicts of specs/Verdicts.antt are those of a history's own system, with one target for each step (proofs/Deadness.antt: `live_system`, `dead_system`). No promise cites this page.
-- Assumes nothing.
use Rattle.std.specs.Prelude.{◌≡◌, ◌↔◌, ℕ, ◌<◌, length, get_or}
use Rattle.gid.specs.Updates.{edge}
use Rattle.gid.specs.Histories.{History, IsTerminal, IsClosed, listed}

-- Arcs as a relation of node, arc and node: the arc leaves the first and has the second among its targets.
abbrev pub Arcs : Type 1
Arcs = ℕ → ℕ → ℕ → Type 0

pub record System : Type 1 where
  pub Arc : Arcs
  pub Goal : ℕ → Type 0
  pub Final : ℕ → Type 0

-- Live: a goal, or a node with an arc all of whose targets are live; the least such set.
pub data LiveIn (S : System) : ℕ → Type 0 where
  goal : {s : ℕ} → S.Goal s → LiveIn S s
  by_arc : {s p t : ℕ} → S.Arc s p t → ((v : ℕ) → S.Arc s p v → LiveIn S v) → LiveIn S s

-- A path by any targets of arcs.
pub data ReachesIn (S : System) : ℕ → ℕ → Type 0 where
  here : {s : ℕ} → ReachesIn S s s
  along : {u p v w : ℕ} → S.Arc u p v → ReachesIn S v w → ReachesIn S u w

-- Dead by reach: every node that is reached is final and no goal.
abbrev pub DeadIn : System → ℕ → Type 0
DeadIn S s = (v : ℕ) → ReachesIn S s v → S.Final v × (S.Goal v → ⊥)

-- Each arc of S out of s is one of S', with the same targets.
abbrev pub Within : System → System → ℕ → Type 0
Within S S' s = (p t : ℕ) → S.Arc s p t → (q : ℕ) × ((v : ℕ) → S.Arc s p v ↔ S'.Arc s q v)

-- S' has all that S has, and what is new in it is at nodes that were not final.
pub record Grows (S S' : System) : Type 0 where
  pub arcs : (s : ℕ) → Within S S' s
  pub goals : (s : ℕ) → S.Goal s → S'.Goal s
  pub finals : (s : ℕ) → S.Final s → S'.Final s
  pub late_arcs : (s : ℕ) → S.Final s → Within S' S s
  pub late_goals : (s : ℕ) → S.Final s → S'.Goal s → S.Goal s

-- P has nothing but what the full system F has, and all that F has at nodes that are not live; and what is live in F is live in P.
pub record Prunes (F P : System) : Type 0 where
  pub arcs : (s : ℕ) → Within P F s
  pub goals : (s : ℕ) → P.Goal s → F.Goal s
  pub finals : (s : ℕ) → P.Final s → F.Final s
  pub kept_arcs : (s : ℕ) → (LiveIn F s → ⊥) → Within F P s
  pub kept_finals : (s : ℕ) → (LiveIn F s → ⊥) → F.Final s → P.Final s
  pub live : (s : ℕ) → LiveIn F s → LiveIn P s

-- The system of a history: its listed steps, by their places and whatever their keys, its terminal states and its closed ones.
abbrev pub ListedAt : History → Arcs
ListedAt h s p t = (p < length (listed h)) × ((get_or (listed h) p (edge 0 0 0)).from ≡ s) × ((get_or (listed h) p (edge 0 0 0)).to ≡ t)

abbrev pub system : History → System
system h = record { Arc = ListedAt h; Goal = IsTerminal h; Final = IsClosed h }
