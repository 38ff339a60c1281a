-- "Tables fit when some legal history gives these marks, this step list and these statuses, and the successor rule holds" (work tables included, by the work rule).
-- Assumes nothing.
use Rattle.std.specs.Prelude.{◌≡◌, cond, List, map, ℕ, ◌+◌, ◌<◌, ◌≤◌, get_or, take, length}
use Rattle.gid.specs.declared.Edge.{Edge}
use Rattle.gid.specs.declared.Update.TheVariants.{Step}
use Rattle.gid.specs.Histories.{History, Has, Legal, IsNamed, listed}
use Rattle.gid.specs.Statuses.{is_named, is_terminal, is_closed, status}
use Rattle.gid.specs.Successors.{SuccessorRule, no_successor}
use Rattle.gid.specs.Refusals.{max_key}
use Rattle.tables.specs.declared.Graph.{Graph}
use Rattle.tables.specs.Tables.{Tables, lengths, nodes_of}
use Rattle.tables.specs.Visits.{Marking, by_bit, NoneVisitedBy}
use Rattle.tables.specs.Work.{ListRule}

-- The two ends of a history's steps and their keys, in order of acceptance.
abbrev pub sources : History → List ℕ
sources h = map (λ (e : Edge). e.from) (listed h)

abbrev pub targets : History → List ℕ
targets h = map (λ (e : Edge). e.to) (listed h)

abbrev pub keys : History → List ℕ
keys h = map (λ (e : Edge). e.key) (listed h)

-- The listed steps as a relation of state, place and state, over the first m entries of the step list.
abbrev pub StepAt : ℕ → List ℕ → List ℕ → ℕ → ℕ → ℕ → Type 0
StepAt m from to s p t = (p < m) × (get_or from p 0 ≡ s) × (get_or to p 0 ≡ t)

-- "the sum of 1 (named), 2 (terminal), 4 (closed)"
unfoldable pub marks_of : History → ℕ → ℕ
marks_of h s = cond (is_named h s) 1 0 + cond (is_terminal h s) 2 0 + cond (is_closed h s) 4 0

-- The tables fit for the history h, with visited marks of some form.
pub record ConsistentBy (form : Marking) (h : History) (g : Graph) (t : Tables) : Type 0 where
  -- The states of the history are those of the tables, "numbered 0 to n−1".
  pub in_range : (s : ℕ) → IsNamed h s → s < g.n
  -- "Each step now carries a key, 0 to 31"
  pub keys_in_range : (e : Edge) → Has h (Step e) → e.key ≤ max_key
  -- "these marks, this step list and these statuses"
  pub marks : (s : ℕ) → s < g.n → get_or t.marks s 0 ≡ marks_of h s
  pub steps : g.steps ≡ length (listed h)
  pub from : take g.steps t.from ≡ sources h
  pub to : take g.steps t.to ≡ targets h
  pub key : take g.steps t.key ≡ keys h
  pub status : (s : ℕ) → s < nodes_of g → get_or t.status s 0 ≡ status h s
  -- "and the successor rule holds"
  pub successor : SuccessorRule (nodes_of g) (StepAt g.steps t.from t.to) (λ s. get_or t.status s 0) (λ s. get_or t.successor s 0)
  -- The work rule.
  pub into : ListRule g.n g.steps t.to t.in_head t.in_next
  pub out_of : ListRule g.n g.steps t.from t.out_head t.out_next
  pub unvisited : NoneVisitedBy form (nodes_of g) t.visited

-- So for the calls, whose marks are bits.
abbrev pub Consistent : History → Graph → Tables → Type 0
Consistent = ConsistentBy by_bit

-- "Tables fit when some legal history gives" them.
abbrev pub Fits : Graph → Tables → Type 0
Fits g t = (h : History) × Legal h × Consistent h g t

-- The first entries of a table all have one value.
abbrev pub AllBelow : ℕ → ℕ → List ℕ → Type 0
AllBelow n v l = (s : ℕ) → s < n → get_or l s 0 ≡ v

-- "Fresh tables have status and marks 0, successors 65,535, no steps, and 0 in every needed work entry."
pub record FreshBy (form : Marking) (g : Graph) (t : Tables) : Type 0 where
  pub no_steps : g.steps ≡ 0
  pub status : AllBelow (nodes_of g) 0 t.status
  pub marks : AllBelow g.n 0 t.marks
  pub successor : AllBelow (nodes_of g) no_successor t.successor
  pub in_head : AllBelow (nodes_of g) 0 t.in_head
  pub out_head : AllBelow (nodes_of g) 0 t.out_head
  pub queue : AllBelow (nodes_of g) 0 t.queue
  pub visited : AllBelow (form.entries (nodes_of g)) 0 t.visited
  pub in_next : AllBelow g.limit 0 t.in_next
  pub out_next : AllBelow g.limit 0 t.out_next

abbrev pub Fresh : Graph → Tables → Type 0
Fresh = FreshBy by_bit

-- What a table check between two calls leaves: all tables as they were, "but for what a table check in between wrote into work tables", "which after a yes still fit". No check at all leaves them so too.
pub record CheckedBy (form : Marking) (g : Graph) (t t' : Tables) : Type 0 where
  pub status : t'.status ≡ t.status
  pub marks : t'.marks ≡ t.marks
  pub from : t'.from ≡ t.from
  pub to : t'.to ≡ t.to
  pub key : t'.key ≡ t.key
  pub successor : t'.successor ≡ t.successor
  pub news : t'.news ≡ t.news
  pub sizes : lengths t' ≡ lengths t
  pub fits : (h : History) → Legal h → ConsistentBy form h g t → ConsistentBy form h g t'

abbrev pub Checked : Graph → (t t' : Tables) → Type 0
Checked = CheckedBy by_bit
