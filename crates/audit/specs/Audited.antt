-- The promise of the table check, on all inputs. Document 01: "The table check says yes exactly then (work tables included, by the rule written in docs/). It first tests 1 to 4".
-- Assumes nothing.
use Rattle.std.specs.Prelude.{◌≡◌, ◌↔◌, Bool, true, false, List, ℕ, Result, Ok, Err}
use Rattle.std.proofs.Math.Option.{Option, some, none}
use Rattle.gid.specs.Histories.{History}
use Rattle.gid.specs.Refusals.{first}
use Rattle.gid.specs.Outcomes.{Outcome}
use Rattle.tables.specs.declared.Graph.{Graph}
use Rattle.tables.specs.declared.refusal.Refusal.{Refusal}
use Rattle.tables.specs.Numbers.{number_of}
use Rattle.tables.specs.Tables.{Tables, nodes_of, enough, lengths, check_needs, tables_of}
use Rattle.tables.specs.Refused.{lent_rules}
use Rattle.tables.specs.Fitting.{Consistent, Fits}
use Rattle.tables.specs.Keeping.{Kept, KeptVisited}

-- Document 01's number and value for each answer: a yes, a no, or the number of a refusal.
abbrev pub audit_outcome : Result Bool Refusal → Outcome Bool
audit_outcome (Ok fits) = Outcome.accepted fits
audit_outcome (Err r) = Outcome.refused (number_of r)

-- The number of the first of the tests 1 to 4 that applies, if one does. "Test 3 covers the tables that the call in hand is lent": all but the news list.
abbrev pub audit_refusal : Graph → Tables → Option ℕ
audit_refusal g t = first (lent_rules g (enough (check_needs g.n (nodes_of g) g.limit (lengths t))))

-- The tables after a check that left these in the queue and in the visited marks.
abbrev pub after_check : Tables → List ℕ → List ℕ → Tables
after_check t queue visited =
    tables_of t.status t.marks t.from t.to t.key t.successor t.news t.in_head t.out_head queue visited t.in_next t.out_next

pub record Audited (g : Graph) (t : Tables) (answer : Result Bool Refusal) (queue' visited' : List ℕ) : Type 0 where
  -- Refused exactly by the tests 1 to 4, and then "nothing lent changes".
  pub refused : (k : ℕ) → (audit_outcome answer ≡ Outcome.refused k) ↔ (audit_refusal g t ≡ some k)
  pub unchanged : (k : ℕ) → audit_outcome answer ≡ Outcome.refused k → (queue' ≡ t.queue) × (visited' ≡ t.visited)
  -- Else a yes exactly where some legal history gives these tables, and a no exactly where none does.
  pub yes : audit_refusal g t ≡ none → (audit_outcome answer ≡ Outcome.accepted true) ↔ Fits g t
  pub no : audit_refusal g t ≡ none → (audit_outcome answer ≡ Outcome.accepted false) ↔ (Fits g t → ⊥)
  -- The work tables that it may write, below the needed length alone; "after a yes" they "still fit", for each history that gave them.
  pub queue : Kept (nodes_of g) t.queue queue'
  pub visited : KeptVisited (nodes_of g) t.visited visited'
  pub still : audit_outcome answer ≡ Outcome.accepted true → (h : History) → Consistent h g t → Consistent h g (after_check t queue' visited')
