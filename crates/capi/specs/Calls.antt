-- The answers of the calls for C, as equations with the answers of the calls that they export.
-- Assumes nothing.
use Rattle.std.specs.Prelude.{◌≡◌, Bool, true, cond, List, [], ◌∷◌, ◌++◌, ℕ, ◌+◌, eqb, Option as Maybe, Some as Known, None as Unknown, Result, Ok, Err}
use Rattle.std.proofs.Math.Option.{Option, some}
use Rattle.gid.specs.declared.Update.{Update as Sent}
use Rattle.gid.specs.declared.Update.TheVariants.{Step, Terminal, Close}
use Rattle.gid.specs.Updates.{edge}
use Rattle.gid.specs.Refusals.{first}
use Rattle.gid.specs.Outcomes.{Outcome, refused, accepted, by_number}
use Rattle.tables.specs.declared.Graph.{Graph}
use Rattle.tables.specs.declared.lengths.Lengths.{Lengths}
use Rattle.tables.specs.Tables.{Tables, nodes_of, enough, needs, lengths}
use Rattle.tables.specs.Refused.{lent_rules}
use Rattle.tables.specs.declared.refusal.Refusal.{Refusal}
use Rattle.tables.specs.Numbers.{number_of}
use Rattle.engine.specs.Answers.{Answer, answer_number, news_count}
use Rattle.engine.specs.Promise.{Promise}
use Rattle.audit.specs.Audited.{audit_outcome, Audited}

-- What a call answers: a number for what it is accepted with, or 65,536 plus the number of its refusal.
abbrev pub code_by : {A : Type 0} → (A → ℕ) → Outcome A → ℕ
code_by f (accepted a) = f a
code_by f (refused k) = 65536 + k

-- So of an answer of the code.
abbrev pub code_of : Result ℕ Refusal → ℕ
code_of (Ok k) = k
code_of (Err r) = 65536 + number_of r

-- The update of a kind byte (E, T or C), two states and a key.
abbrev pub kind_by : ℕ → ℕ → ℕ → ℕ → Maybe Sent
kind_by kind u v k = cond (eqb kind 69) (Known (Step (edge u v k))) (cond (eqb kind 84) (Known (Terminal u)) (cond (eqb kind 67) (Known (Close u)) Unknown))

-- The number of any other kind: "11: a line is malformed", behind the tests 1 to 4.
unfoldable pub kind_refusal : Graph → Lengths → Option ℕ
kind_refusal g l = first (lent_rules g (enough (needs g.n (nodes_of g) g.limit l)) ++ (record { applies = true; number = 11 } ∷ []))

-- A call with n states, a step limit and m steps before it and m' after it: an update keeps the engine's promise, and the answer is the number of its news; another kind is refused, and changes nothing.
pub data Called (n limit m : ℕ) : Maybe Sent → Tables → ℕ → Tables → ℕ → Type 0 where
  unknown : {t : Tables} {k r : ℕ} → kind_refusal (record { n = n; limit = limit; steps = m }) (lengths t) ≡ some k → r ≡ 65536 + k → Called n limit m Unknown t m t r
  answered :
      {x : Sent} {t t' : Tables} {g' : Graph} {a : Answer} {m' r : ℕ} → Promise (record { n = n; limit = limit; steps = m }) x t g' a t' → m' ≡ g'.steps → r ≡ code_by (λ k. k) (by_number (answer_number a) (news_count a)) →
      Called n limit m (Known x) t m' t' r

-- A call of the table check keeps the check's promise: 1 for a yes, 0 for a no.
abbrev pub yes_code : Bool → ℕ
yes_code b = cond b 1 0

pub record AuditCalled (g : Graph) (t : Tables) (r : ℕ) (queue' visited' : List ℕ) : Type 0 where
  pub answer : Result Bool Refusal
  pub audited : Audited g t answer queue' visited'
  pub code : r ≡ code_by yes_code (audit_outcome answer)

-- The writer answers 0, and the place after the call is that after the last byte; as it was where it is refused.
abbrev pub place_after : Outcome ℕ → ℕ → ℕ
place_after (accepted place) at = place
place_after (refused k) at = at
