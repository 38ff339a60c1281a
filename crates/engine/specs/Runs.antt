-- Runs: lists of update calls, "refused ones included". Document 01, "The two runs of demand 3".
-- Assumes nothing.
use Rattle.std.specs.Prelude.{◌≡◌, List, [], ◌∷◌, ℕ, get_or}
use Rattle.gid.specs.declared.Update.{Update}
use Rattle.gid.specs.Histories.{History, IsNamed}
use Rattle.gid.specs.Pruning.{Pruned, start, keep, leave}
use Rattle.tables.specs.declared.Graph.{Graph}
use Rattle.tables.specs.Tables.{Tables}
use Rattle.tables.specs.Visits.{Marking, by_bit}
use Rattle.tables.specs.Fitting.{CheckedBy}
use Rattle.tables.specs.declared.refusal.Refusal.{Refusal}
use Rattle.std.specs.Prelude.{Ok as Accepted, Err as Refused}
use Rattle.engine.specs.Answers.{news_of}
use Rattle.engine.specs.Promise.{PromiseBy}

-- A run that starts on the state value g₀ and the tables t₀: the updates sent and the history of those accepted, each the newest first, and the state value and the tables that the last call left. "Each later call gets the state value that the last one returned and all tables as that one left them." Any engine that keeps the promise, with visited marks of some form, may have made the calls.
pub data RunBy (form : Marking) (g₀ : Graph) (t₀ : Tables) : List Update → History → Graph → Tables → Type 0 where
  begun : RunBy form g₀ t₀ [] [] g₀ t₀
  accepted :
      {xs : List Update} {h : History} {g g' : Graph} {t t₁ t' : Tables} → RunBy form g₀ t₀ xs h g t → CheckedBy form g t t₁ →
      (x : Update) (k : ℕ) → PromiseBy form g x t₁ g' (Accepted k) t' → RunBy form g₀ t₀ (x ∷ xs) (x ∷ h) g' t'
  refused :
      {xs : List Update} {h : History} {g g' : Graph} {t t₁ t' : Tables} → RunBy form g₀ t₀ xs h g t → CheckedBy form g t t₁ →
      (x : Update) (r : Refusal) → PromiseBy form g x t₁ g' (Refused r) t' → RunBy form g₀ t₀ (x ∷ xs) h g' t'

-- So of the engine, whose marks are bits.
abbrev pub Run : Graph → Tables → List Update → History → Graph → Tables → Type 0
Run = RunBy by_bit

-- Two runs, the pruned one being sent what the full one accepted less a choice of updates sent from a state already live: "each update it is sent has the same news in both runs and, after it, each state that the thinned run has named has the same status in both; what was left out had no news." The pruned run refuses nothing.
abbrev pub Agree :
    {g₀ g₁ : Graph} {t₀ t₁ : Tables} {g g' : Graph} {t t' : Tables} {xs : List Update} {h p q : History} →
    Run g₀ t₀ xs h g t → Pruned h p → Run g₁ t₁ p q g' t' → Type 0
Agree begun start thin = Unit {0}
Agree (refused full s x k o) c thin = Agree full c thin
Agree (accepted {t' = f} full s x k o) (keep _ c) (accepted {h = q} {t' = p} thin _ _ j _) =
    Agree full c thin × (news_of (Accepted k) f.news ≡ news_of (Accepted j) p.news) × ((r : ℕ) → IsNamed (x ∷ q) r → get_or f.status r 0 ≡ get_or p.status r 0)
Agree (accepted full s x k o) (keep _ c) (refused thin _ _ j _) = ⊥
Agree (accepted {t' = f} full s x k o) (leave _ l c) thin = Agree full c thin × (news_of (Accepted k) f.news ≡ [])
