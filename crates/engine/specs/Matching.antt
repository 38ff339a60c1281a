-- Two runs of the same updates that match. Document 02, #106.
-- Assumes nothing.
use Rattle.std.specs.Prelude.{◌≡◌, List, ℕ, ◌<◌, get_or}
use Rattle.gid.specs.declared.Update.{Update}
use Rattle.gid.specs.Histories.{History}
use Rattle.tables.specs.declared.Graph.{Graph}
use Rattle.tables.specs.Tables.{Tables}
use Rattle.tables.specs.Visits.{Marking}
use Rattle.tables.specs.Numbers.{number_of}
use Rattle.std.specs.Prelude.{Ok as Accepted}
use Rattle.engine.specs.Answers.{news_of}
use Rattle.engine.specs.Runs.{RunBy, begun, accepted, refused}

-- The first n states have the same statuses in both tables.
abbrev pub SameStatuses : ℕ → Tables → Tables → Type 0
SameStatuses n t t' = (s : ℕ) → s < n → get_or t.status s 0 ≡ get_or t'.status s 0

-- With visited marks of any two forms: each update has the same answer, a number of news or the number of a refusal, and the same news in both runs, and after it each of n states has the same status.
abbrev pub Matches :
    (n : ℕ) {one other : Marking} {g₀ g₁ : Graph} {t₀ t₁ : Tables} {g g' : Graph} {t t' : Tables} {xs : List Update} {h q : History} →
    RunBy one g₀ t₀ xs h g t → RunBy other g₁ t₁ xs q g' t' → Type 0
Matches n begun begun = Unit {0}
Matches n (accepted {t' = a} first c x k p) (accepted {t' = b} second _ _ j _) =
    Matches n first second × (k ≡ j) × (news_of (Accepted k) a.news ≡ news_of (Accepted j) b.news) × SameStatuses n a b
Matches n (refused {t' = a} first c x r p) (refused {t' = b} second _ _ q _) = Matches n first second × (number_of r ≡ number_of q) × SameStatuses n a b
Matches n (accepted first c x k p) (refused second _ _ j _) = ⊥
Matches n (refused first c x k p) (accepted second _ _ j _) = ⊥
