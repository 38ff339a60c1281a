-- Pruning (document 01: the thinned run), on histories. Document 01, "The two runs of demand 3": "The thinned run is sent the updates that the full run accepted, in that order, less any choice of those whose first state is live, by the verdict rules, on the updates that the full run accepted before."
-- Assumes nothing.
use Rattle.std.specs.Prelude.{◌≡◌, [], ◌∷◌, ℕ}
use Rattle.gid.specs.declared.Update.{Update}
use Rattle.gid.specs.Updates.{source}
use Rattle.gid.specs.Histories.{History, IsNamed}
use Rattle.gid.specs.Verdicts.{Live}
use Rattle.gid.specs.Statuses.{status}
use Rattle.gid.specs.News.{news}

-- The full history, the pruned one, and the choice of what was left out.
pub data Pruned : History → History → Type 0 where
  start : Pruned [] []
  keep : {f p : History} (x : Update) → Pruned f p → Pruned (x ∷ f) (x ∷ p)
  leave : {f p : History} (x : Update) → Live f (source x) → Pruned f p → Pruned (x ∷ f) p

-- Of the whole list and the whole choice: each kept update has the same news after both and, after it, each state that the pruned history has named has the same status in both; what was left out had no news.
abbrev pub Agrees : ℕ → {f p : History} → Pruned f p → Type 0
Agrees n start = Unit {0}
Agrees n (keep {f = f} {p = p} x c) = Agrees n c × (news n f x ≡ news n p x) × ((s : ℕ) → IsNamed (x ∷ p) s → status (x ∷ f) s ≡ status (x ∷ p) s)
Agrees n (leave {f = f} x l c) = Agrees n c × (news n f x ≡ [])
