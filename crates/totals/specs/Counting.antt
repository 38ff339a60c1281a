-- The four totals of the listing. Document 01, "The record": "then four counts"; document 02, #105: "On any status table each total equals the number of states with that status".
-- Assumes nothing.
use Rattle.std.specs.Prelude.{eqb, length, ℕ}
use Rattle.gid.specs.Statuses.{status_open, status_unknown, status_live, status_dead}
use Rattle.gid.specs.News.{below}
use Rattle.totals.specs.declared.Totals.{Totals}

-- The number of states below n with status k.
abbrev pub having : ℕ → (ℕ → ℕ) → ℕ → ℕ
having n status k = length (below n (λ s. eqb (status s) k))

-- "four counts", over the first n states.
abbrev pub totals_below : ℕ → (ℕ → ℕ) → Totals
totals_below n status =
    record {
      «open» = having n status status_open;
      unknown = having n status status_unknown;
      live = having n status status_live;
      dead = having n status status_dead;
    }
