-- What an accepted update does to the tables that a search writes, on tables with any contents: life spreads from its state, or the search for the dead runs from it, or nothing is settled.
-- Assumes nothing.
use Rattle.std.specs.Prelude.{◌≡◌, cond, List, ℕ, ◌+◌, eqb, get_or, set, Option, Some, None}
use Rattle.gid.specs.declared.Update.{Update}
use Rattle.gid.specs.declared.Update.TheVariants.{Step, Terminal, Close}
use Rattle.gid.specs.Statuses.{status_unknown, status_live}
use Rattle.gid.specs.Systems.{Arcs}
use Rattle.search.specs.declared.spread.Span.{Span}
use Rattle.search.specs.Offering.{Begun}
use Rattle.search.specs.Escaping.{Near}
use Rattle.search.specs.Searches.{SearchTables, Revives, Sweeps}

-- 1 + the state that there is, or 0 for none.
abbrev pub numbered : Option ℕ → ℕ
numbered None = 0
numbered (Some s) = s + 1

-- 1 + a state that is not live, or 0.
abbrev pub unless_live : ℕ → List ℕ → ℕ
unless_live s status = cond (eqb (get_or status s 0) status_live) 0 (s + 1)

-- 1 + the state from which life spreads, or 0: a state that is not live yet, and is marked terminal or has a new step to a live one.
unfoldable pub quickened : Update → List ℕ → ℕ
quickened (Step e) status = cond (eqb (get_or status e.to 0) status_live) (unless_live e.from status) 0
quickened (Terminal u) status = unless_live u status
quickened (Close u) status = 0

-- 1 + the state that an update closes and that is not live, or 0.
unfoldable pub endangered : Update → List ℕ → ℕ
endangered (Step e) status = 0
endangered (Terminal u) status = 0
endangered (Close u) status = unless_live u status

-- The tables with u unknown, with a successor for it, and with other marks and another queue.
abbrev pub unknown_at : ℕ → SearchTables → SearchTables
unknown_at u b = record { status = set b.status u status_unknown; successor = b.successor; news = b.news; visited = b.visited; queue = b.queue }

abbrev pub followed_by : ℕ → ℕ → SearchTables → SearchTables
followed_by u p b = record { status = b.status; successor = set b.successor u p; news = b.news; visited = b.visited; queue = b.queue }

abbrev pub begun_with : List ℕ → List ℕ → SearchTables → SearchTables
begun_with visited queue b = record { status = b.status; successor = b.successor; news = b.news; visited = visited; queue = queue }

-- The update x, whose states are named in b, is judged: k news. A closed state that is not live is unknown, with a successor near by, or the search for the dead runs from it.
pub data Judged (n : ℕ) (Into Out Follow : Arcs) (x : Update) (b a : SearchTables) (k : ℕ) : Type 0 where
  quiet : quickened x b.status ≡ 0 → endangered x b.status ≡ 0 → a ≡ b → k ≡ 0 → Judged n Into Out Follow x b a k
  revived :
      (u : ℕ) → quickened x b.status ≡ u + 1 → (starts : Span) (visited queue : List ℕ) → Begun u b.visited b.queue visited queue starts →
      Revives n Into starts (begun_with visited queue b) a k → Judged n Into Out Follow x b a k
  nears :
      (u p t : ℕ) → endangered x b.status ≡ u + 1 → Out u p t → Near n Follow (set b.status u status_unknown) b.successor t →
      a ≡ followed_by u p (unknown_at u b) → k ≡ 0 → Judged n Into Out Follow x b a k
  swept :
      (u : ℕ) → endangered x b.status ≡ u + 1 → (starts : Span) (visited queue : List ℕ) → Begun u b.visited b.queue visited queue starts →
      Sweeps n Into Out starts (begun_with visited queue (unknown_at u b)) a k → Judged n Into Out Follow x b a k
