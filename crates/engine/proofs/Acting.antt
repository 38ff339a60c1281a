-- What the parts of an accepted update turn on: its states and its key in range, whether it is chained, and the state that it makes live or puts in danger.
-- Assumes nothing.
use mathlib.Core.Path.{◌≡◌, refl}
use mathlib.Core.Bool.{Bool, true, false, cond}
use mathlib.Core.List.{List}
use Prim.Native.Nat.{ℕ, ◌+◌, ◌≤◌, ◌<◌}
use native.Mathlib.Omega.{arith}
use lib.Dec.{eqb}
use lib.ListN.{get_or}
use Rattle.gid.specs.declared.Edge.{Edge}
use Rattle.gid.specs.declared.Update.{Update}
use Rattle.gid.specs.declared.Update.TheVariants.{Step, Terminal, Close}
use Rattle.gid.specs.Updates.{source}
use Rattle.gid.specs.Statuses.{status_live}
use Rattle.gid.specs.Systems.{Arcs}
use Rattle.search.specs.Searches.{SearchTables}
use Rattle.engine.specs.Preparing.{InRange, KeyBelow}
use Rattle.engine.specs.Judging.{unless_live, quickened, endangered, Judged}
use Rattle.engine.specs.Done.{Chained, same}

-- The first state of an update in range.
pub source_below : (n : ℕ) (x : Update) → InRange n x → source x < n
source_below n (Step e) s = s.0
source_below n (Terminal u) s = s
source_below n (Close u) s = s

-- An update that is no step is in no chain.
pub chained_none : (m : ℕ) (x : Update) {in_head out_head in_next out_next : List ℕ} → ((e : Edge) → x ≡ Step e → ⊥) → Chained m in_head out_head in_next out_next in_head out_head in_next out_next x
chained_none m (Step e) n = absurd (n e refl)
chained_none m (Terminal u) n = same refl refl refl refl refl
chained_none m (Close u) n = same refl refl refl refl refl

-- The states of an update and its key are below a larger bound too.
pub in_range_wider : (m n : ℕ) (x : Update) → m ≤ n → InRange m x → InRange n x
in_range_wider m n (Step e) h k = (omega arith, omega arith)
in_range_wider m n (Terminal u) h k = omega arith
in_range_wider m n (Close u) h k = omega arith

pub key_wider : (m n : ℕ) (x : Update) → m ≤ n → KeyBelow m x → KeyBelow n x
key_wider m n (Step e) h k = omega arith
key_wider m n (Terminal u) h k = tt
key_wider m n (Close u) h k = tt

-- 1 + a state that is not live, or 0: the state is below what bounds it.
unless_below : (n s : ℕ) (b : Bool) (u : ℕ) → s < n → cond b 0 (s + 1) ≡ u + 1 → u < n
unless_below n s true u h e = omega arith
unless_below n s false u h e = omega arith

-- The state from which life spreads, and the one that is closed and not live.
pub quickened_below : (n : ℕ) (x : Update) (status : List ℕ) (u : ℕ) → InRange n x → quickened x status ≡ u + 1 → u < n
unfolding quickened
quickened_below n (Step e) status u h k = at (eqb (get_or status e.to 0) status_live) k
  where
    at : (b : Bool) → cond b (unless_live e.from status) 0 ≡ u + 1 → u < n
    at true l = unless_below n e.from (eqb (get_or status e.from 0) status_live) u h.0 l
    at false l = omega arith
quickened_below n (Terminal s) status u h k = unless_below n s (eqb (get_or status s 0) status_live) u h k
quickened_below n (Close s) status u h k = omega arith

pub endangered_below : (n : ℕ) (x : Update) (status : List ℕ) (u : ℕ) → InRange n x → endangered x status ≡ u + 1 → u < n
unfolding endangered
endangered_below n (Step e) status u h k = omega arith
endangered_below n (Terminal s) status u h k = omega arith
endangered_below n (Close s) status u h k = unless_below n s (eqb (get_or status s 0) status_live) u h k

-- What a search leaves in its work tables, as their lender has it.
pub judged_lent : {n : ℕ} {Into Out Follow : Arcs} {x : Update} {b a : SearchTables} {k : ℕ} {visited queue : List ℕ} → Judged n Into Out Follow x b a k → visited ≡ a.visited → queue ≡ a.queue → Judged n Into Out Follow x b (record { status = a.status; successor = a.successor; news = a.news; visited = visited; queue = queue }) k
judged_lent j v q = rw (v, q) j
