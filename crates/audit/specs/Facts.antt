-- The facts by which tables are judged, said of their entries alone. proofs/Judging.antt: they hold exactly where the tables fit.
-- Assumes nothing.
use Rattle.std.specs.Prelude.{◌≡◌, Bool, true, false, not, cond, ◌&&◌, ◌||◌, List, ℕ, ◌<◌, eqb, leb, ltb, get_or}
use Rattle.gid.specs.Statuses.{status_unseen, status_open, status_unknown, status_live, status_dead}
use Rattle.gid.specs.Successors.{no_successor}
use Rattle.gid.specs.Systems.{Arcs}
use Rattle.gid.specs.Refusals.{max_key}
use Rattle.tables.specs.Tables.{Tables}
use Rattle.tables.specs.Marks.{has_named, has_terminal}
use Rattle.tables.specs.Listing.{Distinct}
use Rattle.tables.specs.Work.{ListRule}
use Rattle.tables.specs.Visits.{marked}
use Rattle.search.specs.Spreading.{chains, into, Mode, Tree, Claimed, allowed, Reached}

-- A test passes at each index below n.
abbrev pub All : ℕ → (ℕ → Bool) → Type 0
All n f = (i : ℕ) → i < n → f i ≡ true

-- It passes at the index i, which is below n.
abbrev pub Passes : ℕ → (ℕ → Bool) → ℕ → Type 0
Passes n f i = (i < n) × (f i ≡ true)

-- A state with this byte of marks (1 named, 2 terminal, 4 closed) can have this status.
unfoldable pub suits : ℕ → ℕ → Bool
suits status mark =
    cond (eqb status status_unseen) (eqb mark 0)
    (cond (eqb status status_open) (eqb mark 1)
    (cond (eqb status status_unknown) (eqb mark 5)
    (cond (eqb status status_dead) (eqb mark 5)
    (cond (eqb status status_live) (leb mark 7 && has_named mark) false))))

-- A state that is named and has no other mark is an end of a listed step: one of its lists is not empty.
unfoldable pub mentioned : ℕ → ℕ → ℕ → Bool
mentioned mark in_head out_head = not (eqb mark 1) || (not (eqb in_head 0) || not (eqb out_head 0))

-- The successor p of the state s: a listed step out of s where s is unknown, and none elsewhere.
unfoldable pub successor_fits : ℕ → List ℕ → ℕ → ℕ → ℕ → Bool
successor_fits m from s status p = cond (eqb status status_unknown) (ltb p m && eqb (get_or from p 0) s) (eqb p no_successor)

-- The entries of one state.
unfoldable pub state_fits : ℕ → (status marks from successor in_head out_head visited : List ℕ) → ℕ → Bool
state_fits m status marks from successor in_head out_head visited s =
    not (marked visited s) &&
    (suits (get_or status s 0) (get_or marks s 0) &&
    (mentioned (get_or marks s 0) (get_or in_head s 0) (get_or out_head s 0) && successor_fits m from s (get_or status s 0) (get_or successor s 0)))

unfoldable pub both_named : ℕ → ℕ → Bool
both_named source target = has_named source && has_named target

-- The statuses of a step's ends: the source is live where the target is, and the target is dead where the source is.
unfoldable pub agrees : ℕ → ℕ → Bool
agrees source target = cond (eqb target status_live) (eqb source status_live) (cond (eqb source status_dead) (eqb target status_dead) true)

-- A step from u to v: both are named states, and their statuses agree.
unfoldable pub step_fits : ℕ → (status marks : List ℕ) → ℕ → ℕ → Bool
step_fits n status marks u v =
    ltb u n && (ltb v n && (both_named (get_or marks u 0) (get_or marks v 0) && agrees (get_or status u 0) (get_or status v 0)))

-- A listed key: "0 to 31".
unfoldable pub key_fits : ℕ → Bool
key_fits k = leb k max_key

-- From which states a verdict is spread backwards: live from the terminal states, unknown from the open ones.
unfoldable pub starts : ℕ → ℕ → ℕ → Bool
starts verdict status mark = cond (eqb verdict status_live) (has_terminal mark) (eqb status status_open)

abbrev pub starts_at : ℕ → (status marks : List ℕ) → ℕ → Bool
starts_at verdict status marks s = starts verdict (get_or status s 0) (get_or marks s 0)

-- A state with the verdict is visited.
unfoldable pub covered : ℕ → (status visited : List ℕ) → ℕ → Bool
covered verdict status visited s = not (eqb (get_or status s 0) verdict) || marked visited s

-- The state s is reached backwards, by sources that a mode allows, from one where the verdict starts.
abbrev pub Backed : ℕ → Arcs → Mode → ℕ → (status marks successor : List ℕ) → ℕ → Type 0
Backed n Arc mode verdict status marks successor s = Reached n Arc (allowed mode status successor) (Passes n (starts_at verdict status marks)) s

-- So is each state with the verdict.
abbrev pub Backs : ℕ → Arcs → Mode → ℕ → (status marks successor : List ℕ) → Type 0
Backs n Arc mode verdict status marks successor = (s : ℕ) → s < n → get_or status s 0 ≡ verdict → Backed n Arc mode verdict status marks successor s

-- The first m steps, as walks over those into each of n states meet them.
abbrev pub steps_into : ℕ → ℕ → Tables → Arcs
steps_into n m t = into (chains n m t.from t.in_head t.in_next)

-- The facts, of tables with n states and m listed steps.
pub record TableFacts (n m : ℕ) (t : Tables) : Type 0 where
  pub states : All n (state_fits m t.status t.marks t.from t.successor t.in_head t.out_head t.visited)
  pub steps : All m (λ p. step_fits n t.status t.marks (get_or t.from p 0) (get_or t.to p 0))
  pub keys : All m (λ p. key_fits (get_or t.key p 0))
  pub distinct : Distinct m t.from t.to t.key
  pub into : ListRule n m t.to t.in_head t.in_next
  pub out_of : ListRule n m t.from t.out_head t.out_next
  -- A live state reaches a terminal one through live states.
  pub lives : Backs n (steps_into n m t) Claimed status_live t.status t.marks t.successor
  -- The successors of an unknown state lead to an open one.
  pub escapes : Backs n (steps_into n m t) Tree status_unknown t.status t.marks t.successor
