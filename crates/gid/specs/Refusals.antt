-- The numbers 1 to 9, without 7 and 8 (document 02, #102 and #110), and 14 (#101): which updates are refused. Document 01, "Numbers by who causes them": "Tests run in rising order and the first that applies is given", but for 14, which is "tested right after 5".
-- Assumes nothing.
use Rattle.std.specs.Prelude.{Bool, not, cond, ◌&&◌, ◌||◌, List, [], ◌∷◌, ◌++◌, ℕ, leb, ltb, eqb}
use Rattle.std.proofs.Math.Option.{Option, some, none}
use Rattle.gid.specs.declared.Edge.{Edge}
use Rattle.gid.specs.declared.Update.{Update}
use Rattle.gid.specs.declared.Update.TheVariants.{Step, Terminal, Close}

-- "There are n states, numbered 0 to n−1, with n from 1 to 2,048. The step limit is from 1 to 8,192."
abbrev pub max_states : ℕ
max_states = 2048

abbrev pub max_steps : ℕ
max_steps = 8192

-- "Each step now carries a key, 0 to 31" (document 02, #101).
abbrev pub max_key : ℕ
max_key = 31

-- What a refusal turns on: the state value (n, the step limit, the number of steps), whether every table that the call is lent is long enough, whether the step list is full, which steps are listed, and which states are marked closed.
pub record Given : Type 0 where
  pub n : ℕ
  pub limit : ℕ
  pub steps : ℕ
  pub long : Bool
  pub full : Bool
  pub listed : Edge → Bool
  pub closed : ℕ → Bool

-- A test with the number that it gives where it applies.
pub record Rule : Type 0 where
  pub applies : Bool
  pub number : ℕ

-- The number of the first test that applies, if one does.
abbrev pub first : List Rule → Option ℕ
first [] = none
first (r ∷ l) = cond r.applies (some r.number) (first l)

-- "Caused by the bench that lends"
abbrev pub lent : Given → List Rule
lent g =
    record { applies = eqb g.n 0 || ltb max_states g.n; number = 1 } ∷
    record { applies = eqb g.limit 0 || ltb max_steps g.limit; number = 2 } ∷
    record { applies = not g.long; number = 3 } ∷
    record { applies = ltb g.limit g.steps; number = 4 } ∷ []

-- "Caused by the explorer that sends". A step equal to a listed one takes no place, so it needs none (document 02, #103).
abbrev pub sent : Given → Update → List Rule
sent g (Step e) =
    record { applies = leb g.n e.from || leb g.n e.to; number = 5 } ∷
    record { applies = ltb max_key e.key; number = 14 } ∷
    record { applies = g.closed e.from; number = 6 } ∷
    record { applies = g.full && not (g.listed e); number = 9 } ∷ []
sent g (Terminal u) =
    record { applies = leb g.n u; number = 5 } ∷
    record { applies = g.closed u; number = 6 } ∷ []
sent g (Close u) = record { applies = leb g.n u; number = 5 } ∷ []

-- The number with which an update is refused, or none: it is accepted.
unfoldable pub refusal : Given → Update → Option ℕ
refusal g x = first (lent g ++ sent g x)
