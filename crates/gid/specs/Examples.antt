-- The marked examples of document 01, a close that comes again, keys and repeated steps (document 02, #102, #101 and #103), as one list of cases. proofs/Examples.antt proves them of the definitions.
-- Assumes nothing.
use Rattle.std.specs.Prelude.{List, [], ◌∷◌, ℕ}
use Rattle.gid.specs.declared.Update.{Update}
use Rattle.gid.specs.declared.Update.TheVariants.{Step, Terminal, Close}
use Rattle.gid.specs.Updates.{edge}
use Rattle.gid.specs.Statuses.{status}
use Rattle.gid.specs.Outcomes.{Outcome, refused, accepted, outcome, after, after_all}

-- What is seen of a case: the outcome of its last update, and the statuses of the states 0, 1 and 2 after it.
pub record Seen : Type 0 where
  pub outcome : Outcome (List ℕ)
  pub statuses : List ℕ

-- A case: the step limit, the updates sent in order, the last of them, and what must be seen. "Tables are fresh, with n = 3 and limit 4 unless said."
pub record Case : Type 0 where
  pub limit : ℕ
  pub before : List Update
  pub last : Update
  pub expected : Seen

unfoldable pub seen : Case → Seen
seen c =
    let h = after_all 3 c.limit [] c.before in
    let g = after 3 c.limit h c.last in
    record { outcome = outcome 3 c.limit h c.last; statuses = status g 0 ∷ status g 1 ∷ status g 2 ∷ [] }

-- A step by the key 0, as in document 01's examples, and by another.
abbrev step : ℕ → ℕ → Update
step u v = Step (edge u v 0)

abbrev by : ℕ → ℕ → ℕ → Update
by k u v = Step (edge u v k)

abbrev at : ℕ → List Update → Update → Outcome (List ℕ) → List ℕ → Case
at limit before last o s = record { limit = limit; before = before; last = last; expected = record { outcome = o; statuses = s } }

unfoldable pub cases : List Case
cases =
    -- 1. C 0: news 0 dead.
    at 4 [] (Close 0) (accepted (0 ∷ [])) (4 ∷ 0 ∷ 0 ∷ []) ∷
    -- 2. E 0 0, C 0: news 0 dead at the close.
    at 4 (step 0 0 ∷ []) (Close 0) (accepted (0 ∷ [])) (4 ∷ 0 ∷ 0 ∷ []) ∷
    -- 3. E 0 1, E 1 0, C 0: status 2, 1, 0.
    at 4 (step 0 1 ∷ step 1 0 ∷ []) (Close 0) (accepted []) (2 ∷ 1 ∷ 0 ∷ []) ∷
    -- 4. Then C 1: news 0 and 1, dead.
    at 4 (step 0 1 ∷ step 1 0 ∷ Close 0 ∷ []) (Close 1) (accepted (0 ∷ 1 ∷ [])) (4 ∷ 4 ∷ 0 ∷ []) ∷
    -- 5. E 0 1, E 1 0, E 1 2, C 0, C 1: no news, status 2, 2, 1. No update of the five has news.
    at 4 [] (step 0 1) (accepted []) (1 ∷ 1 ∷ 0 ∷ []) ∷
    at 4 (step 0 1 ∷ []) (step 1 0) (accepted []) (1 ∷ 1 ∷ 0 ∷ []) ∷
    at 4 (step 0 1 ∷ step 1 0 ∷ []) (step 1 2) (accepted []) (1 ∷ 1 ∷ 1 ∷ []) ∷
    at 4 (step 0 1 ∷ step 1 0 ∷ step 1 2 ∷ []) (Close 0) (accepted []) (2 ∷ 1 ∷ 1 ∷ []) ∷
    at 4 (step 0 1 ∷ step 1 0 ∷ step 1 2 ∷ Close 0 ∷ []) (Close 1) (accepted []) (2 ∷ 2 ∷ 1 ∷ []) ∷
    -- 6. Case 5, then C 2: news 0, 1, 2, dead.
    at 4 (step 0 1 ∷ step 1 0 ∷ step 1 2 ∷ Close 0 ∷ Close 1 ∷ []) (Close 2) (accepted (0 ∷ 1 ∷ 2 ∷ [])) (4 ∷ 4 ∷ 4 ∷ []) ∷
    -- 7. Case 5, then T 2: news 0, 1, 2, live.
    at 4 (step 0 1 ∷ step 1 0 ∷ step 1 2 ∷ Close 0 ∷ Close 1 ∷ []) (Terminal 2) (accepted (0 ∷ 1 ∷ 2 ∷ [])) (3 ∷ 3 ∷ 3 ∷ []) ∷
    -- 8. T 0, C 0: news 0 live at T, none at C.
    at 4 [] (Terminal 0) (accepted (0 ∷ [])) (3 ∷ 0 ∷ 0 ∷ []) ∷
    at 4 (Terminal 0 ∷ []) (Close 0) (accepted []) (3 ∷ 0 ∷ 0 ∷ []) ∷
    -- 9. C 1, E 0 1: 0 open. Then C 0: 0 dead.
    at 4 (Close 1 ∷ []) (step 0 1) (accepted []) (1 ∷ 4 ∷ 0 ∷ []) ∷
    at 4 (Close 1 ∷ step 0 1 ∷ []) (Close 0) (accepted (0 ∷ [])) (4 ∷ 4 ∷ 0 ∷ []) ∷
    -- 10. C 0, E 0 5: refused 5, not 6.
    at 4 (Close 0 ∷ []) (step 0 5) (refused 5) (4 ∷ 0 ∷ 0 ∷ []) ∷
    -- 11. Limit 1: E 0 1, then E 0 1 again: "Case 11's repeat is accepted; a different step there gets 9" (document 02, #103). T 0 after it is accepted.
    at 1 (step 0 1 ∷ []) (step 0 1) (accepted []) (1 ∷ 1 ∷ 0 ∷ []) ∷
    at 1 (step 0 1 ∷ step 0 1 ∷ []) (step 1 0) (refused 9) (1 ∷ 1 ∷ 0 ∷ []) ∷
    at 1 (step 0 1 ∷ step 0 1 ∷ []) (Terminal 0) (accepted (0 ∷ [])) (3 ∷ 1 ∷ 0 ∷ []) ∷
    -- 12. T 0, E 0 1, E 1 2, C 1, C 2, and the same without E 0 1: last news is 1 and 2, dead, in both.
    at 4 (Terminal 0 ∷ step 0 1 ∷ step 1 2 ∷ Close 1 ∷ []) (Close 2) (accepted (1 ∷ 2 ∷ [])) (3 ∷ 4 ∷ 4 ∷ []) ∷
    at 4 (Terminal 0 ∷ step 1 2 ∷ Close 1 ∷ []) (Close 2) (accepted (1 ∷ 2 ∷ [])) (3 ∷ 4 ∷ 4 ∷ []) ∷
    -- A close of a closed state, dead, live or unknown: accepted, no news, and each status as it was.
    at 4 (Close 0 ∷ []) (Close 0) (accepted []) (4 ∷ 0 ∷ 0 ∷ []) ∷
    at 4 (Terminal 0 ∷ Close 0 ∷ []) (Close 0) (accepted []) (3 ∷ 0 ∷ 0 ∷ []) ∷
    at 4 (step 0 1 ∷ Close 0 ∷ []) (Close 0) (accepted []) (2 ∷ 1 ∷ 0 ∷ []) ∷
    -- A key above 31 is refused with 14, behind 5 and before 6. By 31 life spreads as by any key.
    at 4 [] (by 32 0 1) (refused 14) (0 ∷ 0 ∷ 0 ∷ []) ∷
    at 4 [] (by 32 0 5) (refused 5) (0 ∷ 0 ∷ 0 ∷ []) ∷
    at 4 (Close 0 ∷ []) (by 32 0 1) (refused 14) (4 ∷ 0 ∷ 0 ∷ []) ∷
    at 4 (Terminal 1 ∷ []) (by 31 0 1) (accepted (0 ∷ [])) (3 ∷ 3 ∷ 0 ∷ []) ∷
    -- Two steps that differ only in key are two steps: with limit 1 the second finds no place.
    at 1 (by 3 0 1 ∷ []) (by 4 0 1) (refused 9) (1 ∷ 1 ∷ 0 ∷ []) ∷
    at 2 (by 3 0 1 ∷ by 4 0 1 ∷ []) (by 5 0 1) (refused 9) (1 ∷ 1 ∷ 0 ∷ []) ∷
    -- A repeated step, between live states too: accepted, no news, and no place taken, so that another step finds one. From a closed source it gets 6.
    at 2 (Terminal 1 ∷ by 3 0 1 ∷ by 3 0 1 ∷ []) (by 3 0 1) (accepted []) (3 ∷ 3 ∷ 0 ∷ []) ∷
    at 2 (by 3 0 1 ∷ by 3 0 1 ∷ by 3 0 1 ∷ []) (by 4 0 1) (accepted []) (1 ∷ 1 ∷ 0 ∷ []) ∷
    at 4 (by 3 0 1 ∷ Close 0 ∷ []) (by 3 0 1) (refused 6) (2 ∷ 1 ∷ 0 ∷ []) ∷ []
