-- The status of a state after a history, 0 to 4, computed on the whole history afresh. proofs/Statuses.antt has the laws that say which status stands for which verdict: they are all that a user of it needs.
-- Assumes nothing.
use Rattle.std.specs.Prelude.{Bool, false, not, cond, ◌&&◌, ◌||◌, [], ◌∷◌, ℕ, eqb}
use Rattle.gid.specs.declared.Update.TheVariants.{Step, Terminal, Close}
use Rattle.gid.specs.Histories.{History}

-- "0 unseen, 1 open, 2 unknown, 3 live, 4 dead"
abbrev pub status_unseen : ℕ
status_unseen = 0

abbrev pub status_open : ℕ
status_open = 1

abbrev pub status_unknown : ℕ
status_unknown = 2

abbrev pub status_live : ℕ
status_live = 3

abbrev pub status_dead : ℕ
status_dead = 4

unfoldable pub is_named : History → ℕ → Bool
is_named [] s = false
is_named (Step e ∷ h) s = eqb e.from s || eqb e.to s || is_named h s
is_named (Terminal u ∷ h) s = eqb u s || is_named h s
is_named (Close u ∷ h) s = eqb u s || is_named h s

unfoldable pub is_terminal : History → ℕ → Bool
is_terminal [] s = false
is_terminal (Step e ∷ h) s = is_terminal h s
is_terminal (Terminal u ∷ h) s = eqb u s || is_terminal h s
is_terminal (Close u ∷ h) s = is_terminal h s

unfoldable pub is_closed : History → ℕ → Bool
is_closed [] s = false
is_closed (Step e ∷ h) s = is_closed h s
is_closed (Terminal u ∷ h) s = is_closed h s
is_closed (Close u ∷ h) s = eqb u s || is_closed h s

-- Whether a path leads from u to w. A path that uses the newest step goes to its source by older steps, and on from its target by older steps.
unfoldable pub reaches : History → ℕ → ℕ → Bool
reaches [] u w = eqb u w
reaches (Step e ∷ h) u w = reaches h u w || (reaches h u e.from && reaches h e.to w)
reaches (Terminal a ∷ h) u w = reaches h u w
reaches (Close a ∷ h) u w = reaches h u w

-- Whether s reaches, by the steps of g, one of the states that h marks terminal.
unfoldable pub reaches_mark : History → ℕ → History → Bool
reaches_mark g s [] = false
reaches_mark g s (Step e ∷ h) = reaches_mark g s h
reaches_mark g s (Terminal v ∷ h) = reaches g s v || reaches_mark g s h
reaches_mark g s (Close a ∷ h) = reaches_mark g s h

unfoldable pub is_live : History → ℕ → Bool
is_live h s = reaches_mark h s h

-- Closed and not terminal.
unfoldable pub is_stuck : History → ℕ → Bool
is_stuck h v = is_closed h v && not (is_terminal h v)

-- Whether s, and each target of a step of h that s reaches by the steps of g, is closed and not terminal.
unfoldable pub reaches_stuck : History → ℕ → History → Bool
reaches_stuck g s [] = is_stuck g s
reaches_stuck g s (Step e ∷ h) = (not (reaches g s e.to) || is_stuck g e.to) && reaches_stuck g s h
reaches_stuck g s (Terminal a ∷ h) = reaches_stuck g s h
reaches_stuck g s (Close a ∷ h) = reaches_stuck g s h

unfoldable pub is_dead : History → ℕ → Bool
is_dead h s = reaches_stuck h s h

-- "Unknown: closed, neither live nor dead. Open: named, not closed, not live. Unseen: not named." "A live state may be open or closed in its marks. Its status is live either way."
unfoldable pub status : History → ℕ → ℕ
status h s =
    cond (is_live h s) status_live
    (cond (is_dead h s) status_dead (cond (is_closed h s) status_unknown (cond (is_named h s) status_open status_unseen)))
