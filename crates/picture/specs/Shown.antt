-- The text of what a picture shows.
-- Assumes nothing.
use Rattle.std.specs.Prelude.{List, ℕ, get_or}
use Rattle.gid.specs.Successors.{no_successor}
use Rattle.tables.specs.Marks.{has_terminal}
use Rattle.picture.specs.declared.shown.Shown.{Shown}
use Rattle.picture.specs.Picture.{states_text, steps_text, picture}

-- The lines of its states, those of its steps, and the whole picture.
abbrev pub state_lines : Shown → List ℕ
state_lines s = states_text s.n (λ i. get_or s.status.now i 0) (λ i. has_terminal (get_or s.marks.now i 0))

abbrev pub step_lines : Shown → List ℕ
step_lines s = steps_text s.steps (λ p. get_or s.from.now p 0) (λ p. get_or s.to.now p 0) (λ p. get_or s.key.now p 0) (λ i. get_or s.successor.now i no_successor)

abbrev pub shown_picture : Shown → List ℕ
shown_picture s = picture s.n s.steps s.status.now s.marks.now s.from.now s.to.now s.key.now s.successor.now

-- The room that the line of a step takes at most.
abbrev pub step_room : ℕ
step_room = 48
