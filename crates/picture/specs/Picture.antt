-- The picture of some tables: a Graphviz graph, as bytes. A line for each state that has a verdict, then a line for each listed step.
-- Assumes nothing.
use Rattle.std.specs.Prelude.{Bool, cond, List, [], ◌∷◌, ◌++◌, ℕ, zero, suc, eqb, get_or}
use Rattle.gid.specs.Statuses.{status_open, status_unknown, status_live, status_dead}
use Rattle.gid.specs.Successors.{no_successor}
use Rattle.tables.specs.Marks.{has_terminal}
use Rattle.record.specs.Text.{decimal}

-- `digraph verdicts {`, `  rankdir=LR;` and `  node [style=filled];`, a line each.
abbrev pub opening : List ℕ
opening = 100 ∷ 105 ∷ 103 ∷ 114 ∷ 97 ∷ 112 ∷ 104 ∷ 32 ∷ 118 ∷ 101 ∷ 114 ∷ 100 ∷ 105 ∷ 99 ∷ 116 ∷ 115 ∷ 32 ∷ 123 ∷ 10 ∷ 32 ∷ 32 ∷ 114 ∷ 97 ∷ 110 ∷ 107 ∷ 100 ∷ 105 ∷ 114 ∷ 61 ∷ 76 ∷ 82 ∷ 59 ∷ 10 ∷ 32 ∷ 32 ∷ 110 ∷ 111 ∷ 100 ∷ 101 ∷ 32 ∷ 91 ∷ 115 ∷ 116 ∷ 121 ∷ 108 ∷ 101 ∷ 61 ∷ 102 ∷ 105 ∷ 108 ∷ 108 ∷ 101 ∷ 100 ∷ 93 ∷ 59 ∷ 10 ∷ []

-- `}` and a newline.
abbrev pub closing : List ℕ
closing = 125 ∷ 10 ∷ []

-- Two spaces.
abbrev pub indent : List ℕ
indent = 32 ∷ 32 ∷ []

-- ` [label="`, ` -> `.
abbrev pub labelled : List ℕ
labelled = 32 ∷ 91 ∷ 108 ∷ 97 ∷ 98 ∷ 101 ∷ 108 ∷ 61 ∷ 34 ∷ []

abbrev pub arrow : List ℕ
arrow = 32 ∷ 45 ∷ 62 ∷ 32 ∷ []

-- What stands behind the number in a state's label: the verdict's word and its colour.
-- ` open", fillcolor="#ffffff"`
abbrev pub open_look : List ℕ
open_look = 32 ∷ 111 ∷ 112 ∷ 101 ∷ 110 ∷ 34 ∷ 44 ∷ 32 ∷ 102 ∷ 105 ∷ 108 ∷ 108 ∷ 99 ∷ 111 ∷ 108 ∷ 111 ∷ 114 ∷ 61 ∷ 34 ∷ 35 ∷ 102 ∷ 102 ∷ 102 ∷ 102 ∷ 102 ∷ 102 ∷ 34 ∷ []

-- ` unknown", fillcolor="#ffe08a"`
abbrev pub unknown_look : List ℕ
unknown_look = 32 ∷ 117 ∷ 110 ∷ 107 ∷ 110 ∷ 111 ∷ 119 ∷ 110 ∷ 34 ∷ 44 ∷ 32 ∷ 102 ∷ 105 ∷ 108 ∷ 108 ∷ 99 ∷ 111 ∷ 108 ∷ 111 ∷ 114 ∷ 61 ∷ 34 ∷ 35 ∷ 102 ∷ 102 ∷ 101 ∷ 48 ∷ 56 ∷ 97 ∷ 34 ∷ []

-- ` live", fillcolor="#a8dba0"`
abbrev pub live_look : List ℕ
live_look = 32 ∷ 108 ∷ 105 ∷ 118 ∷ 101 ∷ 34 ∷ 44 ∷ 32 ∷ 102 ∷ 105 ∷ 108 ∷ 108 ∷ 99 ∷ 111 ∷ 108 ∷ 111 ∷ 114 ∷ 61 ∷ 34 ∷ 35 ∷ 97 ∷ 56 ∷ 100 ∷ 98 ∷ 97 ∷ 48 ∷ 34 ∷ []

-- ` dead", fillcolor="#f0a8a0"`
abbrev pub dead_look : List ℕ
dead_look = 32 ∷ 100 ∷ 101 ∷ 97 ∷ 100 ∷ 34 ∷ 44 ∷ 32 ∷ 102 ∷ 105 ∷ 108 ∷ 108 ∷ 99 ∷ 111 ∷ 108 ∷ 111 ∷ 114 ∷ 61 ∷ 34 ∷ 35 ∷ 102 ∷ 48 ∷ 97 ∷ 56 ∷ 97 ∷ 48 ∷ 34 ∷ []

-- The end of a state's line, with a double border and without: `, peripheries=2];`, `];`.
abbrev pub double_end : List ℕ
double_end = 44 ∷ 32 ∷ 112 ∷ 101 ∷ 114 ∷ 105 ∷ 112 ∷ 104 ∷ 101 ∷ 114 ∷ 105 ∷ 101 ∷ 115 ∷ 61 ∷ 50 ∷ 93 ∷ 59 ∷ 10 ∷ []

abbrev pub single_end : List ℕ
single_end = 93 ∷ 59 ∷ 10 ∷ []

-- The end of a step's line, behind its key: `", style=bold];`, `"];`.
abbrev pub bold_end : List ℕ
bold_end = 34 ∷ 44 ∷ 32 ∷ 115 ∷ 116 ∷ 121 ∷ 108 ∷ 101 ∷ 61 ∷ 98 ∷ 111 ∷ 108 ∷ 100 ∷ 93 ∷ 59 ∷ 10 ∷ []

abbrev pub plain_end : List ℕ
plain_end = 34 ∷ 93 ∷ 59 ∷ 10 ∷ []

-- Two numbers on a line, with what stands between and behind them.
unfoldable pub line : ℕ → List ℕ → ℕ → List ℕ → List ℕ
line a middle b ending = indent ++ decimal a ++ middle ++ decimal b ++ ending

-- A state's line: `  3 [label="3 open", fillcolor="#ffffff"];`. A terminal state has a double border.
abbrev pub node : ℕ → List ℕ → Bool → List ℕ
node s look terminal = line s labelled s look ++ cond terminal double_end single_end

-- The line of a state with status k. An unseen state has none, nor has one whose byte is no status.
abbrev pub state_text : ℕ → Bool → ℕ → List ℕ
state_text k terminal s =
    cond (eqb k status_open) (node s open_look terminal)
    (cond (eqb k status_unknown) (node s unknown_look terminal) (cond (eqb k status_live) (node s live_look terminal) (cond (eqb k status_dead) (node s dead_look terminal) [])))

-- The first n states, by rising state.
unfoldable pub states_text : ℕ → (ℕ → ℕ) → (ℕ → Bool) → List ℕ
states_text zero status terminal = []
states_text (suc s) status terminal = states_text s status terminal ++ state_text (status s) (terminal s) s

-- A step's line, labelled with its key: `  0 -> 1 [label="7", style=bold];` or `  1 -> 0 [label="7"];`.
abbrev pub step_text : (from to key : ℕ) → Bool → List ℕ
step_text from to key bold = line from arrow to labelled ++ decimal key ++ cond bold bold_end plain_end

-- The first m steps, in list order. A step is bold where it is its source's successor.
unfoldable pub steps_text : ℕ → (from to key successor : ℕ → ℕ) → List ℕ
steps_text zero from to key successor = []
steps_text (suc p) from to key successor = steps_text p from to key successor ++ step_text (from p) (to p) (key p) (eqb (successor (from p)) p)

-- The picture of the first n states and the first m steps.
unfoldable pub drawing : ℕ → ℕ → (status : ℕ → ℕ) → (terminal : ℕ → Bool) → (from to key successor : ℕ → ℕ) → List ℕ
drawing n m status terminal from to key successor = opening ++ states_text n status terminal ++ steps_text m from to key successor ++ closing

-- Read from tables, with any contents. A state past the end of its table is unseen, is not terminal and has no successor.
abbrev pub picture : ℕ → ℕ → (status marks from to key successor : List ℕ) → List ℕ
picture n m status marks from to key successor =
    drawing n m (λ s. get_or status s 0) (λ s. has_terminal (get_or marks s 0)) (λ p. get_or from p 0) (λ p. get_or to p 0) (λ p. get_or key p 0) (λ s. get_or successor s no_successor)

-- The room that a picture may take: 80 bytes for each of 2,048 states and 48 for each of 8,192 steps.
abbrev pub picture_room : ℕ
picture_room = 557056
