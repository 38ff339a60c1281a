-- The texts of the picture: one more at a time, and the room that they take.
-- Assumes nothing.
use mathlib.Core.Path.{◌≡◌, refl}
use mathlib.Core.Bool.{Bool, true, false, cond}
use mathlib.Core.List.{List, [], ◌∷◌, ◌++◌}
use Prim.Native.Nat.{ℕ, zero, suc, ◌+◌, ◌*◌, ◌≤◌, ◌<◌}
use native.Mathlib.Omega.{arith}
use native.Mathlib.Decide.{dec_lt}
use native.Mathlib.Numerals.{add-one}
use lib.Dec.{eqb}
use lib.ListN.{length, get_or, length-append}
use Rattle.gid.specs.Statuses.{status_open, status_unknown, status_live, status_dead}
use Rattle.record.specs.Text.{decimal}
use Rattle.record.proofs.Decimals.{five_digits}
use Rattle.tables.specs.Marks.{has_terminal}
use Rattle.picture.specs.declared.shown.Shown.{Shown}
use Rattle.picture.specs.Shown.{state_lines}
use Rattle.picture.specs.Picture.{indent, labelled, arrow, open_look, unknown_look, live_look, dead_look, double_end, single_end, bold_end, plain_end, line, node, state_text, states_text, step_text, steps_text}

-- what stands in a list does not depend on what is read past its end
pub read_same : (l : List ℕ) (i a b : ℕ) → i < length l → get_or l i a ≡ get_or l i b
read_same [] i a b h = absurd (omega arith)
read_same (x ∷ l) zero a b h = refl
read_same (x ∷ l) (suc i) a b h = read_same l i a b (omega arith)

-- two numbers on a line
pub line_length : (a : ℕ) (middle : List ℕ) (b : ℕ) (ending : List ℕ) → length (line a middle b ending) ≡ 2 + length (decimal a) + length middle + length (decimal b) + length ending
unfolding line
line_length a middle b ending =
    omega (arith, length-append indent (decimal a), length-append (indent ++ decimal a) middle, length-append (indent ++ decimal a ++ middle) (decimal b), length-append (indent ++ decimal a ++ middle ++ decimal b) ending)

line_room : (a : ℕ) (middle : List ℕ) (b : ℕ) (ending : List ℕ) → a < 100000 → b < 100000 → length (line a middle b ending) ≤ length middle + length ending + 12
line_room a middle b ending p q = omega (arith, line_length a middle b ending, five_digits a p, five_digits b q)

-- a state's line
pub node_length : (s : ℕ) (look : List ℕ) (terminal : Bool) → length (node s look terminal) ≡ length (line s labelled s look) + length (cond terminal double_end single_end)
node_length s look terminal = length-append (line s labelled s look) (cond terminal double_end single_end)

end_room : (b : Bool) → length (cond b double_end single_end) ≤ 18
end_room true = omega arith
end_room false = omega arith

node_room : (s : ℕ) (look : List ℕ) (terminal : Bool) → s < 100000 → length (node s look terminal) ≤ length look + 39
node_room s look terminal h = omega (arith, node_length s look terminal, line_room s labelled s look h h, end_room terminal)

state_room : (k : ℕ) (terminal : Bool) (s : ℕ) → s < 100000 → length (state_text k terminal s) ≤ 69
state_room k terminal s h = by (eqb k status_open) (eqb k status_unknown) (eqb k status_live) (eqb k status_dead)
  where
    by : (o u l d : Bool) → length (cond o (node s open_look terminal) (cond u (node s unknown_look terminal) (cond l (node s live_look terminal) (cond d (node s dead_look terminal) [])))) ≤ 69
    by true u l d = omega (arith, node_room s open_look terminal h)
    by false true l d = omega (arith, node_room s unknown_look terminal h)
    by false false true d = omega (arith, node_room s live_look terminal h)
    by false false false true = omega (arith, node_room s dead_look terminal h)
    by false false false false = omega arith

-- the lines of one state more
module _ (f : ℕ → ℕ) (marked : ℕ → Bool) where
  pub states_next : (s : ℕ) → states_text (s + 1) f marked ≡ states_text s f marked ++ state_text (f s) (marked s) s
  unfolding states_text
  states_next s = rw (add-one s) refl

  pub states_fit : (n s : ℕ) → s < n → length (states_text s f marked) + length (state_text (f s) (marked s) s) ≤ length (states_text n f marked)
  unfolding states_text
  states_fit zero s h = absurd (omega arith)
  states_fit (suc n) s h = by (dec_lt s n) (states_fit n s) (length-append (states_text n f marked) (state_text (f n) (marked n) n))
    where
      by : Dec (s < n) → (s < n → length (states_text s f marked) + length (state_text (f s) (marked s) s) ≤ length (states_text n f marked)) → length (states_text n f marked ++ state_text (f n) (marked n) n) ≡ length (states_text n f marked) + length (state_text (f n) (marked n) n) → length (states_text s f marked) + length (state_text (f s) (marked s) s) ≤ length (states_text n f marked ++ state_text (f n) (marked n) n)
      by (yes k) before e = omega (arith, before k)
      by (no k) before e = let z : s ≡ n = omega arith in rw z (omega arith)

  states_room : (n : ℕ) → n ≤ 100000 → length (states_text n f marked) ≤ 69 * n
  unfolding states_text
  states_room zero h = omega arith
  states_room (suc n) h = omega (arith, states_room n (omega arith), state_room (f n) (marked n) n (omega arith), length-append (states_text n f marked) (state_text (f n) (marked n) n))

-- a step's line
pub step_length : (from to key : ℕ) (bold : Bool) → length (step_text from to key bold) ≡ length (line from arrow to labelled) + length (decimal key) + length (cond bold bold_end plain_end)
step_length from to key bold = omega (arith, length-append (line from arrow to labelled) (decimal key), length-append (line from arrow to labelled ++ decimal key) (cond bold bold_end plain_end))

style_room : (b : Bool) → length (cond b bold_end plain_end) ≤ 16
style_room true = omega arith
style_room false = omega arith

pub step_short : (from to key : ℕ) (bold : Bool) → from < 100000 → to < 100000 → key < 100000 → length (step_text from to key bold) ≤ 46
step_short from to key bold p q k = omega (arith, step_length from to key bold, line_room from arrow to labelled p q, five_digits key k, style_room bold)

-- the lines of one step more
module _ (from to key successor : ℕ → ℕ) where
  abbrev step : ℕ → List ℕ
  step p = step_text (from p) (to p) (key p) (eqb (successor (from p)) p)

  pub steps_next : (p : ℕ) → steps_text (p + 1) from to key successor ≡ steps_text p from to key successor ++ step p
  unfolding steps_text
  steps_next p = rw (add-one p) refl

-- the lines of the states that a picture shows
pub shown_room : (s : Shown) → length (state_lines s) ≤ 69 * s.n
shown_room s = states_room (λ i. get_or s.status.now i 0) (λ i. has_terminal (get_or s.marks.now i 0)) s.n (omega (arith, s.few_states))
