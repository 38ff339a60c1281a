-- The listing of the small histories, as bytes, and what the call that writes it does. Document 02, #114: "as one line: its record lines as in #101, joined by commas, a colon, and the two final status digits."
-- Assumes nothing.
use Rattle.std.specs.Prelude.{◌≡◌, List, [], ◌∷◌, ◌++◌, ℕ, ◌+◌, ◌<◌, ◌≤◌, length}
use Rattle.gid.specs.Histories.{History}
use Rattle.gid.specs.Statuses.{status}
use Rattle.record.specs.declared.line.Form.TheVariants.{Keyed}
use Rattle.record.specs.Text.{decimal, text, WroteAt}
use Rattle.enumeration.specs.Ranking.{histories}
use Rattle.enumeration.specs.Counting.{history_count}

-- The record lines of a history, from the oldest, each with a comma behind it.
unfoldable pub comma_terminated : History → List ℕ
comma_terminated [] = []
comma_terminated (x ∷ h) = comma_terminated h ++ (text Keyed x ++ (44 ∷ []))

-- "its record lines as in #101, joined by commas": all but the newest have a comma behind them.
abbrev pub comma_separated : History → List ℕ
comma_separated [] = []
comma_separated (x ∷ h) = comma_terminated h ++ text Keyed x

-- The digit of a state's status after a history.
abbrev pub status_digit : History → ℕ → ℕ
status_digit h s = 48 + status h s

unfoldable pub history_text : History → List ℕ
history_text h = comma_separated h ++ (58 ∷ status_digit h 0 ∷ status_digit h 1 ∷ 10 ∷ [])

unfoldable pub histories_text : List History → List ℕ
histories_text [] = []
histories_text (h ∷ l) = history_text h ++ histories_text l

-- The lines, then "the count printed at the end".
unfoldable pub enumeration_text : List ℕ
enumeration_text = histories_text histories ++ (decimal history_count ++ (10 ∷ []))

-- The output's least length.
abbrev pub enumeration_room : ℕ
enumeration_room = 16384

-- An output that is too short stays as it was. Else the listing stands at its front, every byte behind it stays, and its length is answered.
pub record Enumerates (output output' : List ℕ) (r : ℕ) : Type 0 where
  pub short : length output < enumeration_room → (output' ≡ output) × (r ≡ 0)
  pub whole : enumeration_room ≤ length output → WroteAt 0 enumeration_text output output' r
