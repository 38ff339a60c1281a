-- Inner contracts: what the parts of the listing do.
-- Assumes nothing.
use Rattle.std.specs.Prelude.{◌≡◌, Bool, false, map, ℕ, ◌+◌, ◌*◌, ◌-◌, ◌/◌, ◌%◌, ◌≤◌, eqb, length}
use Rattle.gid.specs.declared.Update.{Update}
use Rattle.gid.specs.declared.Update.TheVariants.{Step, Terminal, Close}
use Rattle.record.specs.declared.text.TextBuffer.{TextBuffer}
use Rattle.record.specs.Putting.{Puts}
use Rattle.enumeration.specs.Ranking.{update_at, unranked, legal_ranks}
use Rattle.enumeration.specs.Lines.{histories_text}

-- The newest update of the history of a rank above 0, and the rank of the history before it.
abbrev pub newest_of : ℕ → Update
newest_of i = update_at ((i - 1) % 8)

abbrev pub older_of : ℕ → ℕ
older_of i = (i - 1) / 8

-- Whether an update closes a state.
abbrev pub is_close_of : Update → ℕ → Bool
is_close_of (Step e) s = false
is_close_of (Terminal u) s = false
is_close_of (Close u) s = eqb u s

-- The most bytes that a line has.
abbrev pub history_room : ℕ
history_room = 27

-- The legal histories of the ranks below m are listed, k of them.
pub record EnumeratesBelow (m : ℕ) (b b' : TextBuffer) (k : ℕ) : Type 0 where
  pub puts : Puts (histories_text (map unranked (legal_ranks m))) b b'
  pub counted : k ≡ length (legal_ranks m)
  pub room : b'.end ≤ b.end + history_room * m
