-- What a call that puts text does to a lent buffer.
-- Assumes nothing.
use Rattle.std.specs.Prelude.{◌≡◌, List, ℕ, ◌≤◌, length}
use Rattle.record.specs.declared.text.TextBuffer.{TextBuffer}
use Rattle.record.specs.Text.{WroteAt}

-- The text was written at the place, which is now the one after it; every other byte is as it was.
pub record Puts (text : List ℕ) (b b' : TextBuffer) : Type 0 where
  pub wrote : WroteAt b.end text b.buf.now b'.buf.now b'.end
  pub size : length b'.buf.now ≡ length b.buf.now
  pub within : b'.end ≤ length b'.buf.now
  -- It is the same buffer, so that what is written is its lender's.
  pub same : b'.buf.ghost_name ≡ b.buf.ghost_name
