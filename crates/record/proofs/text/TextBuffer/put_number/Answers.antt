-- `put_number` meets its contract.
-- Assumes nothing.
use Rattle.std.proofs.Common.{rules}
use native.Mathlib.Omega.{arith}
use mathlib.Core.Path.{refl}
use Rattle.record.proofs.Lending.{put_back}
use Rattle.record.proofs.text.TextBuffer.put_number.Goals as goal

pub returns : goal.returns
returns c = put_back c.requires c.put_digits.ensures refl (search rules) (omega arith) refl
