-- `put_line` meets its contract.
-- Assumes nothing.
use Rattle.std.proofs.Common.{rules}
use native.Mathlib.Omega.{arith}
use mathlib.Core.Path.{refl}
use Rattle.record.proofs.Lending.{put_back}
use Rattle.writer.proofs.filling.put_line.Goals as goal

pub returns : goal.returns
returns c = put_back c.requires c.write_line.ensures refl (search rules) (omega arith) refl
