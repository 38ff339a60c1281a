-- `write_line` meets its contract.
-- Assumes nothing.
use Rattle.std.proofs.Common.{rules}
use mathlib.Core.Path.{refl}
use Rattle.record.proofs.Lending.{put_front}
use Rattle.writer.proofs.filling.write_line.Goals as goal

pub returns : goal.returns
returns c =
    let same = c.put_update.ensures.same in
    put_front c.put_update.ensures refl (search rules)
