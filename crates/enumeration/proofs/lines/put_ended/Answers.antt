-- `put_ended` meets its contract.
-- Assumes nothing.
use mathlib.Core.Path.{◌∙◌}
use lib.ListN.{length-set}
use Rattle.record.specs.declared.line.Form.TheVariants.{Keyed}
use Rattle.record.specs.Text.{text}
use Rattle.enumeration.proofs.Texts.{placed_last}
use Rattle.enumeration.proofs.lines.put_ended.Goals as goal

pub returns : goal.returns
returns c =
    let a = c.args in
    let w = c.put_update.ensures in
    record {
      wrote = placed_last a.line.now.end (text Keyed a.update) a.line.now.buf.now c.put_update.new.self.buf.now c.put_update.new.self.end 10 a.last w.wrote c.requires;
      size = length-set _ _ _ ∙ w.size;
      within = rw length-set w.within;
      same = w.same;
    }
