-- `is` meets its contract.
-- Assumes nothing.
use Rattle.std.proofs.Common.{◌∙◌}
use Rattle.record.proofs.Sameness.{line_same}
use Rattle.record.proofs.line.Line.is.Goals as goal

pub returns : goal.returns
returns c = c.eq.ensures ∙ line_same c.args.self c.content.result c.args.text c.content.ensures
