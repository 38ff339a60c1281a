-- `update_at` meets its contract.
-- Assumes nothing.
use mathlib.Core.Path.{sym}
use native.Mathlib.Omega.{arith}
use Rattle.enumeration.proofs.Places.{step-at, terminal_at, close_at}
use Rattle.enumeration.proofs.ranks.update_at.Goals as goal

pub returns-in-0-to-3 : goal.returns-in-0-to-3
returns-in-0-to-3 c = sym (step-at c.args.place (omega arith))

pub returns-in-4-to-5 : goal.returns-in-4-to-5
returns-in-4-to-5 c = sym (terminal_at c.args.place (omega arith) (omega arith))

pub returns-in_default : goal.returns-in_default
returns-in_default c = sym (close_at c.args.place (omega arith))
