-- `draw` reads the lines of a piece, and asks for another or draws.
-- Assumes nothing.
use native.Mathlib.Omega.{arith}
use Rattle.std.proofs.Common.{rules}
use Rattle.picture.proofs.Tasks.{draws_on, draws_out}
use Rattle.picture.proofs.drawer.Drawer.draw.Goals as goal

pub returns-then-more-clause-draws : goal.returns-then-more-clause-draws
returns-then-more-clause-draws c = draws_on c.part_of-part.ensures c.advance.ensures.advances (search rules)

pub returns-else-more-clause-draws : goal.returns-else-more-clause-draws
returns-else-more-clause-draws c =
    let put = c.put_tables.ensures in
    let wrote = put.wrote in
    let same = put.same in
    draws_out c.part_of-part.ensures c.advance.ensures.advances (search rules) (search rules) (omega (arith, put.within, put.size))
