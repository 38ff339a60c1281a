-- `list_fits` answers yes exactly where the list rule holds: next entries, then heads.
-- Assumes nothing.
use Rattle.std.proofs.Common.{arith}
use Rattle.audit.proofs.Chaining.{filled_front, same_fronts, list_ends}
use Rattle.audit.proofs.lists.list_fits.Goals as goal

pub returns-then-nexts_fit : goal.returns-then-nexts_fit
returns-then-nexts_fit c =
    let long = c.requires.last_in_bounds in
    let e = filled_front c.args.arcs.n 0 c.args.last.now long (c.fill.ensures.after (λ y h. h)) in
    list_ends long e c.nexts_fit.ensures c.if-nexts_fit.true (same_fronts _ _ _ c.args.arcs.walkable.heads (omega arith) c.eq.ensures)
