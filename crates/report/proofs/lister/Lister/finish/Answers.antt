-- `finish` writes the totals where there is room.
-- Assumes nothing.
use mathlib.Core.Path.{◌≡◌, refl}
use native.Mathlib.Omega.{arith}
use lib.ListN.{get_or}
use Rattle.std.proofs.Common.{rules}
use Rattle.tables.specs.Numbers.{least}
use Rattle.tables.proofs.Numbers.{lesser}
use Rattle.reader.specs.Opening.{reader_states}
use Rattle.report.specs.Lister.{totals}
use Rattle.report.proofs.Placing.{totals-room}
use Rattle.report.proofs.lister.Lister.finish.Goals as goal

pub put_totals-requires : goal.put_totals-requires
put_totals-requires c =
    let n = c.args.self.now.reader.engine.graph.n in
    let e : c.min-n.result ≡ least n reader_states = search rules in
    let room = totals-room (least n reader_states) (lesser n reader_states).right (λ s. get_or c.args.tables.now.status.now s 0) in
    rw e (omega (arith, c.if-output-self-lt-TOTALS_ROOM.false))

pub returns-else-output-self-lt-TOTALS_ROOM : goal.returns-else-output-self-lt-TOTALS_ROOM
returns-else-output-self-lt-TOTALS_ROOM c =
    let n = c.args.self.now.reader.engine.graph.n in
    let e : c.min-n.result ≡ least n reader_states = search rules in
    let put = rw e at c.put_totals.ensures in
    let wrote = put.wrote in
    let same = put.same in
    totals c.if-self-len.false (search rules) refl (omega (arith, put.within, put.size)) (search rules)
