-- `open` tests the lengths and makes the tables fresh.
-- Assumes nothing.
use Rattle.std.proofs.Common.{rules, Err}
use mathlib.Core.Path.{◌≡◌}
use Rattle.tables.specs.Lending.{contents}
use Rattle.reader.proofs.Opening.{open_tested, open_long, opens_refused, opens_ready}
use Rattle.reader.proofs.start.open.Goals as goal

pub returns-in_err-lent-clause-opens : goal.returns-in_err-lent-clause-opens
returns-in_err-lent-clause-opens c =
    let t = contents c.args.tables.now in
    let e : c.from_residual.result ≡ Err c.in_err-lent.field-0.0 = search rules in
    rw e (opens_refused c.args.limit t c.in_err-lent.field-0.0 (open_tested c.args.limit t c.lengths-lengths.ensures c.nodes.ensures c.enough.ensures c.in_err-lent.ensures))

pub freshen-requires : goal.freshen-requires
freshen-requires c = open_long c.args.limit (contents c.args.tables.now) c.lengths-lengths.ensures c.nodes.ensures c.enough.ensures c.in_ok-lent.ensures

pub returns-clause-opens : goal.returns-clause-opens
returns-clause-opens c =
    let t = contents c.args.tables.now in
    opens_ready c.args.limit t (open_tested c.args.limit t c.lengths-lengths.ensures c.nodes.ensures c.enough.ensures c.in_ok-lent.ensures) c.freshen.ensures.fresh
