-- `spread` visits exactly the reached nodes. The loop's invariant: the sources of the nodes in front of `at` in the queue have been offered. The measure is what is left of n.
-- Assumes nothing.
use mathlib.Core.Path.{refl}
use native.Mathlib.Omega.{arith}
use Rattle.search.proofs.Spreading.{rounds_none, rounds_more, spread_ends}
use Rattle.std.proofs.Common.{rules}
use Rattle.search.proofs.worklist.Worklist.spread.Goals as goal

pub loop-at-init : goal.loop-at-init
loop-at-init g c = record { same = record { n = refl; queue = refl; visited = refl }; rounds = λ ok t. rounds_none c.requires.queued }

pub loop-at-preserved : goal.loop-at-preserved
loop-at-preserved g c =
    let e = c.offer_sources.ensures in
    record {
      same = search rules;
      rounds = λ ok t. rounds_more (c.loop-at.invariant.rounds ok t) c.loop-at-test.true c.from-x.ensures (e.offers ok t) (e.sources_visited ok t);
    }

pub returns-clause-spread : goal.returns-clause-spread
returns-clause-spread g c = λ ok t. let r = c.loop-at.invariant.rounds ok t in spread_ends ok r.sofar r.room (λ j h. r.closed j (omega (arith, c.loop-at-test.false)))
