-- `put_news` meets its contract.
-- Assumes nothing.
use Prim.Native.Nat.{ℕ}
use mathlib.Core.Path.{◌≡◌}
use native.Mathlib.Omega.{arith}
use lib.ListN.{get_or, take}
use lib.Seq.{take_all}
use Rattle.record.proofs.Putting.{puts_then}
use Rattle.report.proofs.Placing.{news_room, news_next}
use Rattle.report.proofs.text.put_news.Goals as goal

pub loop-s-preserved : goal.loop-s-preserved
loop-s-preserved c =
    let a = c.args in
    let f : ℕ → ℕ = λ s. get_or a.status.now s 0 in
    rw (news_next a.line f a.news.now c.loop-s.s-index c.loop-s-test.true) (puts_then c.loop-s.invariant (rw (c.status_of.ensures, c.from-state.ensures) at c.put_verdict.ensures))

pub returns-clause-within : goal.returns-clause-within
returns-clause-within c =
    let a = c.args in
    let all : take c.loop-s.s-index a.news.now ≡ a.news.now = take_all c.loop-s.s-index a.news.now (omega arith) in
    let put = rw all at c.loop-s.invariant in
    omega (arith, put.wrote.after, news_room a.line (λ s. get_or a.status.now s 0) a.news.now c.requires.line (λ i. omega (arith, (c.type_inv.news i).fits)))
