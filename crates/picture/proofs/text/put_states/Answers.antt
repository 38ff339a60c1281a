-- `put_states` meets its contract.
-- Assumes nothing.
use native.Mathlib.Omega.{arith}
use lib.ListN.{get_or}
use Rattle.tables.specs.Marks.{has_terminal}
use Rattle.record.proofs.Putting.{puts_none, puts_then}
use Rattle.picture.specs.Picture.{states_text}
use Rattle.picture.proofs.Drawing.{states_next, states_fit}
use Rattle.picture.proofs.text.put_states.Goals as goal

pub loop-s-init : goal.loop-s-init
unfolding states_text
loop-s-init c = puts_none c.args.text.now (omega arith)

pub put_state-requires : goal.put_state-requires
put_state-requires c =
    let a = c.args in
    let fits = states_fit (λ i. get_or a.shown.status.now i 0) (λ i. has_terminal (get_or a.shown.marks.now i 0)) a.shown.n c.loop-s.s (omega arith) in
    rw (c.status_of.ensures, c.is_terminal.ensures) (omega (arith, c.loop-s.invariant.wrote.after, c.loop-s.invariant.size))

pub loop-s-preserved : goal.loop-s-preserved
loop-s-preserved c =
    let a = c.args in
    rw (states_next (λ i. get_or a.shown.status.now i 0) (λ i. has_terminal (get_or a.shown.marks.now i 0)) c.loop-s.s)
    (puts_then c.loop-s.invariant (rw (c.status_of.ensures, c.is_terminal.ensures) at c.put_state.ensures))
