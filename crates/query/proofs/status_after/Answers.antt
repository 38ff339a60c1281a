-- `status_after` meets its contract.
-- Assumes nothing.
use Rattle.std.proofs.Common.{rules, Err, ◌≡◌, sym, ◌∙◌, refl, arith}
use Rattle.query.proofs.Asking.{head_of, asks_short, asks_head}
use Rattle.query.proofs.Rounds.{begun, asked_refused, asked_more, asked_long, asked_byte, asked_all}
use Rattle.query.proofs.status_after.Goals as goal

pub returns-in_err-engine-clause-status : goal.returns-in_err-engine-clause-status
returns-in_err-engine-clause-status c =
    let e : c.from_residual.result ≡ Err c.in_err-engine.field-0.0 = search rules in
    rw e (asks_short c.args.bytes.now c.args.state c.open.ensures.opens c.in_err-engine.was)

pub returns-in_err-head_refusal-clause-status : goal.returns-in_err-head_refusal-clause-status
returns-in_err-head_refusal-clause-status c =
    let e : c.from_residual-in_err-head_refusal.result ≡ Err c.in_err-head_refusal.field-0.0 = search rules in
    rw e (asks_head c.args.bytes.now c.args.state c.open.ensures.opens c.in_ok-engine.was (head_of _ _ c.states_of.ensures c.in_err-head_refusal.ensures))

pub loop-round-init : goal.loop-round-init
loop-round-init c = record { still_lent = search rules; asked = begun refl refl refl refl refl }

pub returns-in_err-accepted-clause-status : goal.returns-in_err-accepted-clause-status
returns-in_err-accepted-clause-status c =
    let e : c.from_residual-in_err-accepted.result ≡ Err c.in_err-accepted.field-0.0 = search rules in
    rw e (asked_refused c.args.state c.open.ensures.opens c.in_ok-engine.was (head_of _ _ c.states_of.ensures c.in_ok-head_refusal.ensures) c.start-reader.ensures.splitter c.start-reader.ensures.engine refl c.loop-round.invariant.asked (omega arith) c.advance-turn.ensures.advances (sym c.accepted.ensures ∙ c.in_err-accepted.was))

pub loop-round-preserved : goal.loop-round-preserved
loop-round-preserved c =
    record {
      still_lent = search rules;
      asked = asked_more c.loop-round.invariant.asked (omega arith) c.advance-turn.ensures.advances (sym c.accepted.ensures ∙ c.in_ok-accepted.was) c.part_of-part.ensures;
    }

pub bounds-tables-state : goal.bounds-tables-state
bounds-tables-state c = asked_long c.args.state c.open.ensures.opens c.in_ok-engine.was (head_of _ _ c.states_of.ensures c.in_ok-head_refusal.ensures) c.start-reader.ensures.splitter c.start-reader.ensures.engine refl c.loop-round.invariant.asked (omega arith)

pub returns-clause-byte : goal.returns-clause-byte
returns-clause-byte c = asked_byte c.args.state c.open.ensures.opens c.in_ok-engine.was (head_of _ _ c.states_of.ensures c.in_ok-head_refusal.ensures) c.start-reader.ensures.splitter c.start-reader.ensures.engine refl c.loop-round.invariant.asked (omega arith)

pub returns-clause-status : goal.returns-clause-status
returns-clause-status c = asked_all c.args.state c.open.ensures.opens c.in_ok-engine.was (head_of _ _ c.states_of.ensures c.in_ok-head_refusal.ensures) c.start-reader.ensures.splitter c.start-reader.ensures.engine refl c.loop-round.invariant.asked (omega arith)
