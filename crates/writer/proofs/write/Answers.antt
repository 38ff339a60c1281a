-- `write` meets its contract: where the tests 1 to 4 pass, the record is that of the entries that are lent on.
-- Assumes nothing.
use Rattle.writer.proofs.Deciding.{Whole, whole, cut, lent_refused, past_end, too_short, fits}
use Rattle.writer.specs.Answering.{all_long}
use Rattle.tables.specs.Refused.{lent_number}
use Rattle.std.proofs.lemmas.List.{length-take-le}
use native.Mathlib.Omega.{arith}
use mathlib.Core.Path.{◌≡◌, sym, ◌∙◌, ap}
use Rattle.std.proofs.Common.{Err, rules}
use Rattle.std.proofs.Common.{rules}
use Rattle.writer.proofs.write.Goals as goal
use Rattle.writer.proofs.write.Goals.{In_ok-lent, then-buf-at-via-then-buf-at, then-buf-at-via-else-buf-at+then-buf-at-2}

-- Where the tests 1 to 4 pass.
module _ (c : In_ok-lent) where
  passes : lent_number c.args.graph (all_long c.args.graph c.args.marks.now c.args.from.now c.args.to.now c.args.key.now) ≡ 0
  passes = sym (c.in_ok-lent.ensures ∙ ap (lent_number c.args.graph) c.all_long.ensures)

  left : Whole c.args.graph c.args.marks.now c.args.from.now c.args.to.now c.args.key.now
  left = whole c.args.graph c.args.marks.now c.args.from.now c.args.to.now c.args.key.now passes

pub returns-in_err-lent : goal.returns-in_err-lent
returns-in_err-lent c =
    let e : c.from_residual.result ≡ Err c.in_err-lent.field-0.0 = search rules in
    rw e (lent_refused c.in_err-lent.field-0.0 (sym (c.in_err-lent.ensures ∙ ap (lent_number c.args.graph) c.all_long.ensures)))

pub slice_bounds-source-end : goal.slice_bounds-source-end
slice_bounds-source-end c = sym (length-take-le c.args.graph.n c.args.marks.now (left c).states)

pub slice_bounds-source-end-2 : goal.slice_bounds-source-end-2
slice_bounds-source-end-2 c = sym (length-take-le c.args.graph.steps c.args.from.now (left c).sources)

pub slice_bounds-source-end-3 : goal.slice_bounds-source-end-3
slice_bounds-source-end-3 c = sym (length-take-le c.args.graph.steps c.args.to.now (left c).targets)

pub slice_bounds-source-end-4 : goal.slice_bounds-source-end-4
slice_bounds-source-end-4 c = sym (length-take-le c.args.graph.steps c.args.key.now (left c).keys)

pub invariant_of-source : goal.invariant_of-source
invariant_of-source c =
    let w = left (goal.at.invariant_of-source c).In_ok-lent in
    let n = length-take-le c.args.graph.n c.args.marks.now w.states in
    let m = length-take-le c.args.graph.steps c.args.from.now w.sources in
    record {
      few_states = omega (arith, w.few_states);
      few_steps = omega (arith, w.few_steps);
      a_target_each = length-take-le c.args.graph.steps c.args.to.now w.targets ∙ sym m;
      a_key_each = length-take-le c.args.graph.steps c.args.key.now w.keys ∙ sym m;
    }

pub returns-then-buf-at : goal.returns-then-buf-at
returns-then-buf-at c =
    let e = (goal.at.returns-then-buf-at c).In_ok-lent in
    elim c.then-buf-at.branch [
      | then-buf-at-via-then-buf-at w ↦ past_end (passes e) w.if-buf-at.true
      | then-buf-at-via-else-buf-at+then-buf-at-2 w ↦
          let size = rw (cut (left e)) at w.record_size.ensures in
          too_short (passes e) w.if-buf-at.false (omega (arith, w.if-buf-at-2.true))
    ]

pub returns : goal.returns
returns c =
    let e = (goal.at.returns c).In_ok-lent in
    let size = rw (cut (left e)) at c.record_size.ensures in
    let wrote = rw (cut (left e)) at c.put_record.ensures.wrote in
    let same = c.put_record.ensures.same in
    fits (passes e) c.if-buf-at.false (omega (arith, c.if-buf-at-2.false)) (search rules)
