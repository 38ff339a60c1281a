-- `Engine::make` keeps the promise of `Engine::update`: a refusal by one of the tests, an update that comes again, or one that is listed, marked and judged.
-- Assumes nothing.
use Rattle.std.proofs.Common.{rules, Err}
use mathlib.Core.Path.{◌≡◌, refl, sym, ap, ◌∙◌}
use mathlib.Core.Bool.{Bool}
use Prim.Native.Nat.{ℕ}
use lib.ListN.{length}
use Rattle.gid.specs.declared.Update.{Update}
use Rattle.tables.specs.declared.Graph.{Graph}
use Rattle.tables.specs.declared.lengths.Lengths.{Lengths}
use Rattle.tables.specs.Lending.{contents}
use Rattle.tables.specs.Tables.{Tables, nodes_of, lengths, enough, needs, long_enough}
use Rattle.tables.specs.Refused.{is_full, lent_number, sent_number, place_number}
use Rattle.engine.specs.Done.{Room}
use Rattle.engine.specs.Preparing.{InRange, Storable}
use Rattle.engine.proofs.Acting.{in_range_wider}
use Rattle.engine.proofs.Promising.{room_of, passed_of, storable_of, lookable, listable, chainable, walkable, lent_kept, sent_kept, full_kept, again_kept, done_of, done_kept}
use Rattle.engine.proofs.Engine.make.Goals as goal
use Rattle.engine.proofs.Engine.make.Goals.{In_ok-lent}

-- What the tests 1 to 4 answered, of the tables as they came.
answered : (g : Graph) (t : Tables) {l : Lengths} {n : ℕ} {b : Bool} {k : ℕ} → l ≡ lengths t → n ≡ nodes_of g → b ≡ enough (needs g.n n g.limit l) → k ≡ lent_number g b → lent_number g (long_enough g t) ≡ k
answered g t e f q z = sym (rw (q, e, f) at z)

-- Where they found nothing.
module _ (c : In_ok-lent) where
  passed : lent_number c.args.self.now.graph (long_enough c.args.self.now.graph (contents c.args.tables.now)) ≡ 0
  passed = answered _ _ c.lengths-lengths.ensures c.nodes.ensures c.enough.ensures c.in_ok-lent.ensures

  room : let g = c.args.self.now.graph in Room g.n g.n g.limit g.steps (contents c.args.tables.now)
  room = room_of _ _ passed

-- What the tests 5, 14 and 6 leave, and the test 9.
ranged : (g : Graph) (t : Tables) (x : Update) → 0 ≡ sent_number g t.marks x → InRange g.n x
ranged g t x s = (passed_of g t.marks x (sym s)).0

storable : (g : Graph) (t : Tables) (x : Update) → Room g.n g.n g.limit g.steps t → 0 ≡ sent_number g t.marks x → 0 ≡ place_number (is_full g) x → Storable g.n g.limit g.steps x
storable g t x r s p = let q = passed_of g t.marks x (sym s) in storable_of g x r.steps q.0 q.1 (sym p)

pub returns-in_err-lent-clause-promise : goal.returns-in_err-lent-clause-promise
returns-in_err-lent-clause-promise c =
    let e : c.from_residual.result ≡ Err c.in_err-lent.field-0.0 = search rules in
    rw e (lent_kept c.args.self.now.graph c.args.update (contents c.args.tables.now) c.in_err-lent.field-0.0 (answered _ _ c.lengths-lengths.ensures c.nodes.ensures c.enough.ensures c.in_err-lent.ensures))

pub sent-requires : goal.sent-requires
sent-requires c = (room (goal.at.sent-requires c).In_ok-lent).long.marks

pub returns-in_err-sent-clause-promise : goal.returns-in_err-sent-clause-promise
returns-in_err-sent-clause-promise c =
    let e : c.from_residual-in_err-sent.result ≡ Err c.in_err-sent.field-0.0 = search rules in
    rw e (sent_kept c.args.self.now.graph c.args.update (contents c.args.tables.now) (passed (goal.at.returns-in_err-sent-clause-promise c).In_ok-lent) c.in_err-sent.field-0.0 (sym c.in_err-sent.ensures))

pub invariant_of-steps : goal.invariant_of-steps
invariant_of-steps c =
    let t = contents c.args.tables.now in
    let l = (lookable _ c.args.update t (room (goal.at.invariant_of-steps c).In_ok-lent) (ranged _ t c.args.update c.in_ok-sent.ensures)).1 in
    record { from_in_bounds = l.0; to_in_bounds = l.1; key_in_bounds = l.2 }

pub invariant_of-out : goal.invariant_of-out
invariant_of-out c =
    let t = contents c.args.tables.now in
    record { walkable = (lookable _ c.args.update t (room (goal.at.invariant_of-out c).In_ok-lent) (ranged _ t c.args.update c.in_ok-sent.ensures)).2 }

pub comes_again-requires : goal.comes_again-requires
comes_again-requires c =
    let t = contents c.args.tables.now in
    let r = ranged _ t c.args.update c.in_ok-sent.ensures in
    let l = (lookable _ c.args.update t (room (goal.at.comes_again-requires c).In_ok-lent) r).0 in
    record { states_fit = l.0; in_range = r; marks_in_bounds = l.1; same_steps = refl }

pub name_again-requires : goal.name_again-requires
name_again-requires c =
    let t = contents c.args.tables.now in
    let r = (room (goal.at.name_again-requires c).In_ok-lent).long in
    let h = ranged _ t c.args.update c.in_ok-sent.ensures in
    record { status_in_bounds = in_range_wider _ (length t.status) c.args.update r.status h; marks_in_bounds = in_range_wider _ (length t.marks) c.args.update r.marks h }

pub returns-then-comes_again-clause-promise : goal.returns-then-comes_again-clause-promise
returns-then-comes_again-clause-promise c =
    let t = contents c.args.tables.now in
    rw (c.name_again.ensures.named, c.name_again.ensures.marked)
    (again_kept _ c.args.update t (passed (goal.at.returns-then-comes_again-clause-promise c).In_ok-lent) (sym c.in_ok-sent.ensures) (sym c.comes_again.ensures ∙ c.if-comes_again.true))

pub returns-in_err-has_place-clause-promise : goal.returns-in_err-has_place-clause-promise
returns-in_err-has_place-clause-promise c =
    let t = contents c.args.tables.now in
    let e : c.from_residual-in_err-has_place.result ≡ Err c.in_err-has_place.field-0.0 = search rules in
    rw e (full_kept _ c.args.update t (passed (goal.at.returns-in_err-has_place-clause-promise c).In_ok-lent) (sym c.in_ok-sent.ensures) c.in_err-has_place.field-0.0 (sym c.comes_again.ensures ∙ c.if-comes_again.false) (sym c.in_err-has_place.ensures))

pub list-requires : goal.list-requires
list-requires c =
    let t = contents c.args.tables.now in
    let r = room (goal.at.list-requires c).In_ok-lent in
    let l = listable r c.args.update (storable _ t c.args.update r c.in_ok-sent.ensures c.in_ok-has_place.ensures) in
    record { states_fit = l.0.0; key_fits = l.0.1; from_free = l.1.0; to_free = l.1.1; key_free = l.1.2 }

pub chain-requires : goal.chain-requires
chain-requires c =
    let t = contents c.args.tables.now in
    let r = room (goal.at.chain-requires c).In_ok-lent in
    let l = chainable r c.args.update (storable _ t c.args.update r c.in_ok-sent.ensures c.in_ok-has_place.ensures) in
    record { in_head_in_bounds = l.0.0; out_head_in_bounds = l.0.1; in_next_free = l.1.0; out_next_free = l.1.1; place_fits = l.2 }

pub name-requires : goal.name-requires
name-requires c =
    let t = contents c.args.tables.now in
    in_range_wider _ (length t.status) c.args.update (room (goal.at.name-requires c).In_ok-lent).long.status (ranged _ t c.args.update c.in_ok-sent.ensures)

pub mark-requires : goal.mark-requires
mark-requires c =
    let t = contents c.args.tables.now in
    in_range_wider _ (length t.marks) c.args.update (room (goal.at.mark-requires c).In_ok-lent).long.marks (ranged _ t c.args.update c.in_ok-sent.ensures)

pub invariant_of-arcs : goal.invariant_of-arcs
invariant_of-arcs c =
    let t = contents c.args.tables.now in
    let r = room (goal.at.invariant_of-arcs c).In_ok-lent in
    let l = c.list in
    let k = c.chain in
    record { walkable = walkable r c.args.update (storable _ t c.args.update r c.in_ok-sent.ensures c.in_ok-has_place.ensures) t.from t.in_head t.in_next l.new.from k.new.in_head k.new.in_next r.long.from r.long.in_head r.long.in_next l.auto.from k.auto.in_head k.auto.in_next (ap (λ (g : Graph). g.steps) c.after-self.ensures) }

pub invariant_of-arcs-2 : goal.invariant_of-arcs-2
invariant_of-arcs-2 c =
    let t = contents c.args.tables.now in
    let r = room (goal.at.invariant_of-arcs-2 c).In_ok-lent in
    let l = c.list in
    let k = c.chain in
    record { walkable = walkable r c.args.update (storable _ t c.args.update r c.in_ok-sent.ensures c.in_ok-has_place.ensures) t.to t.out_head t.out_next l.new.to k.new.out_head k.new.out_next r.long.to r.long.out_head r.long.out_next l.auto.to k.auto.out_head k.auto.out_next (ap (λ (g : Graph). g.steps) c.after-self.ensures) }

pub judge-requires : goal.judge-requires
judge-requires c =
    let r = room (goal.at.judge-requires c).In_ok-lent in
    record {
      in_range = ranged _ (contents c.args.tables.now) c.args.update c.in_ok-sent.ensures;
      n_fits = r.states;
      status_in_bounds = rw c.name.auto.status r.long.status;
      successor_in_bounds = r.long.successor;
      news_in_bounds = r.news;
      queue_in_bounds = r.long.queue;
      visited_in_bounds = r.long.visited;
    }

pub returns-clause-promise : goal.returns-clause-promise
returns-clause-promise c =
    let t = contents c.args.tables.now in
    let e = c.after-self.ensures in
    rw e
    (done_kept _ c.args.update t (passed (goal.at.returns-clause-promise c).In_ok-lent) (sym c.in_ok-sent.ensures) (sym c.comes_again.ensures ∙ c.if-comes_again.false) (sym c.in_ok-has_place.ensures)
    (done_of t _ c.args.update c.mark.ensures (record { sources = c.list.ensures.sources; targets = c.list.ensures.targets; keys = c.list.ensures.keys; chained = c.chain.ensures }) refl c.name.ensures (rw e at c.judge.ensures)))
