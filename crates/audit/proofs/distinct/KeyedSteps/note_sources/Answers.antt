-- `note_sources` notes the steps into v.
-- Assumes nothing.
use Rattle.audit.proofs.Differing.{noting_first, noting_next, noting_stops}
use Rattle.audit.proofs.distinct.KeyedSteps.note_sources.Goals as goal

pub loop-p-init : goal.loop-p-init
loop-p-init c = record { can_next = tt; is_finite = tt; noting = noting_first c.requires.blank (rw c.into_iter-p-iterator.ensures.into_iter_gives c.steps_at-p-items.ensures) }

pub loop-p-preserved : goal.loop-p-preserved
loop-p-preserved c = record { can_next = tt; is_finite = tt; noting = noting_next c.loop-p.invariant.noting c.in-Some.p c.in-Some.ensures.steps c.args.self.ends_below c.requires.seen_in_bounds c.from.ensures c.note.ensures c.if-not-note.false }

pub returns-then-not-note : goal.returns-then-not-note
returns-then-not-note c = noting_stops c.loop-p.invariant.noting c.in-Some.p c.in-Some.ensures.steps c.args.self.ends_below c.from.ensures c.note.ensures c.if-not-note.true
