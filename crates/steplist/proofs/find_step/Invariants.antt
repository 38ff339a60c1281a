-- `find_step` answers the first place of an equal step. The loop's invariant: none is before the block that starts at start. The measure is the number of places left.
-- Assumes nothing.
use Rattle.std.proofs.Common.{◌≡◌, ◌≤◌, ◌-◌}
use Rattle.std.proofs.Math.Option.{none}
use Rattle.tables.specs.Listing.{first_place}
use Rattle.steplist.proofs.find_step.Given as goal

abbrev pub invariant-loop-start : goal.invariant-loop-start
invariant-loop-start l = record { within : l.start ≤ l.steps.len; none_before : first_place l.start l.steps.from.now l.steps.to.now l.steps.key.now l.edge ≡ none }

abbrev pub decreases-loop-start : goal.decreases-loop-start
decreases-loop-start l = l.steps.len - l.start
