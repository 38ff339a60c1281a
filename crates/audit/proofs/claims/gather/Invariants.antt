-- `gather` queues and visits the starts. The loop's invariant: those below s are.
-- Assumes nothing.
use Rattle.search.specs.Working.{SameWorklist}
use Rattle.audit.specs.Parts.{Gathered}
use Rattle.audit.specs.Facts.{starts_at}
use Rattle.audit.proofs.claims.gather.Given as goal

abbrev pub invariant-loop-s : goal.invariant-loop-s
invariant-loop-s l =
    record {
      same : SameWorklist l.initial.work l.work;
      gathered : Gathered l.s l.stored.n (starts_at l.verdict l.stored.status.now l.stored.marks.now) l.initial.work.visited.now l.initial.work.queue.now l.work.visited.now l.work.queue.now l.work.span;
    }
