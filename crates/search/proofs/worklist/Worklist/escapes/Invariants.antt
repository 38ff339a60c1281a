-- `escapes` releases each queued node with a way out. The invariant: so far it did.
-- Assumes nothing.
use Rattle.adjacency.specs.Adjacencies.{chains_of}
use Rattle.search.specs.Spreading.{out_of}
use Rattle.search.specs.Working.{SameWorklist, SameBounds}
use Rattle.search.proofs.Releasing.{Trying}
use Rattle.search.proofs.worklist.Worklist.escapes.Given as goal

abbrev pub invariant-loop-at : goal.invariant-loop-at
invariant-loop-at l =
    record {
      same : SameWorklist l.initial.self l.self;
      bounds : SameBounds l.initial.self.span l.self.span;
      trying : Trying l.out.n (out_of (chains_of l.out)) l.status l.initial.self.visited.now l.initial.successor l.initial.self.queue.now l.self.visited.now l.successor l.self.queue.now l.at l.self.span.len;
    }
