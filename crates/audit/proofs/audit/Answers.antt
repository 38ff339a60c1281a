-- `audit` keeps its promise: a refusal by the tests 1 to 4, or a yes or a no by the facts.
-- Assumes nothing.
use Rattle.std.proofs.Common.{◌≡◌, List, [], ℕ, Err, sym, rules}
use Rattle.tables.specs.Tables.{Tables, tables_of, nodes_of, enough, check_needs, lengths}
use Rattle.tables.specs.Refused.{lent_number}
use Rattle.audit.proofs.Judging.{few, long-enough, says, says_refused}
use Rattle.audit.proofs.audit.Goals as goal
use Rattle.audit.proofs.audit.Goals.{After-lent}

module _ (c : After-lent) where
  -- The tables as they came, with any news list, which the check is not lent.
  abbrev tables : List ℕ → Tables
  tables news =
      let a = c.args in
      tables_of a.status.now a.marks.now a.from.now a.to.now a.key.now a.successor.now news a.in_head.now a.out_head.now a.queue.now a.visited.now a.in_next.now a.out_next.now

  -- What the tests 1 to 4 answered.
  answered : {k : ℕ} → k ≡ lent_number c.args.graph c.enough_to_check.result → (news : List ℕ) → let g = c.args.graph in lent_number g (enough (check_needs g.n (nodes_of g) g.limit (lengths (tables news)))) ≡ k
  answered e news = sym (rw (c.enough_to_check.ensures, c.nodes.ensures) at e)

pub returns-in_err-lent : goal.returns-in_err-lent
returns-in_err-lent c =
    let l = (goal.at.returns-in_err-lent c).After-lent in
    let e : c.from_residual.result ≡ Err c.in_err-lent.field-0.0 = search rules in
    λ news. rw e (says_refused c.args.graph (tables l news) c.in_err-lent.field-0.0 (answered l c.in_err-lent.ensures news))

pub invariant_of-stored : goal.invariant_of-stored
invariant_of-stored c =
    let l = (goal.at.invariant_of-stored c).After-lent in
    let few = few c.args.graph (tables l []) (answered l c.in_ok-lent.ensures []) in
    let long = long-enough c.args.graph (tables l []) (answered l c.in_ok-lent.ensures []) in
    record {
      some_states = few.0;
      n_fits = few.1;
      steps_fit = few.2;
      status_in_bounds = long.status;
      marks_in_bounds = long.marks;
      from_in_bounds = long.from;
      to_in_bounds = long.to;
      key_in_bounds = long.key;
      successor_in_bounds = long.successor;
      in_head_in_bounds = long.in_head;
      out_head_in_bounds = long.out_head;
      in_next_in_bounds = long.in_next;
      out_next_in_bounds = long.out_next;
    }

pub judge-requires : goal.judge-requires
judge-requires c =
    let l = (goal.at.judge-requires c).After-lent in
    let long = long-enough c.args.graph (tables l []) (answered l c.in_ok-lent.ensures []) in
    record { queue_in_bounds = long.queue; visited_in_bounds = long.visited }

pub returns : goal.returns
returns c =
    let l = (goal.at.returns c).After-lent in
    λ news. says c.args.graph (tables l news) (answered l c.in_ok-lent.ensures news) c.judge.result (c.judge.ensures news)
