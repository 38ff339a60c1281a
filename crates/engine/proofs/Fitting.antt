-- An update that is done on tables that fit for a history leaves tables that fit for the history with it, and the news is the definition's.
-- Assumes nothing.
use mathlib.Core.Path.{◌≡◌, refl, sym}
use mathlib.Core.List.{List, ◌∷◌}
use Prim.Native.Nat.{ℕ, ◌+◌, ◌<◌, ◌≤◌}
use native.Mathlib.Omega.{arith}
use lib.ListN.{get_or, take}
use Rattle.gid.specs.declared.Edge.{Edge}
use Rattle.gid.specs.declared.Update.{Update}
use Rattle.gid.specs.declared.Update.TheVariants.{Step, Terminal, Close}
use Rattle.gid.specs.Updates.{source}
use Rattle.gid.specs.Histories.{History, IsClosed, is_in, added, step_of, listed}
use Rattle.gid.specs.News.{news}
use Rattle.gid.specs.Systems.{ListedAt}
use Rattle.gid.proofs.Chains.{same_rule}
use Rattle.gid.proofs.Tests.{step_close, terminal_close}
use Rattle.tables.specs.declared.Graph.{Graph}
use Rattle.tables.specs.Tables.{Tables, nodes_of}
use Rattle.tables.specs.Listing.{graph_after}
use Rattle.tables.specs.Fitting.{StepAt, Consistent}
use Rattle.tables.proofs.Listed.{arcs_listed}
use Rattle.search.specs.Spreading.{chains, into, out_of}
use Rattle.search.specs.Escaping.{toward}
use Rattle.engine.specs.Judging.{Judged, quiet, revived, nears, swept, quickened, endangered}
use Rattle.engine.specs.Preparing.{Storable}
use Rattle.engine.specs.Outcomes.{Right}
use Rattle.engine.specs.Done.{Done, Room, search_tables, naming}
use Rattle.engine.proofs.Naming.{marks_set}
use Rattle.engine.proofs.Listing.{keys_after, stored}
use Rattle.engine.proofs.Preparing.{Prepared, prepared, storable_range, storable_key, storable_free}
use Rattle.engine.proofs.Sending.{Sent, spread_right}
use Rattle.engine.proofs.Reviving.{unless_some, unless_none, quiet_spreads, revived_spreads}
use Rattle.engine.proofs.Closing.{was_live, was_unlive, right_lives, right_nears, right_swept}

-- no state is closed by a step or a terminal mark
endangered_close : (x : Update) → Sent x → (status : List ℕ) (u : ℕ) → endangered x status ≡ u + 1 → ⊥
unfolding endangered
endangered_close (Step e) n status u q = omega arith
endangered_close (Terminal s) n status u q = omega arith
endangered_close (Close s) n status u q = n s refl

-- The update x is judged over the steps with it.
abbrev JudgedAfter : Graph → Tables → Tables → ℕ → Update → Type 0
JudgedAfter g t t' k x =
    Judged g.n (into (chains g.n (graph_after g (step_of x)).steps t'.from t'.in_head t'.in_next)) (out_of (chains g.n (graph_after g (step_of x)).steps t'.to t'.out_head t'.out_next))
    (toward (graph_after g (step_of x)).steps t'.to) x (naming x (search_tables t)) (search_tables t') k

module _ {h : History} {g : Graph} {t : Tables} (c : Consistent h g t) (room : Room g.n (nodes_of g) g.limit g.steps t) (t' : Tables) {k : ℕ} where
  -- A step or a terminal mark.
  right_sent : (x : Update) → Sent x → Storable g.n g.limit g.steps x → (IsClosed h (source x) → ⊥) → Prepared (x ∷ h) g.n (graph_after g (step_of x)).steps t' → JudgedAfter g t t' k x → Right h x g.n (search_tables t') k
  right_sent x n s o p (quiet q _ e z) =
      let r = storable_range g.n g.limit g.steps x s in
      spread_right c {x = x} n r o room.long.status refl refl (quiet_spreads c x r room.long.status n q e z)
  right_sent x n s o p (revived u q starts v w begun r) =
      let i = storable_range g.n g.limit g.steps x s in
      spread_right c {x = x} n i o room.long.status refl refl (revived_spreads c x i room.long.status p u q begun room.long.visited room.long.queue r)
  right_sent x n s o p (nears u i v q _ _ _ _) = absurd (endangered_close x n (naming x (search_tables t)).status u q)
  right_sent x n s o p (swept u q _ _ _ _ _) = absurd (endangered_close x n (naming x (search_tables t)).status u q)

  -- A close.
  right_close : (u : ℕ) → u < g.n → (IsClosed h u → ⊥) → (graph_after g (step_of (Close u))).steps < 65535 → Prepared (Close u ∷ h) g.n (graph_after g (step_of (Close u))).steps t' → JudgedAfter g t t' k (Close u) → Right h (Close u) g.n (search_tables t') k
  unfolding endangered quickened
  right_close u r o few p (quiet _ q e z) = rw (e, z) (right_lives c u r o room.long.status (was_live c u r o room.long.status (unless_none u (naming (Close u) (search_tables t)).status q)))
  right_close u r o few p (revived v q starts _ _ begun w) = absurd (omega arith)
  right_close u r o few p (nears v i y q l near e z) =
      let x = unless_some u (naming (Close u) (search_tables t)).status v q in
      let d : v ≡ u = sym x.0 in
      let e' = rw d at e in
      rw (e', z) (right_nears c u r o room.long.status (was_unlive c u r o room.long.status (rw d at x.1)) p room.long.successor few (rw d at l) (rw d at near))
  right_close u r o few p (swept v q starts vi qu begun w) =
      let x = unless_some u (naming (Close u) (search_tables t)).status v q in
      let d : v ≡ u = sym x.0 in
      right_swept c u r o room.long.status (was_unlive c u r o room.long.status (rw d at x.1)) p (rw d at begun) room.long.visited room.long.queue (rw d at w)

  right : (x : Update) → Storable g.n g.limit g.steps x → (IsClosed h (source x) → ⊥) → (graph_after g (step_of x)).steps < 65535 → Prepared (x ∷ h) g.n (graph_after g (step_of x)).steps t' → JudgedAfter g t t' k x → Right h x g.n (search_tables t') k
  right (Step e) s o few p j = right_sent (Step e) (λ r z. step_close e r (sym z)) s o p j
  right (Terminal u) s o few p j = right_sent (Terminal u) (λ r z. terminal_close u r (sym z)) s o p j
  right (Close u) s o few p j = right_close u s o few p j

  -- The update x is done: the tables fit for the history with it, and the news is the definition's.
  pub done_fits : (x : Update) → added (is_in (listed h)) x ≡ step_of x → Storable g.n g.limit g.steps x → (IsClosed h (source x) → ⊥) → Done g.n g.steps t t' k x → Consistent (x ∷ h) (graph_after g (step_of x)) t' × (take k t'.news ≡ news g.n h x)
  done_fits x w s o d =
      let p = prepared c room t' x w s d.listed in
      let r = right x s o (omega (arith, steps_few x s, room.bound)) p d.judged in (
        record {
          in_range = p.in_range;
          keys_in_range = keys_after x (storable_key g.n g.limit g.steps x s) c.keys_in_range;
          marks = rw d.marks (marks_set h x t.marks g.n room.long.marks (storable_range g.n g.limit g.steps x s) c.marks);
          steps = p.lists.count;
          from = p.lists.froms;
          to = p.lists.tos;
          key = rw d.listed.keys (stored (λ (e : Edge). e.key) h x w g.steps t.key (storable_free g.n g.limit g.steps x s t.key room.long.key) c.key);
          status = r.statuses;
          successor =
              same_rule g.n (ListedAt (x ∷ h)) (StepAt (graph_after g (step_of x)).steps t'.from t'.to) (λ a. get_or t'.status a 0) (λ a. get_or t'.status a 0) (λ a. get_or t'.successor a 0)
              (λ a i b. (arcs_listed p.lists a i b).1) (λ a b. refl) r.successors;
          into = p.into;
          out_of = p.out_of;
          unvisited = r.unvisited;
        },
        r.named,
      )
    where
      steps_few : (x : Update) → Storable g.n g.limit g.steps x → (graph_after g (step_of x)).steps ≤ g.limit
      steps_few (Step e) s = omega (arith, s.2)
      steps_few (Terminal u) s = omega (arith, room.steps)
      steps_few (Close u) s = omega (arith, room.steps)
