-- An update that is listed and marked: what the tables hold then, but for what a search writes.
-- Assumes nothing.
use mathlib.Core.Path.{◌≡◌, refl}
use mathlib.Core.Logic.{◌↔◌, inl, inr}
use mathlib.Core.List.{List, ◌∷◌}
use Prim.Native.Nat.{ℕ, ◌+◌, ◌<◌, ◌≤◌}
use native.Mathlib.Omega.{arith}
use lib.ListN.{length, get_or}
use Rattle.gid.specs.declared.Update.{Update}
use Rattle.gid.specs.declared.Update.TheVariants.{Step, Terminal, Close}
use Rattle.gid.specs.Updates.{edge}
use Rattle.gid.specs.Histories.{History, IsNamed, is_in, added, step_of, listed}
use Rattle.gid.specs.Systems.{ListedAt}
use Rattle.gid.specs.Successors.{SuccessorRule}
use Rattle.gid.specs.Refusals.{max_key}
use Rattle.gid.proofs.Listing.{arc_step}
use Rattle.gid.proofs.Chains.{same_rule}
use Rattle.tables.specs.declared.Graph.{Graph}
use Rattle.tables.specs.Tables.{Tables, nodes_of}
use Rattle.tables.specs.Work.{ListRule}
use Rattle.tables.specs.Listing.{from_after, to_after, graph_after}
use Rattle.tables.specs.Fitting.{StepAt, Consistent}
use Rattle.tables.proofs.Listed.{ListsSteps, arcs_listed, lists_of}
use Rattle.adjacency.proofs.Walks.{linked}
use Rattle.search.specs.Spreading.{chains, into, out_of}
use Rattle.engine.specs.Preparing.{InRange, KeyBelow, Free, Storable}
use Rattle.engine.specs.Done.{Chained, pushed, same, Listed, Room}
use Rattle.engine.proofs.Listing.{range_after, lists_after, rule_after}

-- The tables list the m steps of the history f over n states.
pub record Prepared (f : History) (n m : ℕ) (t : Tables) : Type 0 where
  pub in_range : (s : ℕ) → IsNamed f s → s < n
  pub lists : ListsSteps f m t.from t.to
  pub into : ListRule n m t.to t.in_head t.in_next
  pub out_of : ListRule n m t.from t.out_head t.out_next

module _ {f : History} {n m : ℕ} {t : Tables} (p : Prepared f n m t) where
  -- The ends of an arc are states.
  pub arc_inside : (s i v : ℕ) → ListedAt f s i v → (s < n) × (v < n)
  arc_inside s i v a = let q = arc_step f a in (p.in_range s (Step (edge s v q.0), q.1, inl refl), p.in_range v (Step (edge s v q.0), q.1, inr refl))

  -- The steps that walks meet are the history's.
  pub arcs_into : (s i v : ℕ) → v < n → into (chains n m t.from t.in_head t.in_next) s i v ↔ ListedAt f s i v
  arcs_into s i v h = (
    λ a. let l = (linked p.into v h i).0 a.0 in (arcs_listed p.lists s i v).0 (l.0, a.1, l.1),
    λ a. let l = (arcs_listed p.lists s i v).1 a in ((linked p.into v h i).1 (l.0, l.2), l.1),
  )

  pub arcs_out : (s i v : ℕ) → s < n → out_of (chains n m t.to t.out_head t.out_next) s i v ↔ ListedAt f s i v
  arcs_out s i v h = (
    λ a. let l = (linked p.out_of s h i).0 a.0 in (arcs_listed p.lists s i v).0 (l.0, l.1, a.1),
    λ a. let l = (arcs_listed p.lists s i v).1 a in ((linked p.out_of s h i).1 (l.0, l.1), l.2),
  )

-- The successor rule over a history's listed steps.
pub rule_listed : {h : History} {g : Graph} {t : Tables} → Consistent h g t → SuccessorRule (nodes_of g) (ListedAt h) (λ s. get_or t.status s 0) (λ s. get_or t.successor s 0)
rule_listed {h} {g} {t} c =
    same_rule g.n (StepAt g.steps t.from t.to) (ListedAt h) (λ s. get_or t.status s 0) (λ s. get_or t.status s 0) (λ s. get_or t.successor s 0)
    (λ s p v. (arcs_listed (lists_of c) s p v).0) (λ s q. refl) c.successor

-- An update that may be sent is in range, with its key, and a table that is long enough for the limit has a place for it.
pub storable_range : (n limit m : ℕ) (x : Update) → Storable n limit m x → InRange n x
storable_range n limit m (Step e) s = (s.0, s.1)
storable_range n limit m (Terminal u) s = s
storable_range n limit m (Close u) s = s

pub storable_key : (n limit m : ℕ) (x : Update) → Storable n limit m x → KeyBelow (max_key + 1) x
storable_key n limit m (Step e) s = omega (arith, s.3)
storable_key n limit m (Terminal u) s = tt
storable_key n limit m (Close u) s = tt

pub storable_free : (n limit m : ℕ) (x : Update) → Storable n limit m x → (l : List ℕ) → limit ≤ length l → Free m x l
storable_free n limit m (Step e) s l h = omega (arith, s.2)
storable_free n limit m (Terminal u) s l h = tt
storable_free n limit m (Close u) s l h = tt

module _ {h : History} {g : Graph} {t : Tables} (c : Consistent h g t) (room : Room g.n (nodes_of g) g.limit g.steps t) (t' : Tables) where
  -- The chains keep their rule.
  rules :
      (x : Update) → Storable g.n g.limit g.steps x → t'.from ≡ from_after g.steps (step_of x) t.from → t'.to ≡ to_after g.steps (step_of x) t.to →
      Chained g.steps t.in_head t.out_head t.in_next t.out_next t'.in_head t'.out_head t'.in_next t'.out_next x →
      ListRule g.n (graph_after g (step_of x)).steps t'.to t'.in_head t'.in_next × ListRule g.n (graph_after g (step_of x)).steps t'.from t'.out_head t'.out_next
  rules x s a b (pushed e o i) = (
    rw b (rule_after e.to c.into i room.long.in_head (omega (arith, s, room.long.in_next)) (omega (arith, s, room.long.to)) s.1),
    rw a (rule_after e.from c.out_of o room.long.out_head (omega (arith, s, room.long.out_next)) (omega (arith, s, room.long.from)) s.0),
  )
  rules x s a b (same z i o j q) =
      let k : g.steps + 0 ≡ g.steps = omega arith in
      (rw (z, k, i, j) (rw (b, z) c.into), rw (z, k, o, q) (rw (a, z) c.out_of))

  -- The tables list the steps of the history with x.
  pub prepared :
      (x : Update) → added (is_in (listed h)) x ≡ step_of x → Storable g.n g.limit g.steps x →
      Listed g.steps x t.from t.to t.key t.in_head t.out_head t.in_next t.out_next t'.from t'.to t'.key t'.in_head t'.out_head t'.in_next t'.out_next →
      Prepared (x ∷ h) g.n (graph_after g (step_of x)).steps t'
  prepared x w s l =
      let free = storable_free g.n g.limit g.steps x s in
      let r = rules x s l.sources l.targets l.chained in
      record {
        in_range = range_after g.n x (storable_range g.n g.limit g.steps x s) c.in_range;
        lists = rw (l.sources, l.targets) (lists_after g x w (free t.from room.long.from) (free t.to room.long.to) (lists_of c));
        into = r.0;
        out_of = r.1;
      }
