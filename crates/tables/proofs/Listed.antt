-- The listed steps of tables that fit are the history's steps, place by place, and no two of them are equal.
-- Assumes nothing.
use mathlib.Core.Path.{◌≡◌, refl, sym, ◌∙◌, ap, subst}
use mathlib.Core.Logic.{◌↔◌}
use mathlib.Core.Bool.{Bool, true, false, cond, false≢true}
use mathlib.Core.List.{List, map}
use mathlib.Core.Option.{Option, some, none}
use Prim.Native.Nat.{ℕ, zero, suc, ◌<◌, ◌≤◌}
use native.Mathlib.Omega.{arith}
use native.Mathlib.Decide.{ℕ_discrete}
use lib.ListN.{length, get_or, take, get_or-map}
use lib.Seq.{get_or-take}
use Rattle.gid.specs.declared.Edge.{Edge}
use Rattle.gid.specs.declared.Update.TheVariants.{Step}
use Rattle.gid.specs.Updates.{edge}
use Rattle.gid.specs.Histories.{History, Has, IsStep, is_in, listed}
use Rattle.gid.specs.Systems.{ListedAt}
use Rattle.gid.specs.Refusals.{max_key}
use Rattle.gid.proofs.Decide.{Decides, decides_false, same_test}
use Rattle.gid.proofs.Listing.{decides_same, decides_listed, has_listed, listed_has, listed_distinct, step_arc, arc_step}
use Rattle.tables.specs.declared.Graph.{Graph}
use Rattle.tables.specs.Tables.{Tables}
use Rattle.tables.specs.Listing.{is_equal_at, first_below, is_found, listed_on, Distinct}
use Rattle.tables.specs.Visits.{Marking}
use Rattle.tables.specs.Fitting.{sources, targets, StepAt, ConsistentBy}

-- The first m entries of two lists are the ends of the history's steps.
pub record ListsSteps (h : History) (m : ℕ) (from to : List ℕ) : Type 0 where
  pub count : m ≡ length (listed h)
  pub froms : take m from ≡ sources h
  pub tos : take m to ≡ targets h

module _ (h : History) {m : ℕ} where
  -- A column of the step list, entry by entry.
  column_at : (f : Edge → ℕ) (l : List ℕ) → take m l ≡ map f (listed h) → (p : ℕ) → p < m → get_or l p (f (edge 0 0 0)) ≡ f (get_or (listed h) p (edge 0 0 0))
  column_at f l e p k = sym (get_or-take m l p (f (edge 0 0 0)) k) ∙ ap (λ (z : List ℕ). get_or z p (f (edge 0 0 0))) e ∙ get_or-map f (listed h) p (edge 0 0 0)

module _ {h : History} {m : ℕ} {from to : List ℕ} (l : ListsSteps h m from to) where
  from_at : (p : ℕ) → p < m → get_or from p 0 ≡ (get_or (listed h) p (edge 0 0 0)).from
  from_at = column_at h (λ (e : Edge). e.from) from l.froms

  to_at : (p : ℕ) → p < m → get_or to p 0 ≡ (get_or (listed h) p (edge 0 0 0)).to
  to_at = column_at h (λ (e : Edge). e.to) to l.tos

  -- The arcs of the tables are those of the history's system.
  pub arcs_listed : (s p t : ℕ) → StepAt m from to s p t ↔ ListedAt h s p t
  arcs_listed s p t = (
    λ a. (rw l.count at a.0, sym (from_at p a.0) ∙ a.1, sym (to_at p a.0) ∙ a.2),
    λ a. let k : p < m = rw l.count a.0 in (k, from_at p k ∙ a.1, to_at p k ∙ a.2),
  )

  -- A step of the history is listed.
  pub step_in_list : (a b : ℕ) → IsStep h a b → (p : ℕ) × StepAt m from to a p b
  step_in_list a b s = let r = step_arc h s in (r.0, (arcs_listed a r.0 b).1 r.1)

  -- A listed step is the history's.
  pub list_has_step : {a p b : ℕ} → StepAt m from to a p b → IsStep h a b
  list_has_step {a} {p} {b} s = arc_step h ((arcs_listed a p b).0 s)

-- The lists of tables that fit.
module _ {form : Marking} {h : History} {g : Graph} {t : Tables} (c : ConsistentBy form h g t) where
  pub lists_of : ListsSteps h g.steps t.from t.to
  lists_of = record { count = c.steps; froms = c.from; tos = c.to }

  -- What is listed at a place.
  pub listed_at : (p : ℕ) → p < g.steps → edge (get_or t.from p 0) (get_or t.to p 0) (get_or t.key p 0) ≡ get_or (listed h) p (edge 0 0 0)
  listed_at p k =
      rw (column_at h (λ (e : Edge). e.from) t.from c.from p k, column_at h (λ (e : Edge). e.to) t.to c.to p k, column_at h (λ (e : Edge). e.key) t.key c.key p k)

  -- A listed key is that of a step of the history, so it is in range.
  pub listed_key : (p : ℕ) → p < g.steps → get_or t.key p 0 ≤ max_key
  listed_key p k =
      let i : p < length (listed h) = omega (arith, c.steps) in
      let e = column_at h (λ (e : Edge). e.key) t.key c.key p k in
      rw e (c.keys_in_range (get_or (listed h) p (edge 0 0 0)) (listed_has h i))

-- A number below m passes a test exactly where a first one is found.
pub decides_found : (f : ℕ → Bool) (m : ℕ) → Decides (is_found (first_below f m)) ((p : ℕ) × (p < m) × (f p ≡ true))
unfolding first_below
decides_found f zero = decides_false (λ q. omega (arith, q.1))
decides_found f (suc m) = at (first_below f m) (f m) refl (decides_found f m)
  where
    at : (o : Option ℕ) (b : Bool) → f m ≡ b → Decides (is_found o) ((p : ℕ) × (p < m) × (f p ≡ true)) → Decides (is_found (elim o [ none ↦ cond b (some m) none | some p ↦ some p ])) ((p : ℕ) × (p < suc m) × (f p ≡ true))
    at (some p) b e d = record { sound = λ q. let r = d.sound refl in (r.0, omega (arith, r.1), r.2); complete = λ q. refl }
    at none true e d = record { sound = λ q. (m, omega arith, e); complete = λ q. refl }
    at none false e d = decides_false none_before
      where
        none_before : (p : ℕ) × (p < suc m) × (f p ≡ true) → ⊥
        none_before (p, l, q) = place (ℕ_discrete p m)
          where
            place : Dec (p ≡ m) → ⊥
            place (yes z) = false≢true (sym e ∙ ap f (sym z) ∙ q)
            place (no z) = false≢true (d.complete (p, omega arith, q))

module _ (from to key : List ℕ) (e : Edge) where
  -- The step at a place is equal to e where its ends and its key are.
  pub decides_equal_at : (p : ℕ) → Decides (is_equal_at from to key e p) (edge (get_or from p 0) (get_or to p 0) (get_or key p 0) ≡ e)
  decides_equal_at p = decides_same (edge (get_or from p 0) (get_or to p 0) (get_or key p 0)) e

-- On tables that fit, the listed steps are those of the history's list, and no two are equal.
module _ {form : Marking} {h : History} {g : Graph} {t : Tables} (c : ConsistentBy form h g t) where
  pub listed_same : (e : Edge) → listed_on g t e ≡ is_in (listed h) e
  listed_same e =
      same_test (listed_on g t e) (is_in (listed h) e) (decides_found (is_equal_at t.from t.to t.key e) g.steps) (decides_listed h e)
      (λ q. let p = q.0 in let i : p < length (listed h) = omega (arith, q.1, c.steps) in subst (λ (d : Edge). Has h (Step d)) (sym (listed_at c p q.1) ∙ (decides_equal_at t.from t.to t.key e p).sound q.2) (listed_has h i))
      (λ m. let r = has_listed h m in let i : r.0 < g.steps = omega (arith, r.1, c.steps) in (r.0, i, (decides_equal_at t.from t.to t.key e r.0).complete (listed_at c r.0 i ∙ r.2)))

  pub consistent_distinct : Distinct g.steps t.from t.to t.key
  consistent_distinct p q a b x y z =
      listed_distinct h p q a (omega (arith, c.steps))
      (sym (listed_at c p (omega arith)) ∙ (let w : edge (get_or t.from p 0) (get_or t.to p 0) (get_or t.key p 0) ≡ edge (get_or t.from q 0) (get_or t.to q 0) (get_or t.key q 0) = rw (x, y, z) in w) ∙ listed_at c q b)
