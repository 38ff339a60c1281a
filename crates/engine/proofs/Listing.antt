-- The step list and the range after an update: they are those of the history with it.
-- Assumes nothing.
use mathlib.Core.Path.{◌≡◌, sym, subst}
use mathlib.Core.Logic.{inl, inr, ⊎_elim}
use mathlib.Core.List.Memᴰ
use mathlib.Core.List.{List, [], ◌∷◌, map, map-append, append-nil}
use Prim.Native.Nat.{ℕ, ◌+◌, ◌<◌, ◌≤◌}
use native.Mathlib.Omega.{arith}
use native.Mathlib.Numerals.{add-one}
use lib.ListN.{length, set, take, length-append}
use lib.Seq.{sets, take-suc-set, get_or-set_same, get_or-set_other}
use Rattle.gid.specs.declared.Edge.{Edge}
use Rattle.gid.specs.declared.Update.{Update}
use Rattle.gid.specs.declared.Update.TheVariants.{Step, Terminal, Close}
use Rattle.gid.specs.Updates.{Mentions}
use Rattle.gid.specs.Histories.{History, Has, IsNamed, is_in, added, step_of, listed}
use Rattle.gid.specs.Refusals.{max_key}
use Rattle.tables.specs.declared.Graph.{Graph}
use Rattle.tables.specs.Work.{ListRule}
use Rattle.tables.specs.Listing.{from_after, to_after, graph_after}
use Rattle.tables.proofs.Listed.{ListsSteps}
use Rattle.adjacency.specs.Walks.{Pushed}
use Rattle.adjacency.proofs.Walks.{push_keeps}
use Rattle.engine.specs.Preparing.{InRange, KeyBelow, Free}

-- the keys of the history with x are 0 to 31
pub keys_after : {h : History} (x : Update) → KeyBelow (max_key + 1) x → ((e : Edge) → Has h (Step e) → e.key ≤ max_key) → (e : Edge) → Has (x ∷ h) (Step e) → e.key ≤ max_key
keys_after x r c e m = ⊎_elim (λ z. newest (subst (KeyBelow (max_key + 1)) (sym z) r)) (c e) (Memᴰ.cases_cons m)
  where
    newest : e.key < max_key + 1 → e.key ≤ max_key
    newest k = omega arith

-- the states of the history with x are below n
pub range_after : {h : History} (n : ℕ) (x : Update) → InRange n x → ((s : ℕ) → IsNamed h s → s < n) → (s : ℕ) → IsNamed (x ∷ h) s → s < n
range_after {h} n x r c s m = ⊎_elim (λ e. newest x r (subst (λ (y : Update). Mentions y s) e m.2)) (λ q. c s (m.0, q, m.2)) (Memᴰ.cases_cons m.1)
  where
    newest : (y : Update) → InRange n y → Mentions y s → s < n
    newest (Step e) q (inl z) = subst (λ (a : ℕ). a < n) z q.0
    newest (Step e) q (inr z) = subst (λ (a : ℕ). a < n) z q.1
    newest (Terminal u) q z = subst (λ (a : ℕ). a < n) z q
    newest (Close u) q z = subst (λ (a : ℕ). a < n) z q

-- what an update adds that is no repeat, stored behind m entries
pub stored : (f : Edge → ℕ) (h : History) (x : Update) → added (is_in (listed h)) x ≡ step_of x → (m : ℕ) (l : List ℕ) → Free m x l → take m l ≡ map f (listed h) → take (m + length (step_of x)) (sets l m (map f (step_of x))) ≡ map f (listed (x ∷ h))
unfolding listed
stored f h (Step e) w m l r q = rw (w, map-append f (listed h) (e ∷ []), add-one m, take-suc-set l m (f e) r, q)
stored f h (Terminal u) w m l r q = let z : m + 0 ≡ m = omega arith in rw (z, append-nil (listed h)) q
stored f h (Close u) w m l r q = let z : m + 0 ≡ m = omega arith in rw (z, append-nil (listed h)) q

-- The step list of the history with x.
pub lists_after :
    {h : History} (g : Graph) (x : Update) → added (is_in (listed h)) x ≡ step_of x → {from to : List ℕ} → Free g.steps x from → Free g.steps x to → ListsSteps h g.steps from to →
    ListsSteps (x ∷ h) (graph_after g (step_of x)).steps (from_after g.steps (step_of x) from) (to_after g.steps (step_of x) to)
unfolding listed
lists_after {h} g x w {from} {to} a b l =
    record {
      count = rw (w, length-append, l.count);
      froms = stored (λ (e : Edge). e.from) h x w g.steps from a l.froms;
      tos = stored (λ (e : Edge). e.to) h x w g.steps to b l.tos;
    }

-- A step that is stored behind the m listed ones and put in front of the steps at its end keeps the list rule.
pub rule_after : {n m : ℕ} {ends head next head' next' : List ℕ} (v : ℕ) → ListRule n m ends head next → Pushed head next v m head' next' → n ≤ length head → m < length next → m < length ends → v < n → ListRule n (m + 1) (set ends m v) head' next'
rule_after {m = m} {ends = ends} v r p a b c d =
    push_keeps (set ends m v) r p a b d (λ i k. get_or-set_other ends m i v 0 (λ e. absurd (omega arith))) (get_or-set_same ends m v 0 c)
