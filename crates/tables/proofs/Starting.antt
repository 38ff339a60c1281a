-- Fresh tables fit for the empty history.
-- Assumes nothing.
use mathlib.Core.Path.{◌≡◌, sym, ◌∙◌}
use mathlib.Core.List.Memᴰ
use mathlib.Core.List.{[]}
use Prim.Native.Nat.{ℕ, ◌<◌}
use native.Mathlib.Omega.{arith}
use lib.ListN.{get_or}
use Rattle.gid.specs.Histories.{listed}
use Rattle.gid.specs.Statuses.{is_named, is_terminal, is_closed, status_unknown}
use Rattle.gid.proofs.Statuses.{status-unseen}
use Rattle.gid.proofs.Chains.{successor_rule}
use Rattle.tables.specs.declared.Graph.{Graph}
use Rattle.tables.specs.Tables.{Tables}
use Rattle.tables.specs.Work.{last_before}
use Rattle.tables.specs.Visits.{Marking}
use Rattle.tables.specs.Fitting.{marks_of, StepAt, ConsistentBy, FreshBy}
use Rattle.tables.proofs.Marking.{ClearAtZero}

pub fresh_consistent : {form : Marking} → ClearAtZero form → (g : Graph) (t : Tables) → FreshBy form g t → ConsistentBy form [] g t
unfolding listed marks_of is_named is_terminal is_closed last_before
fresh_consistent clear g t f =
    record {
      in_range = λ s m. absurd (Memᴰ.not-nil m.1);
      keys_in_range = λ e m. absurd (Memᴰ.not-nil m);
      marks = λ s h. f.marks s h;
      steps = f.no_steps;
      from = rw f.no_steps;
      to = rw f.no_steps;
      key = rw f.no_steps;
      status = λ s h. f.status s h ∙ sym ((status-unseen [] s).1 (λ m. Memᴰ.not-nil m.1));
      successor =
          successor_rule g.n (StepAt g.steps t.from t.to) (λ s. get_or t.status s 0) (λ s. get_or t.successor s 0)
          (λ s u. absurd (none s u))
          (λ s h n. f.successor s h);
      into = record { heads = λ v h. rw f.no_steps (f.in_head v h); nexts = λ p h. absurd (omega (arith, f.no_steps)) };
      out_of = record { heads = λ v h. rw f.no_steps (f.out_head v h); nexts = λ p h. absurd (omega (arith, f.no_steps)) };
      unvisited = clear g.n t.visited f.visited;
    }
  where
    none : (s : ℕ) → (s < g.n) × (get_or t.status s 0 ≡ status_unknown) → ⊥
    none s u = let e = f.status s u.0 in omega arith
