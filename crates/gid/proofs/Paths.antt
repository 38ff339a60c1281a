-- Paths: how they are put together, how a new update changes them, and that the computed tests decide the statements.
-- Assumes nothing.
use mathlib.Core.Path.{◌≡◌, refl, sym, ap, subst}
use mathlib.Core.Logic.{◌⊎◌, inl, inr, ⊎_elim}
use mathlib.Core.List.Memᴰ
use mathlib.Core.List.{[], ◌∷◌}
use Prim.Native.Nat.{ℕ}
use Rattle.gid.specs.declared.Edge.{Edge}
use Rattle.gid.specs.declared.Update.{Update}
use Rattle.gid.specs.declared.Update.TheVariants.{Step}
use Rattle.gid.specs.Updates.{edge}
use Rattle.gid.specs.Histories.{History, Has, IsStep}
use Rattle.gid.specs.Verdicts.{Reaches, here, along}

-- every update of h is one of g's
abbrev pub Inside : History → History → Type 0
Inside h g = (x : Update) → Has h x → Has g x

pub within_both : {h g : History} (x : Update) → Inside h g → Inside (x ∷ h) (x ∷ g)
within_both x i y m = ⊎_elim (λ e. Memᴰ.head e) (λ q. Memᴰ.tail (i y q)) (Memᴰ.cases_cons m)

-- Steps, by whatever key: those of a part of a history, of none, of the newest update, and of that or an older one.
pub step_within : {h g : History} → Inside h g → {u v : ℕ} → IsStep h u v → IsStep g u v
step_within i m = (m.0, i _ m.1)

pub no_step : {u v : ℕ} → IsStep [] u v → ⊥
no_step m = Memᴰ.not-nil m.1

pub newest_step : {h : History} (e : Edge) → IsStep (Step e ∷ h) e.from e.to
newest_step e = (e.key, Memᴰ.head refl)

pub step_cases : {h : History} {x : Update} {u v : ℕ} → IsStep (x ∷ h) u v → ((k : ℕ) × (Step (edge u v k) ≡ x)) ⊎ IsStep h u v
step_cases m = ⊎_elim (λ e. inl (m.0, e)) (λ q. inr (m.0, q)) (Memᴰ.cases_cons m.1)

-- The ends of a step that is the newest.
pub same_ends : {u v k : ℕ} {e : Edge} → Step (edge u v k) ≡ Step e → (u ≡ e.from) × (v ≡ e.to)
same_ends {u} {v} {k} {e} z =
    let d : edge u v k ≡ e = cc in
    (ap (λ (x : Edge). x.from) d, ap (λ (x : Edge). x.to) d)

pub path_within : {h g : History} → Inside h g → {u v : ℕ} → Reaches h u v → Reaches g u v
path_within i here = here
path_within i (along m p) = along (step_within i m) (path_within i p)

pub join : {h : History} {u v w : ℕ} → Reaches h u v → Reaches h v w → Reaches h u w
join here q = q
join (along m p) q = along m (join p q)

pub within_newer : {h : History} (y : Update) → Inside h (y ∷ h)
within_newer y x m = Memᴰ.tail m

-- a path that may use the newest step goes by older steps alone, or to its source and on from its target
pub split : {h : History} (e : Edge) {u w : ℕ} → Reaches (Step e ∷ h) u w → Reaches h u w ⊎ (Reaches h u e.from × Reaches h e.to w)
split e here = inl here
split {h} e {u} {w} (along {v = v} m p) = either (step_cases m) (split e p)
  where
    newest : (u ≡ e.from) × (v ≡ e.to) → (Reaches h v w ⊎ (Reaches h v e.from × Reaches h e.to w)) → Reaches h u w ⊎ (Reaches h u e.from × Reaches h e.to w)
    newest d q =
        inr (
          subst (λ (x : ℕ). Reaches h x e.from) (sym d.0) here,
          ⊎_elim (λ p. subst (λ (x : ℕ). Reaches h x w) d.1 p) (λ p. p.1) q,
        )

    older : IsStep h u v → (Reaches h v w ⊎ (Reaches h v e.from × Reaches h e.to w)) → Reaches h u w ⊎ (Reaches h u e.from × Reaches h e.to w)
    older m' (inl q) = inl (along m' q)
    older m' (inr q) = inr (along m' q.0, q.1)

    either : ((k : ℕ) × (Step (edge u v k) ≡ Step e)) ⊎ IsStep h u v → (Reaches h v w ⊎ (Reaches h v e.from × Reaches h e.to w)) → Reaches h u w ⊎ (Reaches h u e.from × Reaches h e.to w)
    either (inl z) q = newest (same_ends z.1) q
    either (inr m') q = older m' q

-- an update that is no step adds no path
pub unsplit : {h : History} (y : Update) → ((e : Edge) → Step e ≡ y → ⊥) → {u w : ℕ} → Reaches (y ∷ h) u w → Reaches h u w
unsplit y n here = here
unsplit {h} y n (along {u = u} {v = v} {w = w} m p) = either (step_cases m) (unsplit y n p)
  where
    either : ((k : ℕ) × (Step (edge u v k) ≡ y)) ⊎ IsStep h u v → Reaches h v w → Reaches h u w
    either (inl z) q = absurd (n (edge u v z.0) z.1)
    either (inr m') q = along m' q
