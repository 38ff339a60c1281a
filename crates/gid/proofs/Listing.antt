-- The step list of a history, by places: each step has one and no second, each place has one step, and what is listed stays where it is.
-- Assumes nothing.
use mathlib.Core.Path.{◌≡◌, refl, sym, ◌∙◌, ap, subst}
use mathlib.Core.Logic.{◌⊎◌, inl, inr, ⊎_elim}
use mathlib.Core.Bool.{Bool, true, false, cond, ◌&&◌, ◌||◌, false≢true}
use mathlib.Core.List.Memᴰ
use mathlib.Core.List.{List, [], ◌∷◌, ◌++◌, append-nil}
use Prim.Native.Nat.{ℕ, zero, suc, ◌<◌, ◌≤◌}
use native.Mathlib.Omega.{arith}
use native.Mathlib.Decide.{ℕ_discrete}
use lib.Dec.{eqb}
use lib.ListN.{length, get_or, length-append, get_or-append}
use lib.Seq.{get_or-append_seam}
use Rattle.std.proofs.Math.Bool.{or-true, or_assoc}
use Rattle.gid.specs.declared.Edge.{Edge}
use Rattle.gid.specs.declared.Update.{Update}
use Rattle.gid.specs.declared.Update.TheVariants.{Step, Terminal, Close}
use Rattle.gid.specs.Updates.{edge}
use Rattle.gid.specs.Histories.{History, Has, IsStep, is_same, is_in, added, listed}
use Rattle.gid.specs.Systems.{Within, ListedAt, system}
use Rattle.gid.proofs.Decide.{Decides, decides_iff, decides_eq, decides_and, decides_or, decides_false}
use Rattle.gid.proofs.Tests.{step_terminal, step_close}
use Rattle.gid.proofs.Paths.{Inside}

-- Steps are equal where their ends and keys are.
pub decides_same : (d e : Edge) → Decides (is_same d e) (d ≡ e)
decides_same d e =
    decides_iff
    (decides_and (eqb d.from e.from) (eqb d.to e.to && eqb d.key e.key) (decides_eq d.from e.from)
    (decides_and (eqb d.to e.to) (eqb d.key e.key) (decides_eq d.to e.to) (decides_eq d.key e.key)))
    (λ q. let z : edge d.from d.to d.key ≡ edge e.from e.to e.key = rw (q.0, q.1.0, q.1.1) in z)
    (λ q. (ap (λ (x : Edge). x.from) q, (ap (λ (x : Edge). x.to) q, ap (λ (x : Edge). x.key) q)))

-- A list has the steps that stand at its places.
pub in_at : (l : List Edge) (e : Edge) → is_in l e ≡ true → (p : ℕ) × (p < length l) × (get_or l p (edge 0 0 0) ≡ e)
unfolding is_in
in_at [] e q = absurd (false≢true q)
in_at (d ∷ l) e q = at (is_same d e) refl q (in_at l e)
  where
    at : (b : Bool) → is_same d e ≡ b → b || is_in l e ≡ true → (is_in l e ≡ true → (p : ℕ) × (p < length l) × (get_or l p (edge 0 0 0) ≡ e)) → (p : ℕ) × (p < length (d ∷ l)) × (get_or (d ∷ l) p (edge 0 0 0) ≡ e)
    at true z k i = (0, omega arith, (decides_same d e).sound z)
    at false z k i = let r = i k in (suc r.0, omega (arith, r.1), r.2)

pub at_in : (l : List Edge) (p : ℕ) → p < length l → is_in l (get_or l p (edge 0 0 0)) ≡ true
unfolding is_in
at_in [] p k = absurd (omega arith)
at_in (d ∷ l) zero k = rw ((decides_same d d).complete refl)
at_in (d ∷ l) (suc p) k = rw (at_in l p (omega arith)) (or-true (is_same d (get_or l p (edge 0 0 0))))

in_append : (l m : List Edge) (e : Edge) → is_in (l ++ m) e ≡ is_in l e || is_in m e
unfolding is_in
in_append [] m e = refl
in_append (d ∷ l) m e = rw (in_append l m e) (sym (or_assoc (is_same d e) (is_in l e) (is_in m e)))

-- A list and one step more.
pub in_last : (l : List Edge) (d e : Edge) → Decides (is_in (l ++ (d ∷ [])) e) ((is_in l e ≡ true) ⊎ (d ≡ e))
unfolding is_in
in_last l d e =
    rw (in_append l (d ∷ []) e)
    (decides_or (is_in l e) (is_same d e || false) (record { sound = λ q. q; complete = λ q. q })
    (decides_iff (decides_or (is_same d e) false (decides_same d e) (decides_false (λ (q : ⊥). q))) (⊎_elim (λ q. q) (λ q. absurd q)) inl))

-- A step is listed exactly where it is one of the history's.
pub decides_listed : (h : History) (e : Edge) → Decides (is_in (listed h) e) (Has h (Step e))
unfolding listed is_in
decides_listed [] e = decides_false Memᴰ.not-nil
decides_listed (Step d ∷ h) e = at (is_in (listed h) d) refl (decides_listed h d) (decides_listed h e)
  where
    same : Step e ≡ Step d → d ≡ e
    same q = let z : e ≡ d = cc in sym z

    at : (b : Bool) → is_in (listed h) d ≡ b → Decides (is_in (listed h) d) (Has h (Step d)) → Decides (is_in (listed h) e) (Has h (Step e)) → Decides (is_in (listed h ++ cond b [] (d ∷ [])) e) (Has (Step d ∷ h) (Step e))
    at true z k i =
        rw append-nil
        (decides_iff i (λ m. Memᴰ.tail m) (λ m. ⊎_elim (λ q. subst (λ (f : Edge). Has h (Step f)) (same q) (k.sound z)) (λ q. q) (Memᴰ.cases_cons m)))
    at false z k i =
        decides_iff (in_last (listed h) d e)
        (⊎_elim (λ q. Memᴰ.tail (i.sound q)) (λ q. let w : Step e ≡ Step d = rw q in Memᴰ.head w))
        (λ m. ⊎_elim (λ q. inr (same q)) (λ q. inl (i.complete q)) (Memᴰ.cases_cons m))
decides_listed (Terminal s ∷ h) e =
    rw append-nil
    (decides_iff (decides_listed h e) (λ m. Memᴰ.tail m) (λ m. ⊎_elim (λ q. absurd (step_terminal e s q)) (λ q. q) (Memᴰ.cases_cons m)))
decides_listed (Close s ∷ h) e =
    rw append-nil
    (decides_iff (decides_listed h e) (λ m. Memᴰ.tail m) (λ m. ⊎_elim (λ q. absurd (step_close e s q)) (λ q. q) (Memᴰ.cases_cons m)))

-- What is listed before an update is listed after it, at the same place.
module _ (h : History) (x : Update) {p : ℕ} (inside : p < length (listed h)) where
  pub stays_listed : (p < length (listed (x ∷ h))) × (get_or (listed (x ∷ h)) p (edge 0 0 0) ≡ get_or (listed h) p (edge 0 0 0))
  unfolding listed
  stays_listed = (rw length-append (omega arith), get_or-append (listed h) (added (is_in (listed h)) x) (edge 0 0 0) p inside)

pub stays_arc : (h : History) (x : Update) {s p t : ℕ} → ListedAt h s p t → ListedAt (x ∷ h) s p t
stays_arc h x a = let q = stays_listed h x a.0 in (q.0, ap (λ (d : Edge). d.from) q.1 ∙ a.1, ap (λ (d : Edge). d.to) q.1 ∙ a.2)

-- The step list after a step: as it was where an equal one is listed, and else with the step at the last place.
pub repeat_listed : (h : History) (e : Edge) → is_in (listed h) e ≡ true → listed (Step e ∷ h) ≡ listed h
unfolding listed
repeat_listed h e q = rw (q, append-nil)

pub new_listed : (h : History) (e : Edge) → is_in (listed h) e ≡ false → listed (Step e ∷ h) ≡ listed h ++ (e ∷ [])
unfolding listed
new_listed h e q = rw q

pub newest_listed : (h : History) (e : Edge) → is_in (listed h) e ≡ false → (length (listed h) < length (listed (Step e ∷ h))) × (get_or (listed (Step e ∷ h)) (length (listed h)) (edge 0 0 0) ≡ e)
newest_listed h e q = rw (new_listed h e q) (rw length-append (omega arith), get_or-append_seam (listed h) e [] (edge 0 0 0))

-- A step of the history is listed at a place.
pub has_listed : (h : History) {e : Edge} → Has h (Step e) → (p : ℕ) × (p < length (listed h)) × (get_or (listed h) p (edge 0 0 0) ≡ e)
has_listed h {e} m = in_at (listed h) e ((decides_listed h e).complete m)

pub step_arc : (h : History) {u v : ℕ} → IsStep h u v → (p : ℕ) × ListedAt h u p v
step_arc h m =
    let r = has_listed h m.1 in
    (r.0, (r.1, ap (λ (d : Edge). d.from) r.2, ap (λ (d : Edge). d.to) r.2))

-- What is listed at a place is a step of the history.
pub listed_has : (h : History) {p : ℕ} → p < length (listed h) → Has h (Step (get_or (listed h) p (edge 0 0 0)))
listed_has h {p} i = (decides_listed h (get_or (listed h) p (edge 0 0 0))).sound (at_in (listed h) p i)

pub arc_step : (h : History) {u p v : ℕ} → ListedAt h u p v → IsStep h u v
arc_step h {p = p} (i, a, b) = rw (← a, ← b) ((get_or (listed h) p (edge 0 0 0)).key, listed_has h i)

-- A step has one target.
pub one_target : (h : History) {s p t v : ℕ} → ListedAt h s p t → ListedAt h s p v → t ≡ v
one_target h a b = sym a.2 ∙ b.2

-- A history that has a state's steps has its arcs.
pub within_steps : (f g : History) (s : ℕ) → ((t : ℕ) → IsStep f s t → IsStep g s t) → Within (system f) (system g) s
within_steps f g s w p t a = (
  (step_arc g (w t (arc_step f a))).0,
  λ v. (
    λ b. rw (one_target f b a) (step_arc g (w t (arc_step f a))).1,
    λ b. rw (one_target g b (step_arc g (w t (arc_step f a))).1) a,
  ),
)

-- No two places have equal steps.
abbrev Unlike : ℕ → ℕ → List Edge → Type 0
Unlike p q l = q < length l → get_or l p (edge 0 0 0) ≡ get_or l q (edge 0 0 0) → ⊥

pub listed_distinct : (h : History) (p q : ℕ) → p < q → q < length (listed h) → get_or (listed h) p (edge 0 0 0) ≡ get_or (listed h) q (edge 0 0 0) → ⊥
unfolding listed
listed_distinct [] p q a b e = omega arith
listed_distinct (x ∷ h) p q a b e = either (listed_distinct h p q a) x b e
  where
    older : Unlike p q (listed h) → (l : List Edge) → q < length (listed h) → get_or (listed h ++ l) p (edge 0 0 0) ≡ get_or (listed h ++ l) q (edge 0 0 0) → ⊥
    older i l k z =
        i k (sym (get_or-append (listed h) l (edge 0 0 0) p (omega arith)) ∙ z ∙ get_or-append (listed h) l (edge 0 0 0) q k)

    -- a new step is none of those before it
    newest : (d : Edge) → is_in (listed h) d ≡ false → q ≡ length (listed h) → get_or (listed h ++ (d ∷ [])) p (edge 0 0 0) ≡ get_or (listed h ++ (d ∷ [])) q (edge 0 0 0) → ⊥
    newest d n k z =
        let i : p < length (listed h) = omega arith in
        let y : get_or (listed h) p (edge 0 0 0) ≡ d = sym (get_or-append (listed h) (d ∷ []) (edge 0 0 0) p i) ∙ z ∙ rw k (get_or-append_seam (listed h) d [] (edge 0 0 0)) in
        false≢true (sym n ∙ ap (is_in (listed h)) (sym y) ∙ at_in (listed h) p i)

    place : Unlike p q (listed h) → (d : Edge) → is_in (listed h) d ≡ false → Dec (q ≡ length (listed h)) → Unlike p q (listed h ++ (d ∷ []))
    place i d n (yes w) k z = newest d n w z
    place i d n (no w) k z = older i (d ∷ []) (omega (arith, length-append (listed h) (d ∷ []))) z

    at : Unlike p q (listed h) → (d : Edge) (b : Bool) → is_in (listed h) d ≡ b → Unlike p q (listed h ++ cond b [] (d ∷ []))
    at i d true n k z = older i [] (rw append-nil at k) z
    at i d false n k z = place i d n (ℕ_discrete q (length (listed h))) k z

    either : Unlike p q (listed h) → (x : Update) → Unlike p q (listed h ++ added (is_in (listed h)) x)
    either i (Step d) k z = at i d (is_in (listed h) d) refl k z
    either i (Terminal s) k z = older i [] (rw append-nil at k) z
    either i (Close s) k z = older i [] (rw append-nil at k) z

-- A list without one step.
without : Edge → List Edge → List Edge
without e [] = []
without e (d ∷ l) = cond (is_same d e) l (d ∷ without e l)

without_length : (e : Edge) (l : List Edge) → is_in l e ≡ true → length l ≡ suc (length (without e l))
unfolding is_in without
without_length e [] q = absurd (false≢true q)
without_length e (d ∷ l) q = at (is_same d e) q (without_length e l)
  where
    at : (b : Bool) → b || is_in l e ≡ true → (is_in l e ≡ true → length l ≡ suc (length (without e l))) → suc (length l) ≡ suc (length (cond b l (d ∷ without e l)))
    at true k i = refl
    at false k i = ap suc (i k)

without_others : (e f : Edge) (l : List Edge) → (e ≡ f → ⊥) → is_in l f ≡ true → is_in (without e l) f ≡ true
unfolding is_in without
without_others e f [] n q = q
without_others e f (d ∷ l) n q = at (is_same d e) refl (is_same d f) refl q (without_others e f l n)
  where
    at : (b : Bool) → is_same d e ≡ b → (c : Bool) → is_same d f ≡ c → c || is_in l f ≡ true → (is_in l f ≡ true → is_in (without e l) f ≡ true) → is_in (cond b l (d ∷ without e l)) f ≡ true
    at true y true z k i = absurd (n (sym ((decides_same d e).sound y) ∙ (decides_same d f).sound z))
    at true y false z k i = k
    at false y true z k i = rw z
    at false y false z k i = rw z (i k)

-- A list that has all of a history's steps is as long as its step list, or longer.
abbrev Covers : History → List Edge → Type 0
Covers h l = (e : Edge) → Has h (Step e) → is_in l e ≡ true

listed_shortest : (h : History) (l : List Edge) → Covers h l → length (listed h) ≤ length l
unfolding listed
listed_shortest [] l f = omega arith
listed_shortest (x ∷ h) l f = either (listed_shortest h) x f
  where
    at : ((m : List Edge) → Covers h m → length (listed h) ≤ length m) → (d : Edge) (b : Bool) → is_in (listed h) d ≡ b → Covers (Step d ∷ h) l → length (listed h ++ cond b [] (d ∷ [])) ≤ length l
    at i d true q g = rw append-nil (i l (λ e m. g e (Memᴰ.tail m)))
    at i d false q g =
        let z = without_length d l (g d (Memᴰ.head refl)) in
        let k = i (without d l) (λ e m. without_others d e l (λ w. false≢true (sym q ∙ ap (is_in (listed h)) w ∙ (decides_listed h e).complete m)) (g e (Memᴰ.tail m))) in
        omega (arith, length-append (listed h) (d ∷ []))

    either : ((m : List Edge) → Covers h m → length (listed h) ≤ length m) → (x : Update) → Covers (x ∷ h) l → length (listed h ++ added (is_in (listed h)) x) ≤ length l
    either i (Step d) g = at i d (is_in (listed h) d) refl g
    either i (Terminal s) g = rw append-nil (i l (λ e m. g e (Memᴰ.tail m)))
    either i (Close s) g = rw append-nil (i l (λ e m. g e (Memᴰ.tail m)))

-- The step list of a part of a history is no longer than its own.
pub listed_within : (p f : History) → Inside p f → length (listed p) ≤ length (listed f)
listed_within p f i = listed_shortest p (listed f) (λ e m. (decides_listed f e).complete (i (Step e) m))
