-- Chains of successors, and the pigeonhole lemma behind "within n−1 steps".
-- Assumes nothing.
use mathlib.Core.Path.{◌≡◌, refl, sym, ◌∙◌, ap, subst}
use mathlib.Core.Logic.{◌⊎◌, inl, inr, ⊎_elim}
use mathlib.Core.List.Memᴰ
use mathlib.Core.List.{List, [], ◌∷◌, Memᴰ}
use Prim.Native.Nat.{ℕ, zero, suc, ◌-◌, ◌<◌, ◌≤◌}
use native.Mathlib.Omega.{arith}
use native.Mathlib.Decide.{ℕ_discrete}
use lib.ListN.{length}
use Rattle.gid.specs.Statuses.{status_open, status_unknown}
use Rattle.gid.specs.Successors.{Chain, ends, follows, Having, SuccessorRule, no_successor}

-- no entry stands twice
abbrev pub Distinct : List ℕ → Type 0
Distinct [] = Unit {0}
Distinct (x ∷ l) = (Memᴰ x l → ⊥) × Distinct l

-- a list without the first of its entries that is n
pick : {x n : ℕ} → Dec (x ≡ n) → List ℕ → List ℕ → List ℕ
pick {x} (yes e) l r = l
pick {x} (no d) l r = x ∷ r

without : ℕ → List ℕ → List ℕ
without n [] = []
without n (x ∷ l) = pick (ℕ_discrete x n) l (without n l)

length_without : (n : ℕ) (l : List ℕ) → length l ≤ suc (length (without n l))
unfolding without pick
length_without n [] = omega arith
length_without n (x ∷ l) = at (ℕ_discrete x n) (length_without n l)
  where
    at : (d : Dec (x ≡ n)) → length l ≤ suc (length (without n l)) → suc (length l) ≤ suc (length (pick d l (without n l)))
    at (yes e) i = omega arith
    at (no d) i = omega arith

mem_without : (n : ℕ) (l : List ℕ) {s : ℕ} → Memᴰ s (without n l) → Memᴰ s l
unfolding without pick
mem_without n [] m = m
mem_without n (x ∷ l) {s} m = at (ℕ_discrete x n) (mem_without n l) m
  where
    at : (d : Dec (x ≡ n)) → (Memᴰ s (without n l) → Memᴰ s l) → Memᴰ s (pick d l (without n l)) → Memᴰ s (x ∷ l)
    at (yes e) i m = Memᴰ.tail m
    at (no d) i m = ⊎_elim (λ e. Memᴰ.head e) (λ q. Memᴰ.tail (i q)) (Memᴰ.cases_cons m)

distinct_without : (n : ℕ) (l : List ℕ) → Distinct l → Distinct (without n l)
unfolding without pick
distinct_without n [] u = u
distinct_without n (x ∷ l) u = at (ℕ_discrete x n) (distinct_without n l u.1)
  where
    at : (d : Dec (x ≡ n)) → Distinct (without n l) → Distinct (pick d l (without n l))
    at (yes e) i = u.1
    at (no d) i = (λ m. u.0 (mem_without n l m), i)

gone : (n : ℕ) (l : List ℕ) → Distinct l → Memᴰ n (without n l) → ⊥
unfolding without pick
gone n [] u m = Memᴰ.not-nil m
gone n (x ∷ l) u m = at (ℕ_discrete x n) (gone n l u.1) m
  where
    at : (d : Dec (x ≡ n)) → (Memᴰ n (without n l) → ⊥) → Memᴰ n (pick d l (without n l)) → ⊥
    at (yes e) i m = u.0 (Memᴰ.cast e m)
    at (no d) i m = ⊎_elim (λ e. d (sym e)) i (Memᴰ.cases_cons m)

-- whether a number stands in a list
member : (n : ℕ) (l : List ℕ) → Dec (Memᴰ n l)
member n [] = no Memᴰ.not-nil
member n (x ∷ l) = at (ℕ_discrete n x) (member n l)
  where
    at : Dec (n ≡ x) → Dec (Memᴰ n l) → Dec (Memᴰ n (x ∷ l))
    at (yes e) d = yes (Memᴰ.head e)
    at (no e) (yes m) = yes (Memᴰ.tail m)
    at (no e) (no k) = no (λ m. ⊎_elim e k (Memᴰ.cases_cons m))

-- Pigeonhole: a list of distinct numbers below n has at most n entries.
pub pigeonhole : (n : ℕ) (l : List ℕ) → Distinct l → ((s : ℕ) → Memᴰ s l → s < n) → length l ≤ n
pigeonhole zero [] u b = omega arith
pigeonhole zero (x ∷ l) u b = absurd (let h = b x (Memᴰ.head refl) in omega arith)
pigeonhole (suc n) l u b =
    let i = pigeonhole n (without n l) (distinct_without n l u) lower in
    omega (arith, length_without n l)
  where
    lower : (s : ℕ) → Memᴰ s (without n l) → s < n
    lower s m = at (ℕ_discrete s n)
      where
        at : Dec (s ≡ n) → s < n
        at (yes e) = absurd (gone n l u (Memᴰ.cast (sym e) m))
        at (no d) = let h = b s (mem_without n l m) in omega arith

module _ {Unknown Open : ℕ → Type 0} {Next : ℕ → ℕ → Type 0} where
  -- the states that a chain passes
  passed : {s k : ℕ} → Chain Unknown Open Next s k → List ℕ
  passed (ends {s = s} o) = s ∷ []
  passed (follows {s = s} u e c) = s ∷ passed c

  length_passed : {s k : ℕ} (c : Chain Unknown Open Next s k) → length (passed c) ≡ suc k
  unfolding passed
  length_passed (ends o) = refl
  length_passed (follows u e c) = ap suc (length_passed c)

-- a chain that passes no state twice
abbrev Simple : (Unknown Open : ℕ → Type 0) (Next : ℕ → ℕ → Type 0) → ℕ → Type 0
Simple Unknown Open Next s = (k : ℕ) × (c : Chain Unknown Open Next s k) × Distinct (passed c)

module _ {Unknown Open : ℕ → Type 0} {Next : ℕ → ℕ → Type 0} where
  -- each state that it passes has the rest of it
  rest : {s k : ℕ} (c : Chain Unknown Open Next s k) → Distinct (passed c) → (t : ℕ) → Memᴰ t (passed c) → Simple Unknown Open Next t
  unfolding passed
  rest (ends {s = s} o) d t m = subst (Simple Unknown Open Next) (sym (Memᴰ.eq_of_singleton m)) (0, ends o, d)
  rest (follows {s = s} {k = k} u e c) d t m = at (rest c d.1 t) (Memᴰ.cases_cons m)
    where
      at : (Memᴰ t (passed c) → Simple Unknown Open Next t) → (t ≡ s) ⊎ Memᴰ t (passed c) → Simple Unknown Open Next t
      at r (inl z) = subst (Simple Unknown Open Next) (sym z) (suc k, follows u e c, d)
      at r (inr m') = r m'

  -- whoever has a chain has such a one: where it comes back to a state, what lies between is left out
  simple : {s k : ℕ} → Chain Unknown Open Next s k → Simple Unknown Open Next s
  unfolding passed
  simple (ends o) = (0, ends o, (Memᴰ.not-nil, tt))
  simple (follows {s = s} {t = t} u e c) = at (simple c)
    where
      at : Simple Unknown Open Next t → Simple Unknown Open Next s
      at (k, d, q) = by (member s (passed d))
        where
          by : Dec (Memᴰ s (passed d)) → Simple Unknown Open Next s
          by (yes m) = rest d q s m
          by (no n) = (suc k, follows u e d, (n, q))

  -- "reaches an open state within n−1 steps": over states below n, there is a chain of fewer than n steps.
  pub chain_short : (n : ℕ) → ((s : ℕ) → Unknown s → s < n) → ((s : ℕ) → Open s → s < n) → {s k : ℕ} → Chain Unknown Open Next s k → (j : ℕ) × (j < n) × Chain Unknown Open Next s j
  unfolding passed
  chain_short n bu bo c = at (simple c)
    where
      inside : {t j : ℕ} (d : Chain Unknown Open Next t j) (r : ℕ) → Memᴰ r (passed d) → r < n
      inside (ends {s = t} o) r m = subst (λ (x : ℕ). x < n) (sym (Memᴰ.eq_of_singleton m)) (bo t o)
      inside (follows {s = t} u e d) r m = ⊎_elim (λ z. subst (λ (x : ℕ). x < n) (sym z) (bu t u)) (inside d r) (Memᴰ.cases_cons m)

      at : {s : ℕ} → Simple Unknown Open Next s → (j : ℕ) × (j < n) × Chain Unknown Open Next s j
      at (j, d, q) = (j, (let h = pigeonhole n (passed d) q (inside d) in omega (arith, length_passed d)), d)

-- A chain through other sets, by another relation.
pub chain_map :
    {Unknown Open Unknown' Open' : ℕ → Type 0} {Next Next' : ℕ → ℕ → Type 0} →
    ((s : ℕ) → Open s → Open' s) → ((s : ℕ) → Unknown s → Unknown' s) → ((s t : ℕ) → Unknown s → Next s t → Next' s t) →
    {s k : ℕ} → Chain Unknown Open Next s k → Chain Unknown' Open' Next' s k
chain_map f g n (ends {s = s} o) = ends (f s o)
chain_map f g n (follows {s = s} {t = t} u e c) = follows {t = t} (g s u) (n s t u e) (chain_map f g n c)

-- The rule asks only that an open state is reached: that it is within n−1 steps follows, and so does the first step.
pub successor_rule :
    (n : ℕ) (Arc : ℕ → ℕ → ℕ → Type 0) (status successor : ℕ → ℕ) →
    ((s : ℕ) → Having n status status_unknown s → (k : ℕ) × Chain (Having n status status_unknown) (Having n status status_open) (λ r t. Arc r (successor r) t) s k) →
    ((s : ℕ) → s < n → (status s ≡ status_unknown → ⊥) → successor s ≡ no_successor) →
    SuccessorRule n Arc status successor
successor_rule n Arc status successor e o = record { listed = λ s u. first u (e s u).1; escapes = λ s u. bound (e s u).1; others = o }
  where
    first : {s k : ℕ} → Having n status status_unknown s → Chain (Having n status status_unknown) (Having n status status_open) (λ r t. Arc r (successor r) t) s k → (t : ℕ) × Arc s (successor s) t
    first u (ends a) = absurd (omega (arith, u.1, a.1))
    first u (follows {t = t} v a c) = (t, a)

    bound : {s k : ℕ} → Chain (Having n status status_unknown) (Having n status status_open) (λ r t. Arc r (successor r) t) s k → (j : ℕ) × (j ≤ n - 1) × Chain (Having n status status_unknown) (Having n status status_open) (λ r t. Arc r (successor r) t) s j
    bound c =
        let h = chain_short {Next = λ r t. Arc r (successor r) t} n (λ t a. a.0) (λ t a. a.0) c in
        (h.0, omega (arith, h.1), h.2)

-- The rule with the listed steps said in another way, and with equal statuses.
pub same_rule :
    (n : ℕ) (Arc Arc' : ℕ → ℕ → ℕ → Type 0) (status status' successor : ℕ → ℕ) → ((s p t : ℕ) → Arc s p t → Arc' s p t) → ((s : ℕ) → s < n → status' s ≡ status s) →
    SuccessorRule n Arc status successor → SuccessorRule n Arc' status' successor
same_rule n Arc Arc' status status' successor f e r =
    record {
      listed = λ s u. let q = r.listed s (old s u) in (q.0, f s (successor s) q.0 q.1);
      escapes = λ s u. let q = r.escapes s (old s u) in (q.0, q.1, chain_map {Next' = λ v t. Arc' v (successor v) t} (λ v o. new v o) (λ v o. new v o) (λ v t x a. f v (successor v) t a) q.2);
      others = λ s h d. r.others s h (λ z. d (e s h ∙ z));
    }
  where
    old : (s : ℕ) → {k : ℕ} → Having n status' k s → Having n status k s
    old s q = (q.0, sym (e s q.0) ∙ q.1)

    new : (s : ℕ) → {k : ℕ} → Having n status k s → Having n status' k s
    new s q = (q.0, e s q.0 ∙ q.1)
