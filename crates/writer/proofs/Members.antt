-- The written updates as a history: it is legal, whatever the tables hold, and has their listed steps in their order, where no two are equal. Where the tables fit, its updates are those of the history that they fit for.
-- Assumes nothing.
use mathlib.Core.Path.{◌≡◌, refl, sym, ◌∙◌, ap}
use mathlib.Core.Logic.{◌⊎◌, inl, inr, ⊎_elim}
use mathlib.Core.Bool.{Bool, true, false, cond, false≢true}
use mathlib.Core.List.Memᴰ
use mathlib.Core.List.{List, [], ◌∷◌, ◌++◌, append-nil, Memᴰ}
use Prim.Native.Nat.{ℕ, zero, suc, ◌≤◌, ◌<◌}
use native.Mathlib.Omega.{arith}
use native.Mathlib.Decide.{ℕ_discrete}
use lib.ListN.{get_or, take}
use lib.Seq.{take-suc, take-length}
use Rattle.std.proofs.lemmas.Bool.{false_from_ne_true}
use Rattle.gid.specs.declared.Edge.{Edge}
use Rattle.gid.specs.declared.Update.{Update}
use Rattle.gid.specs.declared.Update.TheVariants.{Step, Terminal, Close}
use Rattle.gid.specs.Updates.{edge}
use Rattle.gid.specs.Histories.{History, Has, IsClosed, MayFollow, Legal, following, is_in, listed}
use Rattle.gid.proofs.Decide.{Decides}
use Rattle.gid.proofs.Listing.{in_last, new_listed, has_listed, listed_has}
use Rattle.gid.proofs.Tests.{decides_terminal, decides_closed, step_close, terminal_close}
use Rattle.tables.specs.declared.Graph.{Graph}
use Rattle.tables.specs.Tables.{Tables}
use Rattle.tables.specs.Listing.{Distinct}
use Rattle.tables.specs.Fitting.{marks_of, Consistent}
use Rattle.tables.proofs.Bits.{marks_bits}
use Rattle.tables.proofs.Listed.{listed_at, consistent_distinct}
use Rattle.writer.specs.declared.marking.LineMark.{LineMark}
use Rattle.writer.specs.declared.marking.LineMark.TheVariants.{Terminal as ForTerminal, Close as ForClose}
use Rattle.writer.specs.Order.{has_mark, marking, in_order, is_marked, marked_lines, edge_at, step_at, step_lines, written_updates}

-- The history after a list of updates has what it had, and the list's.
following_append : (h : History) (a b : List Update) → following h (a ++ b) ≡ following (following h a) b
following_append h [] b = refl
following_append h (x ∷ a) b = following_append (x ∷ h) a b

had : (h : History) (l : List Update) {x : Update} → Has h x → Has (following h l) x
had h [] m = m
had h (y ∷ l) m = had (y ∷ h) l (Memᴰ.tail m)

pub follows : (h : History) (l : List Update) {x : Update} → Memᴰ x l → Has (following h l) x
follows h [] m = absurd (Memᴰ.not-nil m)
follows h (y ∷ l) m = ⊎_elim (λ e. had (y ∷ h) l (Memᴰ.head e)) (follows (y ∷ h) l) (Memᴰ.cases_cons m)

pub followed : (h : History) (l : List Update) {x : Update} → Has (following h l) x → Has h x ⊎ Memᴰ x l
followed h [] m = inl m
followed h (y ∷ l) {x} m = ⊎_elim newest (λ q. inr (Memᴰ.tail q)) (followed (y ∷ h) l m)
  where
    newest : Has (y ∷ h) x → Has h x ⊎ Memᴰ x (y ∷ l)
    newest q = ⊎_elim (λ e. inr (Memᴰ.head e)) inl (Memᴰ.cases_cons q)

module _ (test : ℕ → Bool) (update : ℕ → Update) where
  order_in : (n i : ℕ) → i < n → test i ≡ true → Memᴰ (update i) (in_order n test update)
  unfolding in_order
  order_in zero i p e = absurd (omega arith)
  order_in (suc n) i p e = at (ℕ_discrete i n) (λ q. order_in n i q e)
    where
      at : Dec (i ≡ n) → (i < n → Memᴰ (update i) (in_order n test update)) → Memᴰ (update i) (in_order n test update ++ cond (test n) (update n ∷ []) [])
      at (yes q) ih = Memᴰ.append_right (in_order n test update) (rw (← q, e) (Memᴰ.head refl))
      at (no d) ih = Memᴰ.append_left (cond (test n) (update n ∷ []) []) (ih (omega arith))

  order_of : (n : ℕ) {x : Update} → Memᴰ x (in_order n test update) → (i : ℕ) × (i < n) × (test i ≡ true) × (x ≡ update i)
  unfolding in_order
  order_of zero m = absurd (Memᴰ.not-nil m)
  order_of (suc n) {x} m = ⊎_elim (λ q. let o = order_of n q in (o.0, omega (arith, o.1), o.2, o.3)) (last (test n) refl) (Memᴰ.append_cases (in_order n test update) m)
    where
      last : (b : Bool) → test n ≡ b → Memᴰ x (cond b (update n ∷ []) []) → (i : ℕ) × (i < suc n) × (test i ≡ true) × (x ≡ update i)
      last true e q = (n, omega arith, e, Memᴰ.eq_of_singleton q)
      last false e q = absurd (Memᴰ.not-nil q)

  -- closed before, or by one of them
  order_closed : {h : History} (n : ℕ) {s : ℕ} → IsClosed (following h (in_order n test update)) s → IsClosed h s ⊎ ((i : ℕ) × (i < n) × (Close s ≡ update i))
  order_closed {h} n m = ⊎_elim inl (λ q. let o = order_of n q in inr (o.0, o.1, o.3)) (followed h (in_order n test update) m)

  -- legal where each may follow those before it
  order_legal : (h : History) (n : ℕ) → Legal h → ((i : ℕ) → MayFollow (following h (in_order i test update)) (update i)) → Legal (following h (in_order n test update))
  unfolding in_order
  order_legal h zero l p = l
  order_legal h (suc n) l p = rw (following_append h (in_order n test update) (cond (test n) (update n ∷ []) [])) (at (test n) (order_legal h n l p))
    where
      at : (b : Bool) → Legal (following h (in_order n test update)) → Legal (following (following h (in_order n test update)) (cond b (update n ∷ []) []))
      at true i = (i, p n)
      at false i = i

-- The first m steps of three lists.
firsts : ℕ → (from to key : List ℕ) → List Edge
firsts zero from to key = []
firsts (suc m) from to key = firsts m from to key ++ (edge_at from to key m ∷ [])

module _ (marks from to key : List ℕ) where
  -- A mark lists no step,
  listed_mark : (k : LineMark) (h : History) (s : ℕ) → listed (marking k s ∷ h) ≡ listed h
  unfolding listed
  listed_mark ForTerminal h s = append-nil (listed h)
  listed_mark ForClose h s = append-nil (listed h)

  listed_marks : (k : LineMark) (n : ℕ) (h : History) → listed (following h (marked_lines k n marks)) ≡ listed h
  unfolding in_order
  listed_marks k zero h = refl
  listed_marks k (suc n) h = rw (following_append h (marked_lines k n marks) (cond (is_marked k marks n) (marking k n ∷ []) [])) (at (is_marked k marks n) ∙ listed_marks k n h)
    where
      at : (b : Bool) → listed (following (following h (marked_lines k n marks)) (cond b (marking k n ∷ []) [])) ≡ listed (following h (marked_lines k n marks))
      at true = listed_mark k (following h (marked_lines k n marks)) n
      at false = refl

  -- and steps of which no two are equal are listed one behind the other.
  firsts_in : (m : ℕ) (e : Edge) → is_in (firsts m from to key) e ≡ true → (p : ℕ) × (p < m) × (edge_at from to key p ≡ e)
  unfolding firsts is_in
  firsts_in zero e q = absurd (false≢true q)
  firsts_in (suc m) e q =
      ⊎_elim (λ i. let r = firsts_in m e i in (r.0, omega (arith, r.1), r.2)) (λ d. (m, omega arith, d)) ((in_last (firsts m from to key) (edge_at from to key m) e).sound q)

  listed_steps : (m : ℕ) (h : History) → listed h ≡ [] → Distinct m from to key → listed (following h (step_lines m from to key)) ≡ firsts m from to key
  unfolding in_order firsts
  listed_steps zero h z d = z
  listed_steps (suc m) h z d =
      let older = listed_steps m h z (λ p q a b. d p q a (omega arith)) in
      rw (following_append h (step_lines m from to key) (step_at from to key m ∷ []))
      (new_listed (following h (step_lines m from to key)) (edge_at from to key m) (rw older new) ∙ rw older)
    where
      new : is_in (firsts m from to key) (edge_at from to key m) ≡ false
      new = false_from_ne_true (is_in (firsts m from to key) (edge_at from to key m)) (λ q. let r = firsts_in m (edge_at from to key m) q in d r.0 m r.1 (omega arith) (ap (λ (e : Edge). e.from) r.2) (ap (λ (e : Edge). e.to) r.2) (ap (λ (e : Edge). e.key) r.2))

module _ (n m : ℕ) (marks from to key : List ℕ) where
  abbrev terminals : History
  terminals = following [] (marked_lines ForTerminal n marks)

  abbrev stepped : History
  stepped = following terminals (step_lines m from to key)

  parts_follow : following [] (written_updates n m marks from to key) ≡ following stepped (marked_lines ForClose n marks)
  unfolding written_updates
  parts_follow =
      following_append [] (marked_lines ForTerminal n marks) (step_lines m from to key ++ marked_lines ForClose n marks) ∙
      following_append terminals (step_lines m from to key) (marked_lines ForClose n marks)

  -- The steps of the written updates are the listed ones, in list order, where no two are equal.
  written_listed : Distinct m from to key → listed (following [] (written_updates n m marks from to key)) ≡ firsts m from to key
  unfolding listed
  written_listed d =
      rw (parts_follow, listed_marks marks from to key ForClose n stepped) (listed_steps marks from to key m terminals (listed_marks marks from to key ForTerminal n []) d)

  -- Terminal marks and steps come before every close.
  pub written_legal : Legal (following [] (written_updates n m marks from to key))
  written_legal =
      rw parts_follow
      (order_legal (is_marked ForClose marks) Close stepped n
      (order_legal (λ p. true) (step_at from to key) terminals m
      (order_legal (is_marked ForTerminal marks) Terminal [] n tt (λ i q. unmarked i q))
      (λ i q. ⊎_elim (unmarked n) (λ o. step_close (edge_at from to key o.0) (get_or from i 0) (sym o.2)) (order_closed (λ p. true) (step_at from to key) i q)))
      (λ i. tt))
    where
      unmarked : (i : ℕ) {s : ℕ} → IsClosed (following [] (marked_lines ForTerminal i marks)) s → ⊥
      unmarked i {s} q = ⊎_elim Memᴰ.not-nil (λ o. terminal_close o.0 s (sym o.2)) (order_closed (is_marked ForTerminal marks) Terminal i q)

decides_mark : (k : LineMark) (h : History) (s : ℕ) → Decides (has_mark k (marks_of h s)) (Has h (marking k s))
decides_mark ForTerminal h s = rw (marks_bits h s).1 (decides_terminal h s)
decides_mark ForClose h s = rw (marks_bits h s).2 (decides_closed h s)

-- The updates of the record of some tables.
abbrev pub written_of : Graph → Tables → List Update
written_of g t = written_updates g.n g.steps t.marks t.from t.to t.key

module _ {h : History} {g : Graph} {t : Tables} (c : Consistent h g t) where
  marked_had : (k : LineMark) {x : Update} → Memᴰ x (marked_lines k g.n t.marks) → Has h x
  marked_had k m =
      let o = order_of (is_marked k t.marks) (marking k) g.n m in
      rw o.3 ((decides_mark k h o.0).sound (ap (has_mark k) (sym (c.marks o.0 o.1)) ∙ o.2))

  had_marked : (k : LineMark) (s : ℕ) → s < g.n → Has h (marking k s) → Memᴰ (marking k s) (marked_lines k g.n t.marks)
  had_marked k s r m = order_in (is_marked k t.marks) (marking k) g.n s r (ap (has_mark k) (c.marks s r) ∙ (decides_mark k h s).complete m)

  steps_had : {x : Update} → Memᴰ x (step_lines g.steps t.from t.to t.key) → Has h x
  steps_had m =
      let o = order_of (λ p. true) (step_at t.from t.to t.key) g.steps m in
      rw (o.3, listed_at c o.0 o.1) (listed_has h (omega (arith, o.1, c.steps)))

  -- The written updates are the history's, and no others.
  pub written_had : {x : Update} → Memᴰ x (written_of g t) → Has h x
  unfolding written_updates
  written_had m =
      ⊎_elim (marked_had ForTerminal)
      (λ q. ⊎_elim steps_had (marked_had ForClose) (Memᴰ.append_cases (step_lines g.steps t.from t.to t.key) q))
      (Memᴰ.append_cases (marked_lines ForTerminal g.n t.marks) m)

  pub had_written : (x : Update) → Has h x → Memᴰ x (written_of g t)
  unfolding written_updates
  had_written (Step d) m =
      let q = has_listed h m in
      let r : q.0 < g.steps = omega (arith, q.1, c.steps) in
      let e : step_at t.from t.to t.key q.0 ≡ Step d = ap Step (listed_at c q.0 r ∙ q.2) in
      Memᴰ.append_right (marked_lines ForTerminal g.n t.marks)
      (Memᴰ.append_left (marked_lines ForClose g.n t.marks) (rw e at (order_in (λ p. true) (step_at t.from t.to t.key) g.steps q.0 r refl)))
  had_written (Terminal u) m =
      Memᴰ.append_left (step_lines g.steps t.from t.to t.key ++ marked_lines ForClose g.n t.marks) (had_marked ForTerminal u (c.in_range u (Terminal u, m, refl)) m)
  had_written (Close u) m =
      Memᴰ.append_right (marked_lines ForTerminal g.n t.marks)
      (Memᴰ.append_right (step_lines g.steps t.from t.to t.key) (had_marked ForClose u (c.in_range u (Close u, m, refl)) m))

  -- The first m entries of the tables' lists are the first m steps of the history.
  firsts_take : (m : ℕ) → m ≤ g.steps → firsts m t.from t.to t.key ≡ take m (listed h)
  unfolding firsts
  firsts_take zero k = refl
  firsts_take (suc m) k =
      rw (firsts_take m (omega arith), take-suc (listed h) m (edge 0 0 0) (omega (arith, c.steps)), listed_at c m (omega arith))

  -- The steps are the history's, in their order.
  pub same_list : listed (following [] (written_of g t)) ≡ listed h
  same_list =
      written_listed g.n g.steps t.marks t.from t.to t.key (consistent_distinct c) ∙ firsts_take g.steps (omega arith) ∙
      ap (λ (i : ℕ). take i (listed h)) c.steps ∙ take-length (listed h)
