-- A history that gives tables back: their terminal marks, then their listed steps, then their closes.
-- Assumes nothing.
use mathlib.Core.Path.{◌≡◌, refl, sym, ◌∙◌, ap}
use mathlib.Core.Logic.{◌⊎◌, inl, inr, ⊎_elim}
use mathlib.Core.Bool.{Bool, true, false, cond}
use mathlib.Core.List.Memᴰ
use mathlib.Core.List.{List, [], ◌∷◌, ◌++◌, map, append-nil, map-append}
use Prim.Native.Nat.{ℕ, zero, suc, ◌<◌, ◌≤◌}
use native.Mathlib.Omega.{arith}
use native.Mathlib.Decide.{ℕ_discrete}
use lib.ListN.{length, get_or, take, length-append, get_or-append}
use lib.Seq.{take-suc, get_or-append_seam}
use Rattle.gid.specs.declared.Edge.{Edge}
use Rattle.gid.specs.declared.Update.{Update}
use Rattle.gid.specs.declared.Update.TheVariants.{Step, Terminal, Close}
use Rattle.gid.specs.Updates.{edge}
use Rattle.gid.specs.Histories.{History, Has, IsTerminal, IsClosed, MayFollow, Legal, is_in, added, listed}
use Rattle.gid.proofs.Listing.{in_at, new_listed}
use Rattle.gid.proofs.Tests.{step_terminal, step_close, terminal_close}
use Rattle.tables.specs.Listing.{Distinct}
use Rattle.tables.specs.Fitting.{keys}
use Rattle.tables.proofs.Listed.{ListsSteps}

-- An update of one kind for each state below n that passes a test.
marking : (ℕ → Update) → (ℕ → Bool) → ℕ → History → History
marking kind f zero h = h
marking kind f (suc n) h = cond (f n) (kind n ∷ marking kind f n h) (marking kind f n h)

listing : (from to key : List ℕ) → ℕ → History → History
listing from to key zero h = h
listing from to key (suc m) h = Step (edge (get_or from m 0) (get_or to m 0) (get_or key m 0)) ∷ listing from to key m h

-- The first m rows of the three columns.
abbrev row : (from to key : List ℕ) → ℕ → Edge
row from to key p = edge (get_or from p 0) (get_or to p 0) (get_or key p 0)

rows : (from to key : List ℕ) → ℕ → List Edge
rows from to key zero = []
rows from to key (suc m) = rows from to key m ++ (row from to key m ∷ [])

module _ (from to key : List ℕ) where
  rows_length : (m : ℕ) → length (rows from to key m) ≡ m
  unfolding rows
  rows_length zero = refl
  rows_length (suc m) = omega (arith, rows_length m, length-append (rows from to key m) (row from to key m ∷ []))

  rows_at : (m p : ℕ) → p < m → get_or (rows from to key m) p (edge 0 0 0) ≡ row from to key p
  unfolding rows
  rows_at zero p k = absurd (omega arith)
  rows_at (suc m) p k = at (ℕ_discrete p m) (rows_at m p)
    where
      at : Dec (p ≡ m) → (p < m → get_or (rows from to key m) p (edge 0 0 0) ≡ row from to key p) → get_or (rows from to key m ++ (row from to key m ∷ [])) p (edge 0 0 0) ≡ row from to key p
      at (yes z) i =
          let w : p ≡ length (rows from to key m) = omega (arith, z, rows_length m) in
          ap (λ (q : ℕ). get_or (rows from to key m ++ (row from to key m ∷ [])) q (edge 0 0 0)) w ∙ get_or-append_seam (rows from to key m) (row from to key m) [] (edge 0 0 0) ∙ ap (row from to key) (sym z)
      at (no d) i = get_or-append (rows from to key m) (row from to key m ∷ []) (edge 0 0 0) p (omega (arith, rows_length m)) ∙ i (omega arith)

  -- a column of them
  rows_column : (f : Edge → ℕ) (l : List ℕ) → ((p : ℕ) → get_or l p 0 ≡ f (row from to key p)) → (m : ℕ) → m ≤ length l → take m l ≡ map f (rows from to key m)
  unfolding rows
  rows_column f l e zero k = refl
  rows_column f l e (suc m) k = rw (take-suc l m 0 k, rows_column f l e m (omega arith), map-append, e m)

  -- where no two are equal, a row is none of those before it
  rows_new : (m : ℕ) → Distinct (suc m) from to key → is_in (rows from to key m) (row from to key m) ≡ false
  rows_new m d = at (is_in (rows from to key m) (row from to key m)) refl
    where
      at : (b : Bool) → is_in (rows from to key m) (row from to key m) ≡ b → is_in (rows from to key m) (row from to key m) ≡ false
      at false z = z
      at true z =
          let r = in_at (rows from to key m) (row from to key m) z in
          let k : r.0 < m = omega (arith, r.1, rows_length m) in
          let y : row from to key r.0 ≡ row from to key m = sym (rows_at m r.0 k) ∙ r.2 in
          absurd (d r.0 m k (omega arith) (ap (λ (x : Edge). x.from) y) (ap (λ (x : Edge). x.to) y) (ap (λ (x : Edge). x.key) y))

pub canonical : ℕ → ℕ → (from to key : List ℕ) → (ℕ → Bool) → (ℕ → Bool) → History
canonical n m from to key terminal closed = marking Close closed n (listing from to key m (marking Terminal terminal n []))

-- one of the marks
abbrev Marked : (ℕ → Update) → (ℕ → Bool) → ℕ → Update → Type 0
Marked kind f n x = (s : ℕ) × (s < n) × (f s ≡ true) × (x ≡ kind s)

module _ (kind : ℕ → Update) (f : ℕ → Bool) (h : History) where
  marking_has : (n : ℕ) {x : Update} → Has (marking kind f n h) x → Marked kind f n x ⊎ Has h x
  unfolding marking
  marking_has zero m = inr m
  marking_has (suc n) {x} m = at (f n) refl m (marking_has n)
    where
      older : Marked kind f n x ⊎ Has h x → Marked kind f (suc n) x ⊎ Has h x
      older = ⊎_elim (λ q. inl (q.0, omega (arith, q.1), q.2, q.3)) inr

      at : (b : Bool) → f n ≡ b → Has (cond b (kind n ∷ marking kind f n h) (marking kind f n h)) x → (Has (marking kind f n h) x → Marked kind f n x ⊎ Has h x) → Marked kind f (suc n) x ⊎ Has h x
      at true e k i = ⊎_elim (λ q. inl (n, omega arith, e, q)) (λ q. older (i q)) (Memᴰ.cases_cons k)
      at false e k i = older (i k)

  marking_older : (n : ℕ) {x : Update} → Has h x → Has (marking kind f n h) x
  unfolding marking
  marking_older zero m = m
  marking_older (suc n) {x} m = at (f n) (marking_older n m)
    where
      at : (b : Bool) → Has (marking kind f n h) x → Has (cond b (kind n ∷ marking kind f n h) (marking kind f n h)) x
      at true k = Memᴰ.tail k
      at false k = k

  marking_mark : (n s : ℕ) → s < n → f s ≡ true → Has (marking kind f n h) (kind s)
  unfolding marking
  marking_mark zero s l e = absurd (omega arith)
  marking_mark (suc n) s l e = at (ℕ_discrete s n) (f n) refl (λ k. marking_mark n s k e)
    where
      at : Dec (s ≡ n) → (b : Bool) → f n ≡ b → (s < n → Has (marking kind f n h) (kind s)) → Has (cond b (kind n ∷ marking kind f n h) (marking kind f n h)) (kind s)
      at (yes q) true z i = let y : kind s ≡ kind n = rw q in Memᴰ.head y
      at (yes q) false z i = absurd (let y : true ≡ false = sym e ∙ rw q z in let w : ◌≡◌ {A = ℕ} 0 1 = cc in omega arith)
      at (no d) true z i = Memᴰ.tail (i (omega arith))
      at (no d) false z i = i (omega arith)

  -- updates that are no steps list none
  marking_listed : ((has : Edge → Bool) (s : ℕ) → added has (kind s) ≡ []) → (n : ℕ) → listed (marking kind f n h) ≡ listed h
  unfolding marking listed
  marking_listed e zero = refl
  marking_listed e (suc n) = at (f n) (marking_listed e n)
    where
      at : (b : Bool) → listed (marking kind f n h) ≡ listed h → listed (cond b (kind n ∷ marking kind f n h) (marking kind f n h)) ≡ listed h
      at true i = rw (e (is_in (listed (marking kind f n h))) n, append-nil) i
      at false i = i

  marking_legal : Legal h → (n : ℕ) → ((s : ℕ) → MayFollow (marking kind f s h) (kind s)) → Legal (marking kind f n h)
  unfolding marking
  marking_legal l zero o = l
  marking_legal l (suc n) o = at (f n) (marking_legal l n o)
    where
      at : (b : Bool) → Legal (marking kind f n h) → Legal (cond b (kind n ∷ marking kind f n h) (marking kind f n h))
      at true i = (i, o n)
      at false i = i

module _ (from to key : List ℕ) (h : History) where
  -- what is no step was there before
  listing_has : (m : ℕ) {x : Update} → ((e : Edge) → x ≡ Step e → ⊥) → Has (listing from to key m h) x → Has h x
  unfolding listing
  listing_has zero o k = k
  listing_has (suc m) o k = ⊎_elim (λ q. absurd (o _ q)) (listing_has m o) (Memᴰ.cases_cons k)

  listing_older : (m : ℕ) {x : Update} → Has h x → Has (listing from to key m h) x
  unfolding listing
  listing_older zero k = k
  listing_older (suc m) k = Memᴰ.tail (listing_older m k)

  -- no two rows are equal, so each step is listed
  listing_listed : listed h ≡ [] → (m : ℕ) → Distinct m from to key → listed (listing from to key m h) ≡ rows from to key m
  unfolding listing rows
  listing_listed e zero d = e
  listing_listed e (suc m) d =
      let i = listing_listed e m (λ p q k l. d p q k (omega arith)) in
      new_listed (listing from to key m h) (row from to key m) (rw i (rows_new from to key m d)) ∙ ap (λ (l : List Edge). l ++ (row from to key m ∷ [])) i

  -- a step is one of the list, with its key, or was there before
  listing_step : (m : ℕ) {e : Edge} → Has (listing from to key m h) (Step e) → ((p : ℕ) × (p < m) × (e.key ≡ get_or key p 0)) ⊎ Has h (Step e)
  unfolding listing
  listing_step zero k = inr k
  listing_step (suc m) {e} k = ⊎_elim (λ q. inl (m, omega arith, let d : e ≡ edge (get_or from m 0) (get_or to m 0) (get_or key m 0) = cc in ap (λ (x : Edge). x.key) d)) (λ q. ⊎_elim (λ r. inl (r.0, omega (arith, r.1), r.2)) inr (listing_step m q)) (Memᴰ.cases_cons k)

  listing_legal : Legal h → (m : ℕ) → ((s p : ℕ) → IsClosed (listing from to key p h) s → ⊥) → Legal (listing from to key m h)
  unfolding listing
  listing_legal l zero o = l
  listing_legal l (suc m) o = (listing_legal l m o, o (get_or from m 0) m)

-- The history of the n states and m listed steps.
module _ (n m : ℕ) (from to key : List ℕ) (terminal closed : ℕ → Bool) where
  -- beneath the closes, what is no step is a terminal mark
  terminals_has : {k : ℕ} {x : Update} → Has (marking Terminal terminal k []) x → Marked Terminal terminal k x
  terminals_has {k} q = ⊎_elim (λ y. y) (λ y. absurd (Memᴰ.not-nil y)) (marking_has Terminal terminal [] k q)

  beneath_has : (p : ℕ) {x : Update} → ((e : Edge) → x ≡ Step e → ⊥) → Has (listing from to key p (marking Terminal terminal n [])) x → Marked Terminal terminal n x
  beneath_has p o q = terminals_has (listing_has from to key (marking Terminal terminal n []) p o q)

  pub canonical_terminal : (s : ℕ) → s < n → terminal s ≡ true → IsTerminal (canonical n m from to key terminal closed) s
  unfolding canonical
  canonical_terminal s l e = marking_older Close closed _ n (listing_older from to key _ m (marking_mark Terminal terminal [] n s l e))

  pub canonical_closed : (s : ℕ) → s < n → closed s ≡ true → IsClosed (canonical n m from to key terminal closed) s
  unfolding canonical
  canonical_closed s l e = marking_mark Close closed _ n s l e

  pub terminal_canonical : {s : ℕ} → IsTerminal (canonical n m from to key terminal closed) s → (s < n) × (terminal s ≡ true)
  unfolding canonical
  terminal_canonical {s} q = ⊎_elim (λ y. absurd (terminal_close s y.0 y.3)) (λ y. at (beneath_has m (λ e z. step_terminal e s (sym z)) y)) (marking_has Close closed _ n q)
    where
      at : Marked Terminal terminal n (Terminal s) → (s < n) × (terminal s ≡ true)
      at (r, l, e, z) = let w : s ≡ r = cc in rw w (l, e)

  unclosed : (s p : ℕ) → IsClosed (listing from to key p (marking Terminal terminal n [])) s → ⊥
  unclosed s p q = let y = beneath_has p (λ e z. step_close e s (sym z)) q in terminal_close y.0 s (sym y.3)

  pub closed_canonical : {s : ℕ} → IsClosed (canonical n m from to key terminal closed) s → (s < n) × (closed s ≡ true)
  unfolding canonical
  closed_canonical {s} q = ⊎_elim at (λ y. absurd (unclosed s m y)) (marking_has Close closed _ n q)
    where
      at : Marked Close closed n (Close s) → (s < n) × (closed s ≡ true)
      at (r, l, e, z) = let w : s ≡ r = cc in rw w (l, e)

  -- Its steps are those of the lists, where no two of them are equal.
  module _ (distinct : Distinct m from to key) where
    canonical_listed : listed (canonical n m from to key terminal closed) ≡ rows from to key m
    unfolding canonical listed
    canonical_listed =
        marking_listed Close closed (listing from to key m (marking Terminal terminal n [])) (λ has s. refl) n
        ∙ listing_listed from to key (marking Terminal terminal n []) (marking_listed Terminal terminal [] (λ has s. refl) n) m distinct

    pub canonical_lists : m ≤ length from → m ≤ length to → ListsSteps (canonical n m from to key terminal closed) m from to
    canonical_lists in_from in_to =
        record {
          count = rw canonical_listed (sym (rows_length from to key m));
          froms = rw canonical_listed (rows_column from to key (λ (e : Edge). e.from) from (λ p. refl) m in_from);
          tos = rw canonical_listed (rows_column from to key (λ (e : Edge). e.to) to (λ p. refl) m in_to);
        }

    pub canonical_keys : m ≤ length key → take m key ≡ keys (canonical n m from to key terminal closed)
    canonical_keys in_key = rw canonical_listed (rows_column from to key (λ (e : Edge). e.key) key (λ p. refl) m in_key)

  pub canonical_key : {e : Edge} → Has (canonical n m from to key terminal closed) (Step e) → (p : ℕ) × (p < m) × (e.key ≡ get_or key p 0)
  unfolding canonical
  canonical_key {e} q =
      ⊎_elim (λ y. absurd (step_close e y.0 y.3))
      (λ y. ⊎_elim (λ z. z) (λ z. let w = terminals_has z in absurd (step_terminal e w.0 w.3)) (listing_step from to key _ m y))
      (marking_has Close closed _ n q)

  -- Marks and steps come before every close.
  pub canonical_legal : Legal (canonical n m from to key terminal closed)
  unfolding canonical
  canonical_legal =
      marking_legal Close closed _
      (listing_legal from to key _ (marking_legal Terminal terminal [] tt n (λ s q. let y = terminals_has q in terminal_close y.0 s (sym y.3))) m unclosed)
      n
      (λ s. tt)
