-- The search for equal steps: what a walk over the steps into a state notes at their sources, and why no two steps are equal where no walk finds two alike.
-- Assumes nothing.
use mathlib.Core.Path.{◌≡◌, refl, sym, ◌∙◌, ap}
use mathlib.Core.Logic.{◌↔◌, ◌⊎◌, inl, inr, ⊎_elim}
use mathlib.Core.Bool.{Bool, true, false, false≢true}
use mathlib.Core.List.{List}
use Prim.Native.Nat.{ℕ, suc, ◌+◌, ◌-◌, ◌≤◌, ◌<◌}
use native.Mathlib.Omega.{arith}
use native.Mathlib.Decide.{ℕ_discrete, dec_lt}
use lib.ListN.{length, get_or, set}
use lib.Seq.{get_or-set_same, get_or-set_other}
use borrow.Author.Tests.{leb-true}
use Rattle.gid.specs.Refusals.{max_key}
use Rattle.tables.specs.Bits.{has_bit, with_bit}
use Rattle.tables.specs.Fitting.{AllBelow}
use Rattle.tables.specs.Keeping.{Kept}
use Rattle.tables.specs.Listing.{Distinct}
use Rattle.tables.specs.Work.{ListRule}
use Rattle.tables.proofs.BitLaws.{bit_same, bit_other, bit_grows, bit_none}
use Rattle.tables.proofs.Keeping.{kept_none, kept_trans, kept_set}
use Rattle.std.specs.Prelude.{Some}
use Rattle.adjacency.specs.Walks.{next_at, Standing, Turn, Starts, Linked}
use Rattle.adjacency.proofs.Walks.{clamp_below, meets_step, meets_inside, linked}
use Rattle.search.specs.Spreading.{Chains, chains, into}
use Rattle.search.proofs.Walking.{Walking, walk_first, walk_here, walk_next, walk_done, linked_inside}
use Rattle.audit.specs.Facts.{All, key_fits}
use Rattle.audit.specs.Parts.{Below, KeyIn, Noted, outside, again, new, ApartAll, ApartKeys, FromSources, SourcesNoted, Differ}

-- An entry after a store at u: the value that was stored, or as it was.
stored : (seen : List ℕ) (u x w : ℕ) → u < length seen → ((w ≡ u) × (get_or (set seen u x) w 0 ≡ x)) ⊎ ((w ≡ u → ⊥) × (get_or (set seen u x) w 0 ≡ get_or seen w 0))
stored seen u x w h = at (ℕ_discrete w u)
  where
    at : Dec (w ≡ u) → ((w ≡ u) × (get_or (set seen u x) w 0 ≡ x)) ⊎ ((w ≡ u → ⊥) × (get_or (set seen u x) w 0 ≡ get_or seen w 0))
    at (yes e) = inl (e, rw e (get_or-set_same seen u x 0 h))
    at (no d) = inr (d, get_or-set_other seen u w x 0 d)

-- A walk over the steps into v that stands at `at` has met those from there on.
abbrev MetAt : Chains → ℕ → ℕ → ℕ → ℕ → Type 0
MetAt c v at u q = (at ≤ q) × into c u q v

-- Each is noted, no two are alike, and nothing else is noted.
pub record Noting (base : ℕ) (c : Chains) (key : List ℕ) (v : ℕ) (seen₀ seen : List ℕ) (w : Standing) : Type 0 where
  pub walk : Walking c.head c.next c.m v (λ i. w.at ≤ i) w
  pub apart : (u p q : ℕ) → MetAt c v w.at u p → p < q → into c u q v → get_or key p 0 ≡ get_or key q 0 → KeyIn base (get_or key p 0) → ⊥
  pub bits : (u q : ℕ) → MetAt c v w.at u q → KeyIn base (get_or key q 0) → has_bit (get_or key q 0 - base) (get_or seen u 0) ≡ true
  pub only : (u k : ℕ) → u < c.n → has_bit k (get_or seen u 0) ≡ true → (q : ℕ) × MetAt c v w.at u q × (get_or key q 0 ≡ base + k)
  pub sources : FromSources c.n (into c) v seen
  pub kept : Kept c.n seen₀ seen

module _ {base : ℕ} {c : Chains} {key : List ℕ} {v : ℕ} {seen₀ : List ℕ} where
  pub noting_first : {w : Standing} → AllBelow c.n 0 seen₀ → Starts c.head c.next c.m v w → Noting base c key v seen₀ seen₀ w
  noting_first {w} z s =
      record {
        walk = walk_first s;
        apart = λ u p q m. absurd (past m);
        bits = λ u q m. absurd (past m);
        only = λ u k h b. absurd (false≢true (sym (bit_none k) ∙ rw (z u h) at b));
        sources = λ u h d. absurd (d (z u h));
        kept = kept_none c.n seen₀;
      }
    where
      -- what it meets is before where it stands
      past : {u q : ℕ} → MetAt c v w.at u q → ⊥
      past m = omega (arith, m.0, meets_inside m.1.0, s.0)

  module _ {seen : List ℕ} {w w' : Standing} (o : Noting base c key v seen₀ seen w) (p : ℕ) (turn : Turn w (Some p) w') (ends : Below c.n c.m c.ends) where
    abbrev u : ℕ
    u = get_or c.ends p 0

    here : into c u p v
    here = (walk_here o.walk p turn, refl)

    pub noting_source : u < c.n
    noting_source = ends p (linked_inside c.head c.next c.m v here.0)

    less : w'.at < w.at
    less = let l = clamp_below (get_or w.next (w.at - 1) 0) w.at (omega (arith, turn.0)) in omega (arith, turn.1)

    module _ (long : c.n ≤ length seen₀) where
      -- what it has met after the step where it stands is that step, or was met before
      earlier : {x q : ℕ} → MetAt c v w'.at x q → (q ≡ p) ⊎ MetAt c v w.at x q
      earlier {x} {q} (l, a) = ⊎_elim (λ d. inr (d, a)) (λ m. ⊎_elim inl (λ k. absurd (omega (arith, l, there, meets_inside k))) (meets_step (rw place at m))) (o.walk.rest q a.0)
        where
          place : w.at ≡ suc p
          place = omega (arith, turn.0)

          there : w'.at ≡ next_at c.next (suc p)
          there = rw (← place, ← o.walk.goes_by) turn.1

      goes : Walking c.head c.next c.m v (λ i. w'.at ≤ i) w'
      goes = walk_next (walk_done o.walk (λ i d. omega (arith, less))) p turn (omega (arith, less, turn.0))

      -- The step is passed over: its key is not in the range.
      noting_passed : (KeyIn base (get_or key p 0) → ⊥) → Noting base c key v seen₀ seen w'
      noting_passed out =
          record {
            walk = goes;
            apart = λ x i j m l a k r. ⊎_elim (λ z. out (rw z at r)) (λ m'. o.apart x i j m' l a k r) (earlier m);
            bits = λ x j m r. ⊎_elim (λ z. absurd (out (rw z at r))) (λ m'. o.bits x j m' r) (earlier m);
            only = λ x k h b. let q = o.only x k h b in (q.0, (omega (arith, q.1.0, less), q.1.1), q.2);
            sources = o.sources;
            kept = o.kept;
          }

      -- It is noted, and no step like it was.
      module _ (r : KeyIn base (get_or key p 0)) (f : has_bit (get_or key p 0 - base) (get_or seen u 0) ≡ false) where
        abbrev bit : ℕ
        bit = get_or key p 0 - base

        abbrev seen' : List ℕ
        seen' = set seen u (with_bit bit (get_or seen u 0))

        at_store : (x : ℕ) → ((x ≡ u) × (get_or seen' x 0 ≡ with_bit bit (get_or seen u 0))) ⊎ ((x ≡ u → ⊥) × (get_or seen' x 0 ≡ get_or seen x 0))
        at_store x = stored seen u (with_bit bit (get_or seen u 0)) x (omega (arith, noting_source, long, o.kept.size))

        grown : (x k : ℕ) → has_bit k (get_or seen x 0) ≡ true → has_bit k (get_or seen' x 0) ≡ true
        grown x k b = ⊎_elim (λ z. rw z.1 (bit_grows k bit (get_or seen u 0) (rw z.0 at b))) (λ z. rw z.1 b) (at_store x)

        -- the source of a step at p
        from_here : {x q : ℕ} → q ≡ p → into c x q v → x ≡ u
        from_here e a = sym a.1 ∙ ap (λ (i : ℕ). get_or c.ends i 0) e

        noted : (x q : ℕ) → q ≡ p → into c x q v → has_bit (get_or key q 0 - base) (get_or seen' x 0) ≡ true
        noted x q z a = rw (z, from_here z a) (⊎_elim (λ y. rw y.1 (bit_same bit (get_or seen u 0))) (λ y. absurd (y.0 refl)) (at_store u))

        alike : (x i j : ℕ) → i ≡ p → into c x i v → i < j → into c x j v → get_or key i 0 ≡ get_or key j 0 → KeyIn base (get_or key i 0) → ⊥
        alike x i j z m l a k s =
            let b = o.bits x j (omega (arith, l, z), a) (rw k at s) in
            let y : get_or key j 0 ≡ get_or key p 0 = sym k ∙ ap (λ (q : ℕ). get_or key q 0) z in
            false≢true (sym f ∙ rw (y, from_here z m) at b)

        which : (x k : ℕ) → x < c.n → has_bit k (get_or seen' x 0) ≡ true → (q : ℕ) × MetAt c v w'.at x q × (get_or key q 0 ≡ base + k)
        which x k h b = ⊎_elim (λ z. rw z.0 (mine (ℕ_discrete k bit) (rw z.1 at b))) (λ z. older (o.only x k h (rw z.1 at b))) (at_store x)
          where
            older : {x : ℕ} → (q : ℕ) × MetAt c v w.at x q × (get_or key q 0 ≡ base + k) → (q : ℕ) × MetAt c v w'.at x q × (get_or key q 0 ≡ base + k)
            older (q, (l, a), y) = (q, (omega (arith, l, less), a), y)

            mine : Dec (k ≡ bit) → has_bit k (with_bit bit (get_or seen u 0)) ≡ true → (q : ℕ) × MetAt c v w'.at u q × (get_or key q 0 ≡ base + k)
            mine (yes y) q = (p, (omega (arith, less), here), omega (arith, r, y))
            mine (no d) q = older (o.only u k noting_source (sym (bit_other k bit (get_or seen u 0) d) ∙ q))

        noting_new : Noting base c key v seen₀ seen' w'
        noting_new =
            record {
              walk = goes;
              apart = λ x i j m l a k s. ⊎_elim (λ z. alike x i j z m.1 l a k s) (λ m'. o.apart x i j m' l a k s) (earlier m);
              bits = λ x j m s. ⊎_elim (λ z. noted x j z m.1) (λ m'. grown x (get_or key j 0 - base) (o.bits x j m' s)) (earlier m);
              only = which;
              sources = λ x h d. ⊎_elim (λ z. (p, rw z.0 here)) (λ z. o.sources x h (λ y. d (z.1 ∙ y))) (at_store x);
              kept = kept_trans o.kept (kept_set c.n seen u (with_bit bit (get_or seen u 0)) noting_source);
            }

    pub noting_next : {x : ℕ} {seen' : List ℕ} {r : Bool} → c.n ≤ length seen₀ → x ≡ get_or c.ends p 0 → Noted base x (get_or key p 0) seen seen' r → r ≡ true → Noting base c key v seen₀ seen' w'
    noting_next l z (outside a k s) t = rw s (noting_passed l k)
    noting_next l z (again a k b s) t = absurd (false≢true (sym a ∙ t))
    noting_next l z (new a k b s) t = rw (s, z) (noting_new l k (rw z at b))

    -- A step with the bit of one before is its equal.
    pub noting_stops : {x : ℕ} {seen' : List ℕ} {r : Bool} → x ≡ get_or c.ends p 0 → Noted base x (get_or key p 0) seen seen' r → r ≡ false → SourcesNoted base c.n (into c) key v seen₀ seen' false
    noting_stops z (outside a k s) t = absurd (false≢true (sym t ∙ a))
    noting_stops z (new a k b s) t = absurd (false≢true (sym t ∙ a))
    noting_stops z (again a k b s) t =
        let q = o.only u (get_or key p 0 - base) noting_source (rw z at b) in
        record {
          exact = (λ y. absurd (false≢true y), λ f. absurd (f u p q.0 (omega (arith, q.1.0, turn.0)) here q.1.1 (omega (arith, q.2, k)) k));
          noted = rw s o.sources;
          kept = rw s o.kept;
        }

-- The walk that clears what is noted: the sources of the steps that it met are clear.
pub record Clearing (c : Chains) (v : ℕ) (seen₀ seen : List ℕ) (w : Standing) : Type 0 where
  pub walk : Walking c.head c.next c.m v (λ i. get_or seen (get_or c.ends i 0) 0 ≡ 0) w
  pub sources : FromSources c.n (into c) v seen
  pub kept : Kept c.n seen₀ seen

module _ {c : Chains} {v : ℕ} {seen₀ : List ℕ} where
  module _ {seen : List ℕ} {w w' : Standing} (o : Clearing c v seen₀ seen w) (p : ℕ) (turn : Turn w (Some p) w') (ends : Below c.n c.m c.ends) where
    pub clearing_source : get_or c.ends p 0 < c.n
    clearing_source = ends p (linked_inside c.head c.next c.m v (walk_here o.walk p turn))

    pub clearing_next : {x : ℕ} → c.n ≤ length seen₀ → x ≡ get_or c.ends p 0 → Clearing c v seen₀ (set seen x 0) w'
    clearing_next {x} long z =
        record {
          walk = walk_next (walk_done o.walk (λ i d. cleared (get_or c.ends i 0) d)) p turn (rw (← z) (get_or-set_same seen x 0 0 inside));
          sources = λ u h d. o.sources u h (λ y. d (cleared u y));
          kept = kept_trans o.kept (kept_set c.n seen x 0 (rw z clearing_source));
        }
      where
        inside : x < length seen
        inside = omega (arith, clearing_source, z, long, o.kept.size)

        cleared : (u : ℕ) → get_or seen u 0 ≡ 0 → get_or (set seen x 0) u 0 ≡ 0
        cleared u y = ⊎_elim (λ q. q.1) (λ q. q.1 ∙ y) (stored seen x 0 u inside)

-- One state after the other: P says that the steps into one differ.
pub record Comparing (n : ℕ) (P : ℕ → Type 0) (seen₀ seen : List ℕ) (v : ℕ) : Type 0 where
  pub passed : (w : ℕ) → w < v → P w
  pub blank : AllBelow n 0 seen
  pub kept : Kept n seen₀ seen

-- Both ranges of keys, over a table that is emptied first.
pub both_differ : {n : ℕ} {P Q : Type 0} {seen₀ seen₁ seen₂ seen : List ℕ} {r s : Bool} → Kept n seen₀ seen₁ → Differ n P seen₁ seen₂ r → r ≡ true → Differ n Q seen₂ seen s → Differ n (P × Q) seen₀ seen s
both_differ empty d t e =
    record {
      exact = (λ y. (d.exact.0 t, e.exact.0 y), λ a. e.exact.1 a.1);
      blank = e.blank;
      kept = kept_trans empty (kept_trans d.kept e.kept);
    }

-- Where the list rule holds and keys are at most 31, walks meet the listed steps, and the two ranges have all keys: no two that walks meet are equal exactly where no two listed ones are.
pub apart_distinct : {n m : ℕ} (from key : List ℕ) {to head next : List ℕ} → ListRule n m to head next → Below n m to → All m (λ p. key_fits (get_or key p 0)) → ApartKeys n (into (chains n m from head next)) key ↔ Distinct m from to key
unfolding key_fits
apart_distinct {n} {m} from key {to} {head} {next} rule ends keys = (λ a p q l h u v k. equal a p q l h u v k (dec_lt (get_or key p 0) 16), λ d. (other d, other d))
  where
    -- a step, as a walk meets it
    met : {p v : ℕ} → p < m → get_or to p 0 ≡ v → Linked head next m v p
    met {p} {v} h e = (linked rule v (rw e at (ends p h)) p).1 (h, e)

    equal : ApartKeys n (into (chains n m from head next)) key → (p q : ℕ) → p < q → q < m → get_or from p 0 ≡ get_or from q 0 → get_or to p 0 ≡ get_or to q 0 → get_or key p 0 ≡ get_or key q 0 → Dec (get_or key p 0 < 16) → ⊥
    equal a p q l h u v k (yes s) = a.0 (get_or to p 0) (ends p (omega arith)) (get_or from p 0) p q l (met (omega arith) refl, refl) (met h (sym v), sym u) k (omega arith, omega arith)
    equal a p q l h u v k (no s) =
        a.1 (get_or to p 0) (ends p (omega arith)) (get_or from p 0) p q l (met (omega arith) refl, refl) (met h (sym v), sym u) k
        (omega arith, omega (arith, leb-true (get_or key p 0) max_key (keys p (omega arith))))

    other : Distinct m from to key → {base : ℕ} → ApartAll base n (into (chains n m from head next)) key
    other d v h u p q l a b k r =
        let i = (linked rule v h p).0 a.0 in
        let j = (linked rule v h q).0 b.0 in
        d p q l j.0 (a.1 ∙ sym b.1) (i.1 ∙ sym j.1) k
