-- What is drawn from a reader's tables is the picture of the accepted history.
-- Assumes nothing.
use mathlib.Core.Path.{◌≡◌, refl, sym, ◌∙◌, ap, subst}
use mathlib.Core.Bool.{Bool}
use mathlib.Core.List.{List}
use Prim.Native.Nat.{ℕ, zero, suc, ◌≤◌, ◌<◌}
use native.Mathlib.Omega.{arith}
use lib.ListN.{length, get_or}
use lib.Seq.{get_or-take}
use borrow.Author.Tests.{le-ltb}
use Rattle.gid.specs.Refusals.{max_states, max_steps}
use Rattle.gid.specs.Histories.{History, listed}
use Rattle.gid.specs.Statuses.{is_terminal, status}
use Rattle.gid.specs.Successors.{no_successor, SuccessorRule}
use Rattle.gid.proofs.Chains.{chain_map, same_rule}
use Rattle.tables.specs.declared.Graph.{Graph}
use Rattle.tables.specs.Marks.{has_terminal}
use Rattle.tables.specs.Tables.{Tables, Long}
use Rattle.tables.specs.Fitting.{sources, targets, keys, StepAt}
use Rattle.reader.specs.Standing.{Standing}
use Rattle.tables.proofs.Bits.{marks_bits}
use Rattle.tables.proofs.Sizes.{long-enough}
use Rattle.picture.specs.Picture.{states_text, steps_text, drawing, picture}
use Rattle.picture.specs.Drawer.{drawn_states, drawn_steps}
use Rattle.picture.specs.Progress.{Shows}
use Rattle.picture.proofs.Drawing.{read_same}

-- statuses, marks and steps that agree are drawn the same
states_same : (n : ℕ) (f g : ℕ → ℕ) (a b : ℕ → Bool) → ((s : ℕ) → s < n → f s ≡ g s) → ((s : ℕ) → s < n → a s ≡ b s) → states_text n f a ≡ states_text n g b
unfolding states_text
states_same zero f g a b e q = refl
states_same (suc n) f g a b e q = rw (states_same n f g a b (λ s h. e s (omega arith)) (λ s h. q s (omega arith)), e n (omega arith), q n (omega arith)) refl

steps_same : (m : ℕ) (from to key from' to' key' successor : ℕ → ℕ) → ((p : ℕ) → p < m → from p ≡ from' p) → ((p : ℕ) → p < m → to p ≡ to' p) → ((p : ℕ) → p < m → key p ≡ key' p) → steps_text m from to key successor ≡ steps_text m from' to' key' successor
unfolding steps_text
steps_same zero from to key from' to' key' successor e q k = refl
steps_same (suc m) from to key from' to' key' successor e q k =
    rw (steps_same m from to key from' to' key' successor (λ p h. e p (omega arith)) (λ p h. q p (omega arith)) (λ p h. k p (omega arith)), e m (omega arith), q m (omega arith), k m (omega arith)) refl

-- the successor rule by entries that agree
entries_same : (n : ℕ) (Arc : ℕ → ℕ → ℕ → Type 0) (status successor successor' : ℕ → ℕ) → ((s : ℕ) → s < n → successor s ≡ successor' s) → SuccessorRule n Arc status successor → SuccessorRule n Arc status successor'
entries_same n Arc status successor successor' e r =
    record {
      listed = λ s u. let q = r.listed s u in (q.0, subst (λ (p : ℕ). Arc s p q.0) (e s u.0) q.1);
      escapes = λ s u. let q = r.escapes s u in (q.0, q.1, chain_map {Next' = λ v t. Arc v (successor' v) t} (λ v o. o) (λ v o. o) (λ v t x a. subst (λ (p : ℕ). Arc v p t) (e v x.0) a) q.2);
      others = λ s h d. sym (e s h) ∙ r.others s h d;
    }

module _ {start : Graph} (few : start.n ≤ max_states) (low : start.limit ≤ max_steps) {h : History} {g : Graph} {t : Tables} (s : Standing start h g t) where
  abbrev picks : ℕ → ℕ
  picks x = get_or t.successor x no_successor

  statuses : (x : ℕ) → x < start.n → get_or t.status x 0 ≡ status h x
  statuses x z = s.fits.status x (omega (arith, s.states))

  terminals : (x : ℕ) → x < start.n → has_terminal (get_or t.marks x 0) ≡ is_terminal h x
  terminals x z = ap has_terminal (s.fits.marks x (omega (arith, s.states))) ∙ (marks_bits h x).1

  froms : (p : ℕ) → p < g.steps → get_or t.from p 0 ≡ get_or (sources h) p 0
  froms p z = sym (get_or-take g.steps t.from p 0 z) ∙ ap (λ (l : List ℕ). get_or l p 0) s.fits.from

  tos : (p : ℕ) → p < g.steps → get_or t.to p 0 ≡ get_or (targets h) p 0
  tos p z = sym (get_or-take g.steps t.to p 0 z) ∙ ap (λ (l : List ℕ). get_or l p 0) s.fits.to

  bys : (p : ℕ) → p < g.steps → get_or t.key p 0 ≡ get_or (keys h) p 0
  bys p z = sym (get_or-take g.steps t.key p 0 z) ∙ ap (λ (l : List ℕ). get_or l p 0) s.fits.key

  -- the tables' steps are the history's
  steps_listed : (a p b : ℕ) → StepAt g.steps t.from t.to a p b → StepAt (length (listed h)) (sources h) (targets h) a p b
  steps_listed a p b z = (omega (arith, z.0, s.fits.steps), sym (froms p z.0) ∙ z.1, sym (tos p z.0) ∙ z.2)

  -- the tables are long enough
  roomy : Long start.n start.n start.limit t
  roomy = (long-enough start.n start.n start.limit t s.long).1

  -- every step is drawn
  all_drawn : drawn_steps g.steps (length t.from) (length t.to) (length t.key) ≡ g.steps
  all_drawn =
      rw (le-ltb max_steps g.steps (omega (arith, s.room, low)), le-ltb (length t.from) g.steps (omega (arith, s.room, roomy.from)), le-ltb (length t.to) g.steps (omega (arith, s.room, roomy.to)), le-ltb (length t.key) g.steps (omega (arith, s.room, roomy.key)))

  -- The picture of the tables is the picture of the history.
  pub picture_says : Shows start.n h (picture (drawn_states g.n) (drawn_steps g.steps (length t.from) (length t.to) (length t.key)) t.status t.marks t.from t.to t.key t.successor)
  unfolding drawing
  picture_says =
      record {
        successor = picks;
        rule =
            entries_same start.n (StepAt (length (listed h)) (sources h) (targets h)) (status h) (λ x. get_or t.successor x 0) picks (λ x z. read_same t.successor x 0 no_successor (omega (arith, roomy.successor)))
            (same_rule start.n (StepAt g.steps t.from t.to) (StepAt (length (listed h)) (sources h) (targets h)) (λ x. get_or t.status x 0) (status h) (λ x. get_or t.successor x 0) steps_listed (λ x z. sym (statuses x z))
            (subst (λ (n : ℕ). SuccessorRule n (StepAt g.steps t.from t.to) (λ x. get_or t.status x 0) (λ x. get_or t.successor x 0)) s.states s.fits.successor));
        bytes =
            rw (le-ltb max_states g.n (omega (arith, s.states, few)), s.states, all_drawn, states_same start.n (λ x. get_or t.status x 0) (status h) (λ x. has_terminal (get_or t.marks x 0)) (is_terminal h) statuses terminals, steps_same g.steps (λ p. get_or t.from p 0) (λ p. get_or t.to p 0) (λ p. get_or t.key p 0) (λ p. get_or (sources h) p 0) (λ p. get_or (targets h) p 0) (λ p. get_or (keys h) p 0) picks froms tos bys, s.fits.steps) refl;
      }
