-- What holds all along a run from fresh tables, whatever the form of its visited marks.
-- Assumes nothing.
use mathlib.Core.Path.{◌≡◌, refl, sym, ◌∙◌, ap}
use mathlib.Core.Logic.{◌⊎◌, inl, inr}
use mathlib.Core.Bool.{Bool, true, false, not, cond, ◌&&◌, and-false}
use mathlib.Core.List.{List, [], ◌∷◌}
use mathlib.Core.Option.{some, none}
use Prim.Native.Nat.{ℕ, ◌+◌, ◌<◌, ◌≤◌}
use native.Mathlib.Omega.{arith}
use lib.ListN.{length, get_or, length-append}
use borrow.Author.Tests.{lt-leb, le-ltb, ne_eqb, eqb-false}
use Rattle.gid.specs.declared.Edge.{Edge}
use Rattle.gid.specs.declared.Update.{Update}
use Rattle.gid.specs.declared.Update.TheVariants.{Step, Terminal, Close}
use Rattle.gid.specs.Updates.{source}
use Rattle.gid.specs.Histories.{History, MayFollow, Legal, IsClosed, is_in, added, listed}
use Rattle.gid.specs.Refusals.{lent, sent, refusal, max_states, max_steps, max_key}
use Rattle.gid.proofs.Decide.{refutes, refuted}
use Rattle.tables.specs.declared.Graph.{Graph}
use Rattle.tables.specs.Tables.{Tables, lengths, long_enough_by}
use Rattle.tables.specs.Marks.{has_closed, closes_again}
use Rattle.tables.specs.Visits.{Marking, by_bit}
use Rattle.tables.specs.Listing.{listed_on}
use Rattle.tables.specs.Refused.{is_full, given, is_again, refusal_by, place_number}
use Rattle.tables.specs.Fitting.{CheckedBy, ConsistentBy, FreshBy, Fresh}
use Rattle.tables.proofs.Bits.{decides_closed_mark}
use Rattle.tables.proofs.Keeping.{lengths_kept}
use Rattle.tables.proofs.Listed.{listed_same}
use Rattle.tables.proofs.Marking.{ClearAtZero, zeros_unvisited}
use Rattle.tables.proofs.Refusing.{NoneApply, none_applies, first_none, accepted_passes_by}
use Rattle.tables.proofs.Starting.{fresh_consistent}
use Rattle.tables.specs.declared.refusal.Refusal.{Refusal}
use Rattle.tables.specs.Numbers.{number_of}
use Rattle.engine.specs.Answers.{Answer}
use Rattle.std.specs.Prelude.{Ok as Accepted, Err as Refused}
use Rattle.engine.specs.Promise.{AcceptedUpdateBy, PromiseBy, Sendable}
use Rattle.engine.specs.Runs.{RunBy, Run, begun, accepted, refused}
use Rattle.engine.proofs.Acting.{source_below}
use Rattle.engine.proofs.Promising.{passed_of}

-- What an accepting and a refusing answer tell.
module _ {form : Marking} {g : Graph} {x : Update} {t : Tables} {g' : Graph} {t' : Tables} where
  pub was_accepted : {k : ℕ} → PromiseBy form g x t g' (Accepted k) t' → (refusal_by form.entries g t x ≡ none) × AcceptedUpdateBy form g x t g' t' (Accepted k)
  was_accepted p = (sym p.number, p.accepts (sym p.number))

  pub was_refused : {r : Refusal} → PromiseBy form g x t g' (Refused r) t' → (refusal_by form.entries g t x ≡ some (number_of r)) × (g' ≡ g) × (t' ≡ t)
  was_refused {r} p = let q = p.refuses (number_of r) (sym p.number) in (sym p.number, q.1, q.2)

-- what an accepted update adds has a place
pub steps_room : (g : Graph) (x : Update) (marks : List ℕ) (has : Edge → Bool) → g.steps ≤ g.limit → cond (is_again x marks has) 0 (place_number (is_full g) x) ≡ 0 → g.steps + length (added has x) ≤ g.limit
unfolding is_again place_number
steps_room g (Step e) marks has h q = at (has e) (is_full g) refl q
  where
    at : (a b : Bool) → is_full g ≡ b → ◌≡◌ {A = ℕ} (cond a 0 (cond b 9 0)) 0 → g.steps + length (cond a [] (e ∷ [])) ≤ g.limit
    at true b z y = omega arith
    at false true z y = absurd (omega arith)
    at false false z y = let n = eqb-false g.steps g.limit z in omega arith
steps_room g (Terminal u) marks has h q = omega arith
steps_room g (Close u) marks has h q = omega arith

-- No check at all between two calls leaves the tables as they were.
pub unchecked : {form : Marking} {g : Graph} {t : Tables} → CheckedBy form g t t
unchecked = record { status = refl; marks = refl; from = refl; to = refl; key = refl; successor = refl; news = refl; sizes = refl; fits = λ h l c. c }

-- What holds after each call of a run: the accepted history is legal, the tables fit for it, and sizes are as they were.
pub record SoundBy (form : Marking) (g₀ : Graph) (t₀ : Tables) (h : History) (g : Graph) (t : Tables) : Type 0 where
  pub legal : Legal h
  pub fits : ConsistentBy form h g t
  pub states : g.n ≡ g₀.n
  pub limit : g.limit ≡ g₀.limit
  pub sizes : lengths t ≡ lengths t₀
  pub room : g.steps ≤ g.limit

abbrev pub Sound : (g₀ : Graph) (t₀ : Tables) (h : History) (g : Graph) (t : Tables) → Type 0
Sound = SoundBy by_bit

-- What an update adds turns on the test alone.
pub added_same : (x : Update) {has has' : Edge → Bool} → ((e : Edge) → has e ≡ has' e) → added has x ≡ added has' x
added_same (Step e) f = rw (f e)
added_same (Terminal u) f = refl
added_same (Close u) f = refl

-- an update sent from a state that is not closed does not meet 6
pub unmarked : {form : Marking} {h : History} {g : Graph} {t : Tables} → ConsistentBy form h g t → (u : ℕ) → u < g.n → (IsClosed h u → ⊥) → has_closed (get_or t.marks u 0) ≡ false
unmarked {t = t} c u r o = refutes (has_closed (get_or t.marks u 0)) (decides_closed_mark c u r) o

module _ {form : Marking} {g₀ : Graph} {t₀ : Tables} where
  -- a check in between keeps it
  pub sound_checked : {h : History} {g : Graph} {t t₁ : Tables} → SoundBy form g₀ t₀ h g t → CheckedBy form g t t₁ → SoundBy form g₀ t₀ h g t₁
  sound_checked {h} s c =
      record { legal = s.legal; fits = c.fits h s.legal s.fits; states = s.states; limit = s.limit; sizes = c.sizes ∙ s.sizes; room = s.room }

  -- what is accepted may follow what was
  pub may-follow : {h : History} {g : Graph} {t : Tables} → SoundBy form g₀ t₀ h g t → (x : Update) → refusal_by form.entries g t x ≡ none → MayFollow h x
  may-follow {h} {g} {t} s x e =
      let p = accepted_passes_by form.entries g t x e in
      let q = passed_of g t.marks x p.1 in
      at x (source_below g.n x q.0) q.2
    where
      unclosed : (u : ℕ) → u < g.n → has_closed (get_or t.marks u 0) ≡ false → IsClosed h u → ⊥
      unclosed u r q = refuted (decides_closed_mark s.fits u r) q

      at : (y : Update) → source y < g.n → (closes_again y t.marks ≡ false → has_closed (get_or t.marks (source y) 0) ≡ false) → MayFollow h y
      at (Step d) r q = unclosed d.from r (q refl)
      at (Terminal u) r q = unclosed u r (q refl)
      at (Close u) r q = tt

  -- the step list with what is accepted is within the limit
  pub listed_room : {h : History} {g : Graph} {t : Tables} → SoundBy form g₀ t₀ h g t → (x : Update) → cond (is_again x t.marks (listed_on g t)) 0 (place_number (is_full g) x) ≡ 0 → length (listed (x ∷ h)) ≤ g.limit
  unfolding listed
  listed_room {h} {g} {t} s x q =
      let r = steps_room g x t.marks (listed_on g t) s.room q in
      rw (length-append, ← added_same x (listed_same s.fits), ← s.fits.steps) r

  pub sound_accepted : {h : History} {g g' : Graph} {t t' : Tables} {x : Update} {a : Answer} → SoundBy form g₀ t₀ h g t → refusal_by form.entries g t x ≡ none → AcceptedUpdateBy form g x t g' t' a → SoundBy form g₀ t₀ (x ∷ h) g' t'
  sound_accepted {h} {g} {g'} {t} {t'} {x} s e a =
      let q = accepted_passes_by form.entries g t x e in
      record {
        legal = (s.legal, may-follow s x e);
        fits = (a.fits h s.legal s.fits).0;
        states = ap (λ (e : Graph). e.n) a.graph ∙ s.states;
        limit = ap (λ (e : Graph). e.limit) a.graph ∙ s.limit;
        sizes = lengths_kept a.kept ∙ s.sizes;
        room = rw a.graph (steps_room g x t.marks (listed_on g t) s.room q.2);
      }

  pub sound_by : {xs : List Update} {h : History} {g : Graph} {t : Tables} → ClearAtZero form → FreshBy form g₀ t₀ → RunBy form g₀ t₀ xs h g t → SoundBy form g₀ t₀ h g t
  sound_by z f begun = record { legal = tt; fits = fresh_consistent z g₀ t₀ f; states = refl; limit = refl; sizes = refl; room = omega (arith, f.no_steps) }
  sound_by z f (accepted r c x k p) = let a = was_accepted p in sound_accepted (sound_checked (sound_by z f r) c) a.0 a.1
  sound_by z f (refused r c x k p) = let q = was_refused p in rw (q.1, q.2) (sound_checked (sound_by z f r) c)

  -- Where the tests 1 to 4 find nothing, an update in range that may follow and, for a step, has a key of 0 to 31 and a free place or an equal step listed is accepted.
  pub not_refused : {h : History} {g : Graph} {t : Tables} → SoundBy form g₀ t₀ h g t → 0 < g.n → g.n ≤ max_states → 0 < g.limit → g.limit ≤ max_steps → long_enough_by form.entries g t ≡ true → (x : Update) → Sendable g.n g.limit g.steps (is_in (listed h)) x → MayFollow h x → refusal_by form.entries g t x ≡ none
  unfolding refusal
  not_refused {h} {g} {t} s a b c d e x r o =
      first_none (lent (given g (long_enough_by form.entries g t) (is_full g) (listed_on g t) t.marks))
      (sent (given g (long_enough_by form.entries g t) (is_full g) (listed_on g t) t.marks) x)
      (none_applies (lent (given g (long_enough_by form.entries g t) (is_full g) (listed_on g t) t.marks)) (
        rw (ne_eqb g.n 0 (λ z. absurd (omega arith))) (le-ltb max_states g.n b),
        (
          rw (ne_eqb g.limit 0 (λ z. absurd (omega arith))) (le-ltb max_steps g.limit d),
          (rw e refl, (le-ltb g.limit g.steps s.room, tt)),
        ),
      )) ∙
      none_applies (sent (given g (long_enough_by form.entries g t) (is_full g) (listed_on g t) t.marks) x) (sents x r o)
    where
      placed : (d : Edge) → (g.steps < g.limit) ⊎ (is_in (listed h) d ≡ true) → is_full g && not (listed_on g t d) ≡ false
      placed d (inl q) = rw (ne_eqb g.steps g.limit (λ z. absurd (omega arith)))
      placed d (inr q) = rw (listed_same s.fits d, q) (and-false (is_full g))

      sents : (y : Update) → Sendable g.n g.limit g.steps (is_in (listed h)) y → MayFollow h y → NoneApply (sent (given g (long_enough_by form.entries g t) (is_full g) (listed_on g t) t.marks) y)
      sents (Step d) q n = (
        rw (lt-leb g.n d.from q.0) (lt-leb g.n d.to q.1),
        (le-ltb max_key d.key q.2, (unmarked s.fits d.from q.0 n, (placed d q.3, tt))),
      )
      sents (Terminal u) q n = (lt-leb g.n u q, (unmarked s.fits u q n, tt))
      sents (Close u) q n = (lt-leb g.n u q, tt)

pub sound : {g₀ g : Graph} {t₀ t : Tables} {xs : List Update} {h : History} → Fresh g₀ t₀ → Run g₀ t₀ xs h g t → Sound g₀ t₀ h g t
sound = sound_by zeros_unvisited
