-- A legal history is accepted update by update, and so line by line: its states and keys are in range, and its steps within the limit.
-- Assumes nothing.
use mathlib.Core.Path.{◌≡◌, refl, ◌∙◌, ap}
use mathlib.Core.Logic.{inl, inr}
use mathlib.Core.List.{List, [], ◌∷◌, ◌++◌, Memᴰ}
use mathlib.Core.Option.{none}
use mathlib.Core.Bool.{Bool, true, false, not, cond, ◌&&◌, and-false}
use Prim.Native.Nat.{ℕ, ◌+◌, ◌≤◌, ◌<◌}
use native.Mathlib.Omega.{arith}
use lib.Dec.{eqb}
use lib.ListN.{length, length-append}
use borrow.Author.Tests.{lt-leb, le-ltb, ne_eqb}
use Rattle.gid.specs.declared.Edge.{Edge}
use Rattle.gid.specs.declared.Update.{Update}
use Rattle.gid.specs.declared.Update.TheVariants.{Step, Terminal, Close}
use Rattle.gid.specs.Updates.{Mentions}
use Rattle.gid.specs.Histories.{History, IsClosed, MayFollow, Legal, following, is_in, added, listed}
use Rattle.gid.specs.Statuses.{is_closed}
use Rattle.gid.specs.News.{news}
use Rattle.gid.specs.Refusals.{lent, sent, refusal, max_states, max_steps, max_key}
use Rattle.gid.specs.Outcomes.{accepted, given_after, outcome, after}
use Rattle.gid.proofs.Decide.{refutes}
use Rattle.gid.proofs.Tests.{decides_closed}
use Rattle.tables.proofs.Refusing.{NoneApply, none_applies, first_none}
use Rattle.tables.specs.declared.Graph.{Graph}
use Rattle.reader.specs.Replaying.{after_items, first_refusal}
use Rattle.writer.proofs.Splits.{numbered}

-- The states of an update are below n, and its key, where it has one, is 0 to 31.
abbrev pub KeyFits : Update → Type 0
KeyFits (Step e) = e.key ≤ max_key
KeyFits (Terminal u) = Unit {0}
KeyFits (Close u) = Unit {0}

abbrev pub InBounds : ℕ → Update → Type 0
InBounds n x = ((s : ℕ) → Mentions x s → s < n) × KeyFits x

-- a part of a legal history is legal, and has no more steps
legal_before : (h : History) (l : List Update) → Legal (following h l) → Legal h
legal_before h [] p = p
legal_before h (x ∷ l) p = (legal_before (x ∷ h) l p).0

fewer_before : (h : History) (l : List Update) → length (listed h) ≤ length (listed (following h l))
unfolding listed
fewer_before h [] = omega arith
fewer_before h (x ∷ l) = omega (arith, length-append (listed h) (added (is_in (listed h)) x), fewer_before (x ∷ h) l)

module _ (n limit : ℕ) (some_states : 0 < n) (few : n ≤ max_states) (some_limit : 0 < limit) (low : limit ≤ max_steps) where
  abbrev start : Graph
  start = record { n = n; limit = limit; steps = 0 }

  -- no test applies to an update that may follow
  unrefused : (h : History) (x : Update) → InBounds n x → MayFollow h x → length (listed (x ∷ h)) ≤ limit → refusal (given_after n limit h) x ≡ none
  unfolding refusal given_after listed
  unrefused h x r o c = first_none (lent (given_after n limit h)) (sent (given_after n limit h) x) (none_applies (lent (given_after n limit h)) (lent_passed (fewer_before h (x ∷ [])))) ∙ none_applies (sent (given_after n limit h) x) (sent_passed x r o c)
    where
      lent_passed : length (listed h) ≤ length (listed (x ∷ h)) → NoneApply (lent (given_after n limit h))
      lent_passed f = (rw (ne_eqb n 0 (λ e. omega arith), le-ltb max_states n few), (rw (ne_eqb limit 0 (λ e. omega arith), le-ltb max_steps limit low), (refl, (le-ltb limit (length (listed h)) (omega arith), tt))))

      unclosed : (u : ℕ) → (IsClosed h u → ⊥) → is_closed h u ≡ false
      unclosed u o = refutes (is_closed h u) (decides_closed h u) o

      placed : (e : Edge) (b : Bool) → length (listed h ++ cond b [] (e ∷ [])) ≤ limit → eqb (length (listed h)) limit && not b ≡ false
      placed e true k = and-false (eqb (length (listed h)) limit)
      placed e false k = rw (ne_eqb (length (listed h)) limit (λ z. omega (arith, length-append (listed h) (e ∷ []))))

      sent_passed : (y : Update) → InBounds n y → MayFollow h y → length (listed (y ∷ h)) ≤ limit → NoneApply (sent (given_after n limit h) y)
      sent_passed (Step e) q o k = (rw (lt-leb n e.from (q.0 e.from (inl refl)), lt-leb n e.to (q.0 e.to (inr refl))), (le-ltb max_key e.key q.1, (unclosed e.from o, (placed e (is_in (listed h) e) k, tt))))
      sent_passed (Terminal u) q o k = (lt-leb n u (q.0 u refl), (unclosed u o, tt))
      sent_passed (Close u) q o k = (lt-leb n u (q.0 u refl), tt)

  accepts : (h : History) (x : Update) → refusal (given_after n limit h) x ≡ none → (outcome n limit h x ≡ accepted (news n h x)) × (after n limit h x ≡ x ∷ h)
  unfolding outcome after
  accepts h x e = (rw (e, outcome), rw (e, after))

  -- No line is refused, and the history after them is all of them.
  pub lines_accepted : (k : ℕ) (h : History) (l : List Update) → Legal (following h l) → ((x : Update) → Memᴰ x l → InBounds n x) → length (listed (following h l)) ≤ limit → (first_refusal start h (numbered k l) ≡ none) × (after_items start h (numbered k l) ≡ following h l)
  unfolding numbered
  lines_accepted k h [] p r c = (refl, refl)
  lines_accepted k h (x ∷ l) p r c =
      let f = fewer_before (x ∷ h) l in
      let e = accepts h x (unrefused h x (r x (Memᴰ.head refl)) (legal_before (x ∷ h) l p).1 (omega arith)) in
      let i = lines_accepted (k + 1) (x ∷ h) l p (λ y m. r y (Memᴰ.tail m)) c in
      (rw (e.0, e.1) i.0, ap (λ (f : History). after_items start f (numbered (k + 1) l)) e.1 ∙ i.1)
