-- On tables that fit for a legal history the engine answers what the definitions say: refusals, news and the history after the update.
-- Assumes nothing.
use mathlib.Core.Path.{◌≡◌, refl, ◌∙◌, ap}
use mathlib.Core.Bool.{Bool, true, false, not, cond, ◌&&◌, ◌||◌}
use mathlib.Core.List.{List, [], ◌∷◌, ◌++◌}
use mathlib.Core.Option.{Option, some, none}
use Prim.Native.Nat.{ℕ}
use lib.Dec.{leb, ltb, eqb}
use lib.ListN.{length, get_or}
use borrow.Author.Tests.{leb-false}
use Rattle.gid.specs.declared.Update.{Update}
use Rattle.gid.specs.declared.Update.TheVariants.{Step, Terminal, Close}
use Rattle.gid.specs.Histories.{History, is_in, listed}
use Rattle.gid.specs.Statuses.{is_closed}
use Rattle.gid.specs.News.{news}
use Rattle.gid.specs.Refusals.{Rule, first, lent, sent, refusal, max_key}
use Rattle.gid.specs.Outcomes.{accepted, by_number, given_after, outcome, after}
use Rattle.tables.specs.declared.Graph.{Graph}
use Rattle.tables.specs.Tables.{Tables, long_enough_by}
use Rattle.tables.specs.Marks.{has_closed}
use Rattle.tables.specs.Listing.{listed_on}
use Rattle.tables.specs.Visits.{Marking}
use Rattle.tables.specs.Refused.{is_full, refusal_by, given}
use Rattle.tables.specs.Fitting.{ConsistentBy}
use Rattle.tables.proofs.Bits.{closed_same}
use Rattle.tables.proofs.Listed.{listed_same}
use Rattle.tables.proofs.Refusing.{neither}
use Rattle.engine.specs.Answers.{Answer}
use Rattle.engine.specs.Answers.{answer_number, news_of, answer_outcome}
use Rattle.engine.specs.Promise.{PromiseBy}
use Rattle.engine.proofs.Running.{SoundBy, sound_accepted}

-- a rule with its test
abbrev rule : Bool → ℕ → Rule
rule b k = record { applies = b; number = k }

-- where the states are in range, the rest must agree; where not, 5 comes first
guarded : (r r' : Bool) → r ≡ r' → (l l' : List Rule) → (r ≡ false → first l ≡ first l') → first (rule r 5 ∷ l) ≡ first (rule r' 5 ∷ l')
guarded true r' e l l' q = rw (← e)
guarded false r' e l l' q = rw (← e) (q refl)

module _ {form : Marking} {h : History} {g : Graph} {t : Tables} (c : ConsistentBy form h g t) where
  sent_same : (long : Bool) (x : Update) → first (sent (given g long (is_full g) (listed_on g t) t.marks) x) ≡ first (sent (given_after g.n g.limit h) x)
  unfolding given_after
  sent_same long (Step d) =
      guarded (leb g.n d.from || leb g.n d.to) (leb g.n d.from || leb g.n d.to) refl
      (rule (ltb max_key d.key) 14 ∷ rule (has_closed (get_or t.marks d.from 0)) 6 ∷ rule (is_full g && not (listed_on g t d)) 9 ∷ [])
      (rule (ltb max_key d.key) 14 ∷ rule (is_closed h d.from) 6 ∷ rule (eqb (length (listed h)) g.limit && not (is_in (listed h) d)) 9 ∷ [])
      (λ e. let r = leb-false g.n d.from (neither (leb g.n d.from) (leb g.n d.to) e).0 in rw (closed_same c d.from r, listed_same c d, c.steps))
  sent_same long (Terminal u) =
      guarded (leb g.n u) (leb g.n u) refl (rule (has_closed (get_or t.marks u 0)) 6 ∷ []) (rule (is_closed h u) 6 ∷ [])
      (λ e. rw (closed_same c u (leb-false g.n u e)))
  sent_same long (Close u) = refl

  -- The number on the tables is the one by the history.
  pub same_refusal : long_enough_by form.entries g t ≡ true → (x : Update) → refusal_by form.entries g t x ≡ refusal (given_after g.n g.limit h) x
  unfolding refusal given_after
  same_refusal e x =
      append_same
      (lent (given g (long_enough_by form.entries g t) (is_full g) (listed_on g t) t.marks)) (lent (given_after g.n g.limit h))
      (sent (given g (long_enough_by form.entries g t) (is_full g) (listed_on g t) t.marks) x) (sent (given_after g.n g.limit h) x)
      (rw (e, c.steps))
      (sent_same (long_enough_by form.entries g t) x)
    where
      append_same : (a a' b b' : List Rule) → a ≡ a' → first b ≡ first b' → first (a ++ b) ≡ first (a' ++ b')
      append_same a a' b b' p q = rw p (go a')
        where
          go : (l : List Rule) → first (l ++ b) ≡ first (l ++ b')
          go [] = q
          go (r ∷ l) = ap (λ (o : Option ℕ). cond r.applies (some r.number) o) (go l)

-- What the engine answers is the outcome of the definitions, and the tables are those of the history after it.
module _ {form : Marking} {g₀ : Graph} {t₀ : Tables} {h : History} {g g' : Graph} {t t' : Tables} (s : SoundBy form g₀ t₀ h g t) (long : long_enough_by form.entries g t ≡ true) (x : Update) {a : Answer} (p : PromiseBy form g x t g' a t') where
  pub replay : (answer_outcome a t'.news ≡ outcome g.n g.limit h x) × SoundBy form g₀ t₀ (after g.n g.limit h x) g' t'
  unfolding outcome after
  replay = at (refusal (given_after g.n g.limit h) x) refl
    where
      at : (o : Option ℕ) → refusal (given_after g.n g.limit h) x ≡ o → (by_number (answer_number a) (news_of a t'.news) ≡ by_number o (news g.n h x)) × SoundBy form g₀ t₀ (elim o [ none ↦ x ∷ h | some k ↦ h ]) g' t'
      at none e =
          let r = same_refusal s.fits long x ∙ e in
          let w = p.accepts r in
          (rw (p.number, r) (ap accepted (w.fits h s.legal s.fits).1), sound_accepted s r w)
      at (some k) e =
          let r = same_refusal s.fits long x ∙ e in
          let w = p.refuses k r in
          (rw (p.number, r), rw (w.1, w.2) s)
