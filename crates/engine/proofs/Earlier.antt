-- The runs on the earlier work tables and those on today's: the same answers, news and statuses (document 02, #106). Of any engines that keep the promise, each with its form of the visited marks.
-- Assumes nothing.
use mathlib.Core.Path.{◌≡◌, refl, sym, ◌∙◌, ap, subst}
use mathlib.Core.Bool.{true}
use mathlib.Core.List.{List, ◌∷◌}
use Prim.Native.Nat.{ℕ}
use native.Mathlib.Omega.{arith}
use lib.ListN.{length, length-take}
use Rattle.gid.specs.declared.Update.{Update}
use Rattle.gid.specs.Histories.{History}
use Rattle.gid.specs.Outcomes.{outcome}
use Rattle.tables.specs.declared.Graph.{Graph}
use Rattle.tables.specs.declared.lengths.Lengths.{Lengths}
use Rattle.tables.specs.Tables.{Tables, enough, needs_by, long_enough_by}
use Rattle.tables.specs.Visits.{Marking}
use Rattle.tables.specs.Earlier.{by_entry}
use Rattle.tables.specs.Fitting.{CheckedBy, FreshBy, Fresh}
use Rattle.tables.proofs.Marking.{ClearAtZero, zeros_unvisited, zeros_unvisited_earlier}
use Rattle.tables.proofs.Sizes.{news_enough, earlier_enough}
use Rattle.tables.specs.declared.refusal.Refusal.{Refusal}
use Rattle.tables.specs.Numbers.{number_of}
use Rattle.engine.specs.Answers.{Answer}
use Rattle.std.specs.Prelude.{Ok as Accepted, Err as Refused}
use Rattle.engine.specs.Answers.{news_of, answer_outcome}
use Rattle.engine.specs.Promise.{PromiseBy}
use Rattle.engine.specs.Runs.{RunBy, Run, begun, accepted, refused}
use Rattle.engine.specs.Matching.{SameStatuses, Matches}
use Rattle.engine.proofs.Running.{was_accepted, SoundBy, sound_by, sound_checked}
use Rattle.engine.proofs.Replay.{replay}

-- One update in a run whose first tables were long enough: it is answered as the history says, with as many news as it tells.
module _ {form : Marking} {g₀ : Graph} {t₀ : Tables} {h : History} {g : Graph} {t : Tables} (s : SoundBy form g₀ t₀ h g t) (long : long_enough_by form.entries g₀ t₀ ≡ true) where
  pub still_long : long_enough_by form.entries g t ≡ true
  still_long = rw (s.states, s.limit) (subst (λ (l : Lengths). enough (needs_by form.entries g₀.n g₀.n g₀.limit l) ≡ true) (sym s.sizes) long)

  told : {g' : Graph} {t' : Tables} {a : Answer} (x : Update) → PromiseBy form g x t g' a t' → answer_outcome a t'.news ≡ outcome g₀.n g₀.limit h x
  told x p = rw (s.states, s.limit) at (replay s still_long x p).0

  counted : {g' : Graph} {t' : Tables} {x : Update} {k : ℕ} → PromiseBy form g x t g' (Accepted k) t' → length (news_of (Accepted k) t'.news) ≡ k
  counted p =
      let a = (was_accepted p).1 in
      simp length-take (omega (arith, a.named.few, a.kept.news.size, news_enough form.entries g t still_long))

module _
    {one other : Marking} {g₀ g₁ : Graph} {t₀ t₁ : Tables} (clear₀ : ClearAtZero one) (clear₁ : ClearAtZero other) (fresh₀ : FreshBy one g₀ t₀) (fresh₁ : FreshBy other g₁ t₁)
    (states : g₁.n ≡ g₀.n) (limits : g₁.limit ≡ g₀.limit) (long₀ : long_enough_by one.entries g₀ t₀ ≡ true) (long₁ : long_enough_by other.entries g₁ t₁ ≡ true)
  where
    -- Two runs of the same updates and the same history so far.
    module _ {xs : List Update} {h q : History} {g g' : Graph} {t t' : Tables} (first : RunBy one g₀ t₀ xs h g t) (second : RunBy other g₁ t₁ xs q g' t') (e : q ≡ h) where
      same_statuses : SameStatuses g₀.n t t'
      same_statuses r l =
          let s = sound_by clear₀ fresh₀ first in
          let s' = sound_by clear₁ fresh₁ second in
          s.fits.status r (rw s.states l) ∙ sym (rw e at (s'.fits.status r (rw (s'.states, states) l)))

      -- What comes of the next update, with a table check before it or none.
      module _ {g₂ g₂' : Graph} {t₂ t₂' t₃ t₃' : Tables} (c : CheckedBy one g t t₂) (d : CheckedBy other g' t' t₂') (x : Update) where
        same_told : {a b : Answer} → PromiseBy one g x t₂ g₂ a t₃ → PromiseBy other g' x t₂' g₂' b t₃' → answer_outcome a t₃.news ≡ answer_outcome b t₃'.news
        same_told p o = told (sound_checked (sound_by clear₀ fresh₀ first) c) long₀ x p ∙ sym (rw (e, states, limits) at (told (sound_checked (sound_by clear₁ fresh₁ second) d) long₁ x o))

        same_count : {k j : ℕ} → PromiseBy one g x t₂ g₂ (Accepted k) t₃ → PromiseBy other g' x t₂' g₂' (Accepted j) t₃' → news_of (Accepted k) t₃.news ≡ news_of (Accepted j) t₃'.news → k ≡ j
        same_count p o w = sym (counted (sound_checked (sound_by clear₀ fresh₀ first) c) long₀ p) ∙ ap length w ∙ counted (sound_checked (sound_by clear₁ fresh₁ second) d) long₁ o

    -- What the runs so far have, those with one more update have, if both calls accept it or both refuse it; one call cannot do the one and the other the other.
    module _
        {xs : List Update} {h q : History} {g g' : Graph} {t t' : Tables} (first : RunBy one g₀ t₀ xs h g t) (second : RunBy other g₁ t₁ xs q g' t') (i : (q ≡ h) × Matches g₀.n first second)
        {g₂ g₂' : Graph} {t₂ t₂' t₃ t₃' : Tables} (c : CheckedBy one g t t₂) (d : CheckedBy other g' t' t₂') (x : Update)
      where
        both_accept :
            {k j : ℕ} (p : PromiseBy one g x t₂ g₂ (Accepted k) t₃) (o : PromiseBy other g' x t₂' g₂' (Accepted j) t₃') →
            ((x ∷ q) ≡ (x ∷ h)) × Matches g₀.n (accepted first c x k p) (accepted second d x j o)
        both_accept {k} {j} p o =
            let e = same_told first second i.0 c d x p o in
            let w : news_of (Accepted k) t₃.news ≡ news_of (Accepted j) t₃'.news = cc in
            let z = ap (λ (f : History). x ∷ f) i.0 in
            (z, (i.1, same_count first second i.0 c d x p o w, w, same_statuses (accepted first c x k p) (accepted second d x j o) z))

        both_refuse :
            {r s : Refusal} (p : PromiseBy one g x t₂ g₂ (Refused r) t₃) (o : PromiseBy other g' x t₂' g₂' (Refused s) t₃') →
            (q ≡ h) × Matches g₀.n (refused first c x r p) (refused second d x s o)
        both_refuse {r} {s} p o =
            let e = same_told first second i.0 c d x p o in
            let z : number_of r ≡ number_of s = cc in
            (i.0, (i.1, z, same_statuses (refused first c x r p) (refused second d x s o) i.0))

        no_second_refusal : {k : ℕ} {s : Refusal} → PromiseBy one g x t₂ g₂ (Accepted k) t₃ → PromiseBy other g' x t₂' g₂' (Refused s) t₃' → ⊥
        no_second_refusal p o =
            let e = same_told first second i.0 c d x p o in
            let z : ◌≡◌ {A = ℕ} 0 1 = cc in
            omega arith

        no_first_refusal : {r : Refusal} {j : ℕ} → PromiseBy one g x t₂ g₂ (Refused r) t₃ → PromiseBy other g' x t₂' g₂' (Accepted j) t₃' → ⊥
        no_first_refusal p o =
            let e = same_told first second i.0 c d x p o in
            let z : ◌≡◌ {A = ℕ} 0 1 = cc in
            omega arith

    pub matches :
        {xs : List Update} {h q : History} {g g' : Graph} {t t' : Tables} (first : RunBy one g₀ t₀ xs h g t) (second : RunBy other g₁ t₁ xs q g' t') →
        (q ≡ h) × Matches g₀.n first second
    matches begun begun = (refl, tt)
    matches (accepted first c x k p) (accepted second d y j o) = both_accept first second (matches first second) c d x p o
    matches (refused first c x k p) (refused second d y j o) = both_refuse first second (matches first second) c d x p o
    matches (accepted first c x k p) (refused second d y j o) = absurd (no_second_refusal first second (matches first second) c d x p o)
    matches (refused first c x k p) (accepted second d y j o) = absurd (no_first_refusal first second (matches first second) c d x p o)

-- "For histories on fresh tables long enough for the old lengths too, answers, news and statuses match those of the earlier work tables": any list of updates, refused ones among them, with table checks in between.
pub as_earlier :
    {g₀ g₁ g g' : Graph} {t₀ t₁ t t' : Tables} {xs : List Update} {h q : History} →
    FreshBy by_entry g₀ t₀ → Fresh g₁ t₁ → g₁.n ≡ g₀.n → g₁.limit ≡ g₀.limit → long_enough_by by_entry.entries g₀ t₀ ≡ true → long_enough_by by_entry.entries g₁ t₁ ≡ true →
    (earlier : RunBy by_entry g₀ t₀ xs h g t) (today : Run g₁ t₁ xs q g' t') →
    (q ≡ h) × Matches g₀.n earlier today
as_earlier {g₁ = g₁} {t₁ = t₁} f f' n m l l' = matches zeros_unvisited_earlier zeros_unvisited f f' n m l (earlier_enough g₁ t₁ l')
