-- Two runs of equal size, the one sent what the other accepted less a choice of updates from live states: they agree.
-- Assumes nothing.
use mathlib.Core.Path.{◌≡◌, refl, sym, ◌∙◌, ap, subst}
use mathlib.Core.Logic.{◌⊎◌, inl, inr}
use mathlib.Core.Bool.{Bool, true, false}
use mathlib.Core.List.{List, ◌∷◌}
use mathlib.Core.Option.{Option, some, none}
use Prim.Native.Nat.{ℕ, ◌+◌, ◌<◌, ◌≤◌}
use native.Mathlib.Omega.{arith}
use lib.ListN.{length, get_or}
use Rattle.gid.specs.declared.Update.{Update}
use Rattle.gid.specs.declared.Update.TheVariants.{Step, Terminal, Close}
use Rattle.gid.specs.Histories.{History, IsNamed, is_in, listed}
use Rattle.gid.specs.Refusals.{max_key}
use Rattle.gid.specs.Statuses.{status}
use Rattle.gid.specs.News.{news}
use Rattle.gid.specs.Pruning.{Pruned, start, keep, leave}
use Rattle.gid.proofs.Paths.{Inside, within_both}
use Rattle.gid.proofs.Listing.{newest_listed, listed_within}
use Rattle.gid.proofs.Following.{follows_within}
use Rattle.gid.proofs.Pruning.{keeps, pruning}
use Rattle.tables.specs.declared.Graph.{Graph}
use Rattle.tables.specs.declared.lengths.Lengths.{Lengths}
use Rattle.tables.specs.Tables.{Tables, enough, needs, lengths, long_enough}
use Rattle.tables.specs.Refused.{refusal_on}
use Rattle.tables.specs.Fitting.{Fresh}
use Rattle.tables.proofs.Refusing.{lent_leaves, accepted_passes}
use Rattle.std.specs.Prelude.{Ok as Accepted}
use Rattle.engine.specs.Answers.{news_of}
use Rattle.engine.specs.Preparing.{InRange, KeyBelow}
use Rattle.engine.specs.Promise.{Promise, Sendable}
use Rattle.engine.specs.Runs.{Run, begun, accepted, refused, Agree}
use Rattle.engine.proofs.Promising.{passed_of}
use Rattle.engine.proofs.Running.{was_accepted, was_refused, Sound, sound, sound_checked, listed_room, may-follow, not_refused}

both : {o : Option ℕ} {k : ℕ} → o ≡ none → o ≡ some k → ⊥
both e d = let b : ◌≡◌ {A = ℕ} 0 1 = cc in omega arith

sound_as : {g₀ g : Graph} {t₀ t : Tables} {h f : History} → h ≡ f → Sound g₀ t₀ h g t → Sound g₀ t₀ f g t
sound_as {g₀} {g} {t₀} {t} e s = subst (λ (h : History). Sound g₀ t₀ h g t) e s

-- what the full run accepts can be sent in the pruned one: a step is listed there, or finds a place, since with it the pruned list is no longer than the full one
sendable_pruned : (n limit m' : ℕ) {f p : History} → Inside p f → m' ≡ length (listed p) → (x : Update) → InRange n x → KeyBelow (max_key + 1) x → length (listed (x ∷ f)) ≤ limit → Sendable n limit m' (is_in (listed p)) x
sendable_pruned n limit m' {f} {p} i z (Step e) r k l = (r.0, r.1, omega arith, at (is_in (listed p) e) refl)
  where
    at : (b : Bool) → is_in (listed p) e ≡ b → (m' < limit) ⊎ (is_in (listed p) e ≡ true)
    at true q = inr q
    at false q = inl (let w = listed_within (Step e ∷ p) (Step e ∷ f) (within_both (Step e) i) in let y = (newest_listed p e q).0 in omega arith)
sendable_pruned n limit m' i z (Terminal u) r k l = r
sendable_pruned n limit m' i z (Close u) r k l = r

module _ {g₀ g₁ : Graph} {t₀ t₁ : Tables} (fresh₀ : Fresh g₀ t₀) (fresh₁ : Fresh g₁ t₁) (states : g₁.n ≡ g₀.n) (limits : g₁.limit ≡ g₀.limit) (sizes : lengths t₁ ≡ lengths t₀) where
  -- what the full run accepts, the pruned run accepts
  accepts_too : {f p : History} {g g' : Graph} {t t' : Tables} → Pruned f p → Sound g₀ t₀ f g t → Sound g₁ t₁ p g' t' → (x : Update) → refusal_on g t x ≡ none → refusal_on g' t' x ≡ none
  accepts_too {f} {p} {g} {g'} {t} {t'} c s s' x e =
      let q = accepted_passes g t x e in
      let l = lent_leaves g (long_enough g t) q.0 in
      let d = passed_of g t.marks x q.1 in
      let n : g'.n ≡ g.n = s'.states ∙ states ∙ sym s.states in
      let m : g'.limit ≡ g.limit = s'.limit ∙ limits ∙ sym s.limit in
      let z : lengths t' ≡ lengths t = s'.sizes ∙ sizes ∙ sym s.sizes in
      let w : length (listed (x ∷ f)) ≤ g.limit = listed_room s x q.2 in
      not_refused s' (rw n l.some_states) (rw n l.few_states) (rw m l.some_limit) (rw m l.low_limit) (rw (n, m) (subst (λ (y : Lengths). enough (needs g.n g.n g.limit y) ≡ true) (sym z) l.longs)) x
      (rw (n, m) (sendable_pruned g.n g.limit g'.steps (keeps c).part s'.fits.steps x d.0 d.1 w))
      (follows_within (keeps c).part x (may-follow s x e))

  -- one accepted update has the news of the definition, and the statuses after it
  module _ {g₂ : Graph} {t₂ : Tables} {h : History} {g g' : Graph} {t t' : Tables} {x : Update} {k : ℕ} (s : Sound g₂ t₂ h g t) (o : Promise g x t g' (Accepted k) t') where
    news-of : news_of (Accepted k) t'.news ≡ news g.n h x
    news-of = ((was_accepted o).1.fits h s.legal s.fits).1

    status_of : (r : ℕ) → r < g'.n → get_or t'.status r 0 ≡ status (x ∷ h) r
    status_of r q = ((was_accepted o).1.fits h s.legal s.fits).0.status r q

    range_of : (r : ℕ) → IsNamed (x ∷ h) r → r < g'.n
    range_of r q = ((was_accepted o).1.fits h s.legal s.fits).0.in_range r q

    states_of : g'.n ≡ g.n
    states_of = ap (λ (e : Graph). e.n) (was_accepted o).1.graph

  -- a kept update, where the histories are f and p
  kept_agree : {f p : History} {g g₂ g' g₂' : Graph} {t t₂ t' t₂' : Tables} {x : Update} {k j : ℕ} (c : Pruned f p) (s : Sound g₀ t₀ f g t) (s' : Sound g₁ t₁ p g₂ t₂) → Promise g x t g' (Accepted k) t' → Promise g₂ x t₂ g₂' (Accepted j) t₂' → (news_of (Accepted k) t'.news ≡ news_of (Accepted j) t₂'.news) × ((r : ℕ) → IsNamed (x ∷ p) r → get_or t'.status r 0 ≡ get_or t₂'.status r 0)
  kept_agree {f} {p} {g} {g₂} {g'} {g₂'} {t} {t₂} {t'} {t₂'} {x} c s s' o o' =
      let n : g₂.n ≡ g.n = s'.states ∙ states ∙ sym s.states in
      let a = (pruning g.n (keep x c) (s.legal, may-follow s x (was_accepted o).0)).1 in (
        news-of s o ∙ a.1 ∙ sym (rw n at (news-of s' o')),
        λ r q.
            let b = range_of s' o' r q in
            let b' : r < g'.n = rw (states_of s o) (rw (states_of s' o', n) at b) in
            status_of s o r b' ∙ a.2 r q ∙ sym (status_of s' o' r b),
      )

  pub agree : {xs : List Update} {h p q : History} {g g' : Graph} {t t' : Tables} (full : Run g₀ t₀ xs h g t) (c : Pruned h p) (thin : Run g₁ t₁ p q g' t') → (q ≡ p) × Agree full c thin
  agree begun start begun = (refl, tt)
  agree (refused full s x k o) c thin = agree full c thin
  agree (accepted full s x k o) (keep y c) (accepted {h = q} thin s' z j o') =
      let i = agree full c thin in
      let s₂ = sound_checked (sound fresh₁ thin) s' in
      let r = kept_agree c (sound_checked (sound fresh₀ full) s) (sound_as i.0 s₂) o o' in
      (ap (λ (e : History). z ∷ e) i.0, (i.1, r.0, λ m w. r.1 m (subst (λ (e : History). IsNamed (z ∷ e) m) i.0 w)))
  agree (accepted full s x k o) (keep y c) (refused thin s' z j o') =
      let i = agree full c thin in
      let s₂ = sound_checked (sound fresh₁ thin) s' in
      let e = accepts_too c (sound_checked (sound fresh₀ full) s) (sound_as i.0 s₂) z (was_accepted o).0 in
      absurd (both e (was_refused o').0)
  agree (accepted full s x k o) (leave y l c) thin =
      let i = agree full c thin in
      let s₁ = sound_checked (sound fresh₀ full) s in
      let a = (pruning _ (leave y l c) (s₁.legal, may-follow s₁ y (was_accepted o).0)).1 in
      (i.0, (i.1, news-of s₁ o ∙ a.1))
