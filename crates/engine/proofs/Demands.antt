-- The three demands, of every engine that keeps the promise (specs/Promise.antt); `Engine::update` is proved to keep it. A run is a chain of such calls from fresh tables, with table checks in between (specs/Runs.antt).
-- Assumes nothing.
use mathlib.Core.Path.{◌≡◌, sym, ◌∙◌}
use mathlib.Core.Logic.{◌⊎◌, inl, inr, ⊎_elim}
use mathlib.Core.Bool.{true}
use mathlib.Core.List.{List, [], ◌∷◌, Memᴰ}
use mathlib.Core.Option.{some, none}
use Prim.Native.Nat.{ℕ, ◌<◌, ◌≤◌}
use lib.ListN.{get_or}
use Rattle.gid.specs.declared.Update.{Update}
use Rattle.gid.specs.Histories.{History, MayFollow, Legal, Continues, is_in, listed}
use Rattle.gid.specs.Statuses.{status, status_live, status_dead}
use Rattle.gid.specs.News.{news}
use Rattle.gid.specs.Pruning.{Pruned}
use Rattle.gid.specs.Refusals.{max_states, max_steps}
use Rattle.gid.proofs.Deadness.{live_stays, dead_stays}
use Rattle.gid.proofs.Statuses.{status-live, status-dead, status_dead_by_reach}
use Rattle.gid.proofs.News.{news_exact}
use Rattle.tables.specs.declared.Graph.{Graph}
use Rattle.tables.specs.Tables.{Tables, lengths, long_enough}
use Rattle.tables.specs.Refused.{refusal_on}
use Rattle.tables.specs.Fitting.{Checked, Consistent, Fresh}
use Rattle.engine.specs.Answers.{Answer}
use Rattle.std.specs.Prelude.{Ok as Accepted}
use Rattle.engine.specs.Answers.{answer_number, news_of}
use Rattle.engine.specs.Promise.{AcceptedUpdate, Promise, Sendable}
use Rattle.engine.specs.Runs.{Run, Agree}
use Rattle.engine.proofs.Running.{was_accepted, Sound, sound, sound_checked, not_refused, may-follow}
use Rattle.engine.proofs.Twins.{agree}

-- Demand 1. "In any call of a run from fresh tables (first or later, with the state value that the run has there), n and the step limit being in bounds, an update with its states in range and its first state not closed is accepted, if the tables are long enough and, for a step, the step list has a free place", or an equal step is listed (document 02, #103), a close also where its state is closed (#102). "On any tables, every update to which a number of document 01 applies gets the first such number, an empty news list, and all tables as before."
pub demand_1 :
    ((g₀ g g' : Graph) (t₀ t t₁ t' : Tables) (xs : List Update) (h : History) (a : Answer) →
    Fresh g₀ t₀ → Run g₀ t₀ xs h g t → Checked g t t₁ →
    0 < g.n → g.n ≤ max_states → 0 < g.limit → g.limit ≤ max_steps → long_enough g t₁ ≡ true →
    (x : Update) → Sendable g.n g.limit g.steps (is_in (listed h)) x → MayFollow h x →
    Promise g x t₁ g' a t' → answer_number a ≡ none) ×
    ((g g' : Graph) (t t' : Tables) (a : Answer) (x : Update) →
    Promise g x t g' a t' → (k : ℕ) → refusal_on g t x ≡ some k → (answer_number a ≡ some k) × (news_of a t'.news ≡ []) × (g' ≡ g) × (t' ≡ t))
demand_1 = (
  λ g₀ g g' t₀ t t₁ t' xs h a f r c p q u v l x s o m. m.number ∙ not_refused (sound_checked (sound f r) c) p q u v l x s o,
  λ g g' t t' a x m k e. let w = m.refuses k e in (m.number ∙ e, w.0, w.1, w.2),
)

-- Demand 2. "In a run from fresh tables, after each accepted update every status equals the definition in document 000, worked out afresh on the whole history. The news list names, in rising order, exactly the states that this update made live or dead, and each of those verdicts stays under every legal continuation."
pub demand_2 :
    {g₀ g g' : Graph} {t₀ t t₁ t' : Tables} {xs : List Update} {h : History} {x : Update} {k : ℕ} →
    Fresh g₀ t₀ → Run g₀ t₀ xs h g t → Checked g t t₁ → Promise g x t₁ g' (Accepted k) t' →
    Legal (x ∷ h) ×
    ((s : ℕ) → s < g.n → get_or t'.status s 0 ≡ status (x ∷ h) s) ×
    (news_of (Accepted k) t'.news ≡ news g.n h x) ×
    ((s : ℕ) → Memᴰ s (news_of (Accepted k) t'.news) → (get_or t'.status s 0 ≡ status_live) ⊎ (get_or t'.status s 0 ≡ status_dead)) ×
    ((s : ℕ) → s < g.n → (get_or t'.status s 0 ≡ status_live) ⊎ (get_or t'.status s 0 ≡ status_dead) → (f : History) → Continues (x ∷ h) f → Legal f → status f s ≡ get_or t'.status s 0)
demand_2 {g₀ = g₀} {g = g} {g' = g'} {t₀ = t₀} {t₁ = t₁} {t' = t'} {h = h} {x = x} {k = k} f r c p =
    (legal, statuses, fits.1, settled, stays)
  where
    s₁ : Sound g₀ t₀ h g t₁
    s₁ = sound_checked (sound f r) c

    a : (refusal_on g t₁ x ≡ none) × AcceptedUpdate g x t₁ g' t' (Accepted k)
    a = was_accepted p

    fits : Consistent (x ∷ h) g' t' × (news_of (Accepted k) t'.news ≡ news g.n h x)
    fits = a.1.fits h s₁.legal s₁.fits

    legal : Legal (x ∷ h)
    legal = (s₁.legal, may-follow s₁ x a.0)

    statuses : (s : ℕ) → s < g.n → get_or t'.status s 0 ≡ status (x ∷ h) s
    statuses s q = fits.0.status s (rw a.1.graph q)

    settled : (s : ℕ) → Memᴰ s (news_of (Accepted k) t'.news) → (get_or t'.status s 0 ≡ status_live) ⊎ (get_or t'.status s 0 ≡ status_dead)
    settled s m =
        let e = (news_exact g.n h x s).0 (rw fits.1 at m) in
        ⊎_elim (λ l. inl (statuses s e.0 ∙ (status-live (x ∷ h) s).1 l.0)) (λ d. inr (statuses s e.0 ∙ (status_dead_by_reach (x ∷ h) s).1 d.0)) e.1

    stays : (s : ℕ) → s < g.n → (get_or t'.status s 0 ≡ status_live) ⊎ (get_or t'.status s 0 ≡ status_dead) → (e : History) → Continues (x ∷ h) e → Legal e → status e s ≡ get_or t'.status s 0
    stays s q (inl v) e d l = (status-live e s).1 (live_stays d ((status-live (x ∷ h) s).0 (sym (statuses s q) ∙ v))) ∙ sym v
    stays s q (inr v) e d l = (status-dead e s l).1 (dead_stays d ((status-dead (x ∷ h) s legal).0 (sym (statuses s q) ∙ v))) ∙ sym v

-- Demand 3. "Two runs from fresh tables of equal size. The full one is any list of updates (steps, terminal marks and closes, in any order, refused ones among them). The thinned one is sent, in the same order, what the full one accepted, less any choice of updates sent from a state already live. For every such list and choice, the thinned run accepts all that it is sent; each update it is sent has the same news in both runs and, after it, each state that the thinned run has named has the same status in both; what was left out had no news."
pub demand_3 :
    {g₀ g₁ g g' : Graph} {t₀ t₁ t t' : Tables} {xs : List Update} {h p q : History} →
    Fresh g₀ t₀ → Fresh g₁ t₁ → g₁.n ≡ g₀.n → g₁.limit ≡ g₀.limit → lengths t₁ ≡ lengths t₀ →
    (full : Run g₀ t₀ xs h g t) (choice : Pruned h p) (thin : Run g₁ t₁ p q g' t') →
    (q ≡ p) × Agree full choice thin
demand_3 f f' n m l full choice thin = agree f f' n m l full choice thin
