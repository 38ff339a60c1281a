-- Pruning changes no verdict: the heart of demand 3, on histories.
-- Assumes nothing.
use mathlib.Core.Path.{◌≡◌, refl, sym, ◌∙◌, subst}
use mathlib.Core.Logic.{⊎_elim}
use mathlib.Core.Bool.{Bool, true, false, not, ◌&&◌, ◌||◌}
use mathlib.Core.List.Memᴰ
use mathlib.Core.List.{[], ◌∷◌}
use Prim.Native.Nat.{ℕ}
use Rattle.gid.specs.declared.Update.{Update}
use Rattle.gid.specs.declared.Update.TheVariants.{Step, Terminal, Close}
use Rattle.gid.specs.Updates.{edge, source}
use Rattle.gid.specs.Histories.{History, Has, IsNamed, Legal}
use Rattle.gid.specs.Verdicts.{Live}
use Rattle.gid.specs.Systems.{Prunes, system}
use Rattle.gid.specs.Statuses.{is_live, is_dead, is_closed, is_named, status}
use Rattle.gid.specs.News.{settles, news}
use Rattle.gid.specs.Pruning.{Pruned, start, keep, leave, Agrees}
use Rattle.gid.proofs.Decide.{decided, refuted, same_test, decides_iff}
use Rattle.gid.proofs.Paths.{Inside, within_newer, within_both, step_within}
use Rattle.gid.proofs.Following.{follows_within}
use Rattle.gid.proofs.Tests.{decides_live, decides_dead, decides_closed, decides_named}
use Rattle.gid.proofs.Systems.{live_carried, dead_pruned, dead_full}
use Rattle.gid.proofs.Listing.{within_steps}
use Rattle.gid.proofs.Deadness.{live_within, live_system, dead_system}
use Rattle.gid.proofs.News.{below_same, below_none}

-- What holds of the full history f and the pruned one p all along: p is part of f, what was sent from a state that is not live in f is in p, and what is live in f is live in p.
pub record Keeps (f p : History) : Type 0 where
  pub part : Inside p f
  pub kept : (x : Update) → Has f x → (Live f (source x) → ⊥) → Has p x
  pub live : (s : ℕ) → Live f s → Live p s

-- A history keeps itself, as one of which nothing was left out.
pub keeps_itself : (h : History) → Keeps h h
keeps_itself h = record { part = λ x m. m; kept = λ x m n. m; live = λ s l. l }

-- what is live in f carries over to g, where g has what x ∷ f has from states that were not live
carried : {f g : History} (x : Update) → ((s : ℕ) → Live f s → Live g s) → ((y : Update) → (Live f (source y) → ⊥) → Has (x ∷ f) y → Has g y) → {s : ℕ} → Live (x ∷ f) s → Live g s
carried {f} {g} x o k l =
    (live_system g).1
    (live_carried (system f) (system (x ∷ f)) (system g) (λ s. decided (is_live f s) (decides_iff (decides_live f s) (live_system f).0 (live_system f).1))
    (λ s q. (live_system g).0 (o s ((live_system f).1 q)))
    (λ s n t. k (Terminal s) (λ q. n ((live_system f).0 q)) t)
    (λ s n. within_steps (x ∷ f) g s (λ t m. (m.0, k (Step (edge s t m.0)) (λ q. n ((live_system f).0 q)) m.1)))
    ((live_system (x ∷ f)).0 l))

-- an update sent from a live state makes no state live
pub live_before : {f : History} {x : Update} → Live f (source x) → {s : ℕ} → Live (x ∷ f) s → Live f s
live_before {f} {x} l = carried x (λ s q. q) (λ y n m. ⊎_elim (λ e. absurd (n (subst (λ (z : Update). Live f (source z)) (sym e) l))) (λ q. q) (Memᴰ.cases_cons m))

keeps_leave : {f p : History} (x : Update) → Live f (source x) → Keeps f p → Keeps (x ∷ f) p
keeps_leave {f} {p} x l k =
    record {
      part = λ y m. Memᴰ.tail (k.part y m);
      kept = λ y m n. ⊎_elim (λ e. absurd (n (live_within (within_newer x) (subst (λ (z : Update). Live f (source z)) (sym e) l)))) (λ m'. k.kept y m' (λ q. n (live_within (within_newer x) q))) (Memᴰ.cases_cons m);
      live = λ s q. k.live s (live_before l q);
    }

-- what was live, or is live by an update of p's, is live in p
live_after : {f p : History} (x : Update) → Keeps f p → {s : ℕ} → Live (x ∷ f) s → Live (x ∷ p) s
live_after x k =
    carried x (λ s q. live_within (within_newer x) (k.live s q)) (λ y n m. ⊎_elim (λ e. Memᴰ.head e) (λ q. Memᴰ.tail (k.kept y q n)) (Memᴰ.cases_cons m))

keeps_keep : {f p : History} (x : Update) → Keeps f p → Keeps (x ∷ f) (x ∷ p)
keeps_keep {f} {p} x k =
    record {
      part = within_both x k.part;
      kept = λ y m n. ⊎_elim (λ e. Memᴰ.head e) (λ m'. Memᴰ.tail (k.kept y m' (λ q. n (live_within (within_newer x) q)))) (Memᴰ.cases_cons m);
      live = λ s q. live_after x k q;
    }

pub keeps : {f p : History} → Pruned f p → Keeps f p
keeps start = keeps_itself []
keeps (keep x c) = keeps_keep x (keeps c)
keeps (leave x l c) = keeps_leave x l (keeps c)

module _ {f p : History} (k : Keeps f p) where
  -- The system of the one prunes that of the other.
  prunes : Prunes (system f) (system p)
  prunes =
      record {
        arcs = λ s. within_steps p f s (λ t m. step_within k.part m);
        goals = λ s m. k.part (Terminal s) m;
        finals = λ s m. k.part (Close s) m;
        kept_arcs = λ s n. within_steps f p s (λ t m. (m.0, k.kept (Step (edge s t m.0)) m.1 (λ l. n ((live_system f).0 l))));
        kept_finals = λ s n m. k.kept (Close s) m (λ l. n ((live_system f).0 l));
        live = λ s l. (live_system p).0 (k.live s ((live_system f).1 l));
      }

  -- Live in the one is live in the other.
  pub same_live : (s : ℕ) → is_live f s ≡ is_live p s
  same_live s = same_test (is_live f s) (is_live p s) (decides_live f s) (decides_live p s) (k.live s) (live_within k.part)

  -- Dead in the one is dead in the other.
  pub same_dead : (s : ℕ) → is_dead f s ≡ is_dead p s
  same_dead s =
      same_test (is_dead f s) (is_dead p s) (decides_dead f s) (decides_dead p s)
      (λ d. (dead_system p).1 (dead_pruned (system f) (system p) prunes ((dead_system f).0 d)))
      (λ d. (dead_system f).1 (dead_full (system f) (system p) prunes ((dead_system p).0 d)))

  -- A state that the pruned history has named has the same status in both.
  pub same_status : (s : ℕ) → IsNamed p s → status f s ≡ status p s
  unfolding status
  same_status s n = at (is_live p s) refl
    where
      same_named : is_named f s ≡ is_named p s
      same_named = same_test (is_named f s) (is_named p s) (decides_named f s) (decides_named p s) (λ m. n) (λ m. (m.0, k.part m.0 m.1, m.2))

      same_closed : is_live p s ≡ false → is_closed f s ≡ is_closed p s
      same_closed e =
          same_test (is_closed f s) (is_closed p s) (decides_closed f s) (decides_closed p s)
          (λ m. k.kept (Close s) m (λ l. refuted (decides_live f s) (same_live s ∙ e) l))
          (k.part (Close s))

      at : (b : Bool) → is_live p s ≡ b → status f s ≡ status p s
      at true e = rw (same_live s, e)
      at false e = rw (same_live s, same_dead s, same_closed e, same_named)

-- What was left out had no news.
pub no_news : (n : ℕ) {f p : History} (x : Update) → Keeps f p → Keeps (x ∷ f) p → news n f x ≡ []
unfolding news settles
no_news n {f} {p} x k k' =
    below_none n (settles f x) λ s h. rw (same_live k' s, same_live k s, same_dead k' s, same_dead k s) (never (is_live p s) (is_dead p s))
  where
    never : (a b : Bool) → a && not a || b && not b ≡ false
    never true true = refl
    never true false = refl
    never false true = refl
    never false false = refl

same_news : (n : ℕ) {f p : History} (x : Update) → Keeps f p → Keeps (x ∷ f) (x ∷ p) → news n f x ≡ news n p x
unfolding news settles
same_news n {f} {p} x k k' =
    below_same n (settles f x) (settles p x) λ s h. rw (same_live k' s, same_live k s, same_dead k' s, same_dead k s)

legal_pruned : {f p : History} → Pruned f p → Legal f → Legal p
legal_pruned start l = l
legal_pruned (keep x c) l = (legal_pruned c l.0, follows_within (keeps c).part x l.1)
legal_pruned (leave x q c) l = legal_pruned c l.0

-- Pruning, on histories: for every list of legal updates and every choice of updates sent from a state already live, the pruned history is legal, and the two agree.
pub pruning : (n : ℕ) {f p : History} (c : Pruned f p) → Legal f → Legal p × Agrees n c
pruning n c l = (legal_pruned c l, agrees c)
  where
    agrees : {f p : History} (c : Pruned f p) → Agrees n c
    agrees start = tt
    agrees (keep x c) = (agrees c, same_news n x (keeps c) (keeps (keep x c)), same_status (keeps (keep x c)))
    agrees (leave x q c) = (agrees c, no_news n x (keeps c) (keeps (leave x q c)))
