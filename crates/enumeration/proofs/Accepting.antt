-- A small history that is sent from fresh tables is accepted whole, and the status table has its statuses.
-- Assumes nothing.
use mathlib.Core.Path.{◌≡◌, refl, ◌∙◌, ap}
use mathlib.Core.Logic.{inl}
use mathlib.Core.Bool.{Bool, true, false, cond}
use mathlib.Core.List.Memᴰ
use mathlib.Core.List.{List, [], ◌∷◌}
use mathlib.Core.Option.{none}
use Prim.Native.Nat.{ℕ, ◌<◌, ◌≤◌}
use native.Mathlib.Omega.{arith}
use lib.ListN.{length, get_or, replicate, get_or-replicate, length-append}
use Rattle.gid.specs.declared.Edge.{Edge}
use Rattle.gid.specs.declared.Update.{Update}
use Rattle.gid.specs.declared.Update.TheVariants.{Step, Terminal, Close}
use Rattle.gid.specs.Histories.{History, MayFollow, Legal, is_in, added, listed}
use Rattle.gid.specs.Statuses.{status}
use Rattle.tables.specs.declared.Graph.{Graph}
use Rattle.gid.specs.Successors.{no_successor}
use Rattle.tables.specs.Tables.{Tables, tables_of, visited_length, long_enough}
use Rattle.tables.specs.Fitting.{AllBelow, Fresh}
use Rattle.std.specs.Prelude.{Ok as Accepted, Err as Refused}
use Rattle.engine.specs.Answers.{Answer, answer_number}
use Rattle.engine.specs.Promise.{Promise, Sendable}
use Rattle.engine.specs.Runs.{Run, begun, accepted, refused}
use Rattle.engine.proofs.Running.{unchecked, sound, sound_checked}
use Rattle.engine.proofs.Earlier.{still_long}
use Rattle.engine.proofs.Demands.{demand_1}
use Rattle.enumeration.specs.Small.{SmallUpdate, SmallHistory}
use Rattle.enumeration.specs.Sending.{Sends, start, StatusesAfter}
use Rattle.enumeration.specs.Ranking.{unranked}
use Rattle.enumeration.specs.Parts.{newest_of, older_of}
use Rattle.enumeration.proofs.Ranking.{AllSmall, unranked_none, unranked_newest}

-- Nothing is sent of the empty history; a history's newest update is sent behind those before it.
pub sent_none : {g : Graph} {t : Tables} (i : ℕ) → i ≡ 0 → Sends (unranked i) g t g t
sent_none i e = rw (e, unranked_none) ([], begun)

sent_more : {h : History} {g₀ g g' : Graph} {t₀ t t' : Tables} (x : Update) (a : Answer) → Sends h g₀ t₀ g t → Promise g x t g' a t' → Sends (x ∷ h) g₀ t₀ g' t'
sent_more x (Accepted k) s p = (x ∷ s.0, accepted s.1 unchecked x k p)
sent_more x (Refused k) s p = (s.0, refused s.1 unchecked x k p)

pub sent_ranked : {g₀ g g' : Graph} {t₀ t t' : Tables} {a : Answer} (i j : ℕ) (x : Update) → 0 < i → j ≡ older_of i → x ≡ newest_of i → Sends (unranked j) g₀ t₀ g t → Promise g x t g' a t' → Sends (unranked i) g₀ t₀ g' t'
sent_ranked {a = a} i j x h e f s p = rw (unranked_newest i h, ← e, ← f) (sent_more x a s p)

-- The tables that a history is sent on are fresh.
abbrev lent_tables : Tables
lent_tables =
    tables_of (replicate 2 0) (replicate 2 0) (replicate 3 0) (replicate 3 0) (replicate 3 0) (replicate 2 no_successor) (replicate 2 0)
    (replicate 2 0) (replicate 2 0) (replicate 2 0) (replicate 1 0) (replicate 3 0) (replicate 3 0)

pub sent_statuses : {h : History} {g : Graph} {t : Tables} → {s : List ℕ} → Sends h start lent_tables g t → s ≡ t.status → StatusesAfter h s
unfolding visited_length
sent_statuses {g = g} {t = t} s e =
    record {
      lent = lent_tables;
      fresh =
          record {
            no_steps = refl;
            status = all 2 0;
            marks = all 2 0;
            successor = all 2 no_successor;
            in_head = all 2 0;
            out_head = all 2 0;
            queue = all 2 0;
            visited = all 1 0;
            in_next = all 3 0;
            out_next = all 3 0;
          };
      long = refl;
      graph = g;
      tables = t;
      sent = s;
      first = ap (λ l. get_or l 0 0) e;
      second = ap (λ l. get_or l 1 0) e;
    }
  where
    all : (n v : ℕ) → AllBelow n v (replicate n v)
    all n v i l = get_or-replicate n i v 0 l

-- A history lists no more steps than it has updates.
listed_few : (h : History) → length (listed h) ≤ length h
unfolding listed
listed_few [] = omega arith
listed_few (x ∷ h) = omega (arith, length-append (listed h) (added (is_in (listed h)) x), one (is_in (listed h)) x, listed_few h)
  where
    either : (e : Edge) (b : Bool) → length (cond b [] (e ∷ [])) ≤ 1
    either e true = omega arith
    either e false = omega arith

    one : (has : Edge → Bool) (y : Update) → length (added has y) ≤ 1
    one has (Step e) = either e (has e)
    one has (Terminal u) = omega arith
    one has (Close u) = omega arith

-- what is small can be sent behind at most two steps
small_sendable : (m : ℕ) (has : Edge → Bool) (x : Update) → m < 3 → SmallUpdate x → Sendable 2 3 m has x
small_sendable m has (Step e) l s = (s.0, s.1, rw s.2 (omega arith), inl l)
small_sendable m has (Terminal u) l s = s
small_sendable m has (Close u) l s = s

module _ {t₀ : Tables} (fresh : Fresh start t₀) (long : long_enough start t₀ ≡ true) where
  -- Every update of a small history is accepted, by demand 1.
  accepts_all : {h q : History} {g : Graph} {t : Tables} → Legal h → length h ≤ 3 → AllSmall h → Run start t₀ h q g t → q ≡ h
  accepts_all l n a begun = refl
  accepts_all l n a (accepted r c x k p) = ap (λ (f : History). x ∷ f) (accepts_all l.0 (omega arith) (λ y m. a y (Memᴰ.tail m)) r)
  accepts_all l n a (refused {xs = xs} {h = q} {g = g} {g' = g'} {t = t} {t₁ = t₁} {t' = t'} r c x k p) =
      let e : q ≡ xs = accepts_all l.0 (omega arith) (λ y m. a y (Memᴰ.tail m)) r in
      let s = sound fresh r in
      let few : g.steps < 3 = omega (arith, s.fits.steps, listed_few q, ap length e) in
      let sendable : Sendable g.n g.limit g.steps (is_in (listed q)) x = rw (s.states, s.limit) (small_sendable g.steps (is_in (listed q)) x few (a x (Memᴰ.head refl))) in
      let follows : MayFollow q x = rw e l.1 in
      let z : answer_number (Refused k) ≡ none =
      demand_1.0 start g g' t₀ t t₁ t' xs q (Refused k) fresh r c (omega (arith, s.states)) (omega (arith, s.states)) (omega (arith, s.limit)) (omega (arith, s.limit)) (still_long (sound_checked s c) long) x sendable follows p in
      absurd (let b : ◌≡◌ {A = ℕ} 0 1 = cc in omega arith)

-- "the two final status digits": the statuses of the definition.
pub statuses_right : {h : History} {r : List ℕ} → SmallHistory h → StatusesAfter h r → (get_or r 0 0 ≡ status h 0) × (get_or r 1 0 ≡ status h 1)
statuses_right {h} s a =
    let e = accepts_all a.fresh a.long s.legal s.short s.small a.sent.1 in
    let w = sound a.fresh a.sent.1 in
    (a.first ∙ w.fits.status 0 (omega (arith, w.states)) ∙ ap (λ (f : History). status f 0) e, a.second ∙ w.fits.status 1 (omega (arith, w.states)) ∙ ap (λ (f : History). status f 1) e)
