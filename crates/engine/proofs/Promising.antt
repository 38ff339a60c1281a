-- The engine's promise, from what the tests answer and from what an accepted update does.
-- Assumes nothing.
use mathlib.Core.Path.{◌≡◌, refl, sym, ◌∙◌}
use mathlib.Core.Bool.{Bool, true, false, cond, false≢true}
use mathlib.Core.List.{List}
use mathlib.Core.Option.{some}
use Prim.Native.Nat.{ℕ, ◌+◌, ◌<◌, ◌≤◌}
use native.Mathlib.Omega.{arith}
use lib.Dec.{leb}
use lib.ListN.{length, get_or}
use borrow.Author.Tests.{leb-false, ltb-false, eqb-false}
use Rattle.gid.specs.declared.Edge.{Edge}
use Rattle.gid.specs.declared.Update.{Update}
use Rattle.gid.specs.declared.Update.TheVariants.{Step, Terminal, Close}
use Rattle.gid.specs.Updates.{source}
use Rattle.gid.specs.Histories.{History, IsClosed, is_in, repeats, added, step_of, listed}
use Rattle.gid.specs.Refusals.{sent, max_key}
use Rattle.gid.proofs.Decide.{refuted}
use Rattle.tables.specs.declared.Graph.{Graph}
use Rattle.tables.specs.Tables.{Tables, nodes_of, long_enough}
use Rattle.tables.specs.Marks.{has_closed, closes_again}
use Rattle.tables.specs.Listing.{listed_on, added_on, graph_after}
use Rattle.tables.specs.Refused.{is_full, given, is_again, none_listed, refusal_on, lent_number, sent_number, place_number}
use Rattle.tables.specs.Fitting.{Consistent}
use Rattle.tables.proofs.Bits.{decides_closed_mark}
use Rattle.tables.proofs.Sizes.{long-enough}
use Rattle.tables.specs.declared.refusal.Refusal.{Refusal}
use Rattle.tables.specs.Numbers.{number_of}
use Rattle.tables.proofs.Refusing.{number_positive, passed, neither, lent_leaves, refused_lent, refused_sent, refused_full, accepted_again, accepted_new, sent_passes}
use Rattle.tables.proofs.Listed.{listed_same}
use Rattle.std.specs.Prelude.{Ok as Accepted, Err as Refused}
use Rattle.search.specs.Spreading.{chains, into, out_of, Walkable}
use Rattle.search.specs.Escaping.{toward}
use Rattle.engine.specs.Effects.{set_marks, names_after}
use Rattle.engine.specs.Preparing.{InRange, KeyBelow, Free, Storable}
use Rattle.engine.specs.Judging.{Judged}
use Rattle.engine.specs.Done.{Listed, search_tables, Done, Room}
use Rattle.engine.specs.Promise.{Promise}
use Rattle.engine.proofs.Acting.{source_below, in_range_wider, key_wider}
use Rattle.engine.proofs.Preparing.{storable_range, storable_key, storable_free}
use Rattle.engine.proofs.Fitting.{done_fits}
use Rattle.engine.proofs.Keeping.{done_keeps}
use Rattle.engine.proofs.Again.{renamed, repeats_same, again_accepted}

pub room_of : (g : Graph) (t : Tables) → lent_number g (long_enough g t) ≡ 0 → Room g.n (nodes_of g) g.limit g.steps t
room_of g t e =
    let l = lent_leaves g (long_enough g t) e in
    let a = long-enough g.n g.n g.limit t l.longs in
    record { states = l.few_states; bound = l.low_limit; steps = l.room; news = a.0; long = a.1 }

-- What the tests 5, 14 and 6 leave: states and key in range, and the first state not closed, but where the update is a close of a closed state.
pub passed_of : (g : Graph) (marks : List ℕ) (x : Update) → sent_number g marks x ≡ 0 → InRange g.n x × KeyBelow (max_key + 1) x × (closes_again x marks ≡ false → has_closed (get_or marks (source x) 0) ≡ false)
passed_of g marks (Step d) e =
    let p = passed (sent (given g true false none_listed marks) (Step d)) (sent_passes g marks (Step d) e) in
    let r = neither (leb g.n d.from) (leb g.n d.to) p.0 in
    ((leb-false g.n d.from r.0, leb-false g.n d.to r.1), omega (arith, ltb-false max_key d.key p.1.0), λ o. p.1.1.0)
passed_of g marks (Terminal u) e =
    let p = passed (sent (given g true false none_listed marks) (Terminal u)) (sent_passes g marks (Terminal u) e) in
    (leb-false g.n u p.0, tt, λ o. p.1.0)
passed_of g marks (Close u) e =
    let p = passed (sent (given g true false none_listed marks) (Close u)) (sent_passes g marks (Close u) e) in
    (leb-false g.n u p.0, tt, λ o. o)

-- And where the test 9 finds nothing, it can be stored.
pub storable_of : (g : Graph) (x : Update) → g.steps ≤ g.limit → InRange g.n x → KeyBelow (max_key + 1) x → place_number (is_full g) x ≡ 0 → Storable g.n g.limit g.steps x
unfolding place_number
storable_of g (Step d) h r k e = (r.0, r.1, free (is_full g) refl e, omega arith)
  where
    free : (b : Bool) → is_full g ≡ b → ◌≡◌ {A = ℕ} (cond b 9 0) 0 → g.steps < g.limit
    free true q z = absurd (omega arith)
    free false q z = let n = eqb-false g.steps g.limit q in omega arith
storable_of g (Terminal u) h r k e = r
storable_of g (Close u) h r k e = r

-- An update that does not come again is no close of a closed state and no repeated step, so that it adds what it sends.
pub new_closes : (x : Update) (marks : List ℕ) (has : Edge → Bool) → is_again x marks has ≡ false → closes_again x marks ≡ false
unfolding is_again
new_closes (Step e) marks has q = refl
new_closes (Terminal u) marks has q = refl
new_closes (Close u) marks has q = q

pub new_repeats : (x : Update) (marks : List ℕ) (has : Edge → Bool) → is_again x marks has ≡ false → repeats has x ≡ false
unfolding is_again
new_repeats (Step e) marks has q = q
new_repeats (Terminal u) marks has q = refl
new_repeats (Close u) marks has q = refl

pub new_adds : (x : Update) (has : Edge → Bool) → repeats has x ≡ false → added has x ≡ step_of x
new_adds (Step e) has q = rw q
new_adds (Terminal u) has q = refl
new_adds (Close u) has q = refl

-- What the parts of an accepted update ask for.
module _ {n limit m : ℕ} {t : Tables} (room : Room n n limit m t) (x : Update) (s : Storable n limit m x) where
  wider : (b : ℕ) → n ≤ b → InRange b x
  wider b h = in_range_wider n b x h (storable_range n limit m x s)

  pub listable : (InRange 65536 x × KeyBelow 256 x) × (Free m x t.from × Free m x t.to × Free m x t.key)
  listable =
      let free = storable_free n limit m x s in
      let l = room.long in (
        (wider 65536 (omega (arith, room.states)), key_wider (max_key + 1) 256 x (omega arith) (storable_key n limit m x s)),
        (free t.from l.from, free t.to l.to, free t.key l.key),
      )

  pub chainable : (InRange (length t.in_head) x × InRange (length t.out_head) x) × (Free m x t.in_next × Free m x t.out_next) × (m < 65535)
  chainable =
      let free = storable_free n limit m x s in
      let l = room.long in (
        (wider (length t.in_head) l.in_head, wider (length t.out_head) l.out_head),
        (free t.in_next l.in_next, free t.out_next l.out_next),
        omega (arith, room.steps, room.bound),
      )

  -- the number of steps with the update
  steps_most : m + length (step_of x) ≤ limit
  steps_most = at x s
    where
      at : (y : Update) → Storable n limit m y → m + length (step_of y) ≤ limit
      at (Step e) s = omega (arith, s.2)
      at (Terminal u) s = omega (arith, room.steps)
      at (Close u) s = omega (arith, room.steps)

  -- chains over tables of the same lengths can be walked
  pub walkable : (ends head next ends' head' next' : List ℕ) → limit ≤ length ends → n ≤ length head → limit ≤ length next → length ends' ≡ length ends → length head' ≡ length head → length next' ≡ length next → {k : ℕ} → k ≡ m + length (step_of x) → Walkable (chains n k ends' head' next')
  walkable ends head next ends' head' next' a b c d e f q =
      record {
        few = omega (arith, steps_most, room.bound);
        heads = omega arith;
        nexts = omega (arith, steps_most);
        ends' = omega (arith, steps_most);
      }

-- What the look for an earlier update asks for.
pub lookable : (g : Graph) (x : Update) (t : Tables) → Room g.n (nodes_of g) g.limit g.steps t → InRange g.n x →
    (InRange 65536 x × InRange (length t.marks) x) × ((g.steps ≤ length t.from) × (g.steps ≤ length t.to) × (g.steps ≤ length t.key)) ×
    Walkable (chains g.n g.steps t.to t.out_head t.out_next)
lookable g x t room r =
    let l = room.long in (
      (in_range_wider g.n 65536 x (omega (arith, room.states)) r, in_range_wider g.n (length t.marks) x l.marks r),
      (omega (arith, room.steps, l.from), omega (arith, room.steps, l.to), omega (arith, room.steps, l.key)),
      record {
        few = omega (arith, room.steps, room.bound);
        heads = l.out_head;
        nexts = omega (arith, room.steps, l.out_next);
        ends' = omega (arith, room.steps, l.to);
      },
    )

-- An update is done where its parts are.
pub done_of :
    {n m k steps : ℕ} (t t' : Tables) {status : List ℕ} (x : Update) → t'.marks ≡ set_marks x t.marks →
    Listed m x t.from t.to t.key t.in_head t.out_head t.in_next t.out_next t'.from t'.to t'.key t'.in_head t'.out_head t'.in_next t'.out_next →
    steps ≡ m + length (step_of x) → status ≡ names_after x t.status →
    Judged n (into (chains n steps t'.from t'.in_head t'.in_next)) (out_of (chains n steps t'.to t'.out_head t'.out_next)) (toward steps t'.to) x
    (record { status = status; successor = t.successor; news = t.news; visited = t.visited; queue = t.queue }) (search_tables t') k →
    Done n m t t' k x
done_of t t' x m l e f j = record { marks = m; listed = l; judged = rw (e, f) at j }

module _ (g : Graph) (x : Update) (t : Tables) where
  -- a refusal, by the caller's tests or by the explorer's
  refusal_kept : (r : Refusal) → refusal_on g t x ≡ some (number_of r) → Promise g x t g (Refused r) t
  refusal_kept r e = record { number = sym e; refuses = λ j q. (refl, refl, refl); accepts = λ q. absurd (let z : ◌≡◌ {A = ℕ} 0 1 = cc in omega arith) }

  pub lent_kept : (r : Refusal) → lent_number g (long_enough g t) ≡ number_of r → Promise g x t g (Refused r) t
  lent_kept r e = refusal_kept r (refused_lent g t x (number_of r) e (number_positive r))

  module _ (lent : lent_number g (long_enough g t) ≡ 0) where
    pub sent_kept : (r : Refusal) → sent_number g t.marks x ≡ number_of r → Promise g x t g (Refused r) t
    sent_kept r e = refusal_kept r (refused_sent g t x lent (number_of r) e (number_positive r))

    module _ (e : sent_number g t.marks x ≡ 0) where
      room : Room g.n (nodes_of g) g.limit g.steps t
      room = room_of g t lent

      pub full_kept : (r : Refusal) → is_again x t.marks (listed_on g t) ≡ false → place_number (is_full g) x ≡ number_of r → Promise g x t g (Refused r) t
      full_kept r a q = refusal_kept r (refused_full g t x lent e (number_of r) a q (number_positive r))

      -- an update that comes again and names its states keeps the promise
      pub again_kept : is_again x t.marks (listed_on g t) ≡ true → Promise g x t g (Accepted 0) (renamed x t)
      again_kept r =
          let a = accepted_again g t x lent e r in
          record {
            number = sym a;
            refuses = λ j q. absurd (let z : ◌≡◌ {A = ℕ} 0 1 = cc in omega arith);
            accepts = λ q. again_accepted g x t r (passed_of g t.marks x e).0;
          }

      module _ (once : is_again x t.marks (listed_on g t) ≡ false) (placed : place_number (is_full g) x ≡ 0) {t' : Tables} {k : ℕ} (done : Done g.n g.steps t t' k x) where
        left : InRange g.n x × KeyBelow (max_key + 1) x × (closes_again x t.marks ≡ false → has_closed (get_or t.marks (source x) 0) ≡ false)
        left = passed_of g t.marks x e

        storable : Storable g.n g.limit g.steps x
        storable = storable_of g x room.steps left.0 left.1 placed

        closes_once : closes_again x t.marks ≡ false
        closes_once = new_closes x t.marks (listed_on g t) once

        unclosed : {h : History} → Consistent h g t → IsClosed h (source x) → ⊥
        unclosed c = refuted (decides_closed_mark c (source x) (source_below g.n x left.0)) (left.2 closes_once)

        new : repeats (listed_on g t) x ≡ false
        new = new_repeats x t.marks (listed_on g t) once

        adds : added_on g t x ≡ step_of x
        adds = new_adds x (listed_on g t) new

        -- an accepted update that is done keeps the promise
        pub done_kept : Promise g x t (graph_after g (step_of x)) (Accepted k) t'
        done_kept =
            let a = accepted_new g t x lent e once placed in
            let k = done_keeps storable done in
            record {
              number = sym a;
              refuses = λ j q. absurd (let z : ◌≡◌ {A = ℕ} 0 1 = cc in omega arith);
              accepts = λ q.
                  record {
                    graph = rw adds;
                    marks = rw closes_once done.marks;
                    from = rw adds done.listed.sources;
                    to = rw adds done.listed.targets;
                    key = rw adds done.listed.keys;
                    kept = k.0;
                    named = k.1;
                    again = λ q. absurd (false≢true (sym closes_once ∙ q));
                    repeated = λ q. absurd (false≢true (sym new ∙ q));
                    fits = λ h l c. done_fits c room t' x (new_listed c) storable (unclosed c) done;
                  };
            }
          where
            new_listed : {h : History} → Consistent h g t → added (is_in (listed h)) x ≡ step_of x
            new_listed {h} c = new_adds x (is_in (listed h)) (sym (repeats_same x (listed_same c)) ∙ new)
