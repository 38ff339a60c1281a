-- The facts hold exactly where the tables fit; what the parts of the check answer, put together.
-- Assumes nothing.
use mathlib.Core.Path.{◌≡◌, refl, sym, ◌∙◌}
use mathlib.Core.Logic.{◌↔◌}
use mathlib.Core.Bool.{Bool, true, false, false≢true}
use mathlib.Core.List.{List}
use mathlib.Core.Option.{some}
use Prim.Native.Nat.{ℕ, ◌<◌, ◌≤◌}
use native.Mathlib.Omega.{arith}
use lib.ListN.{length, get_or}
use Rattle.std.specs.Prelude.{Ok, Err}
use Rattle.tables.specs.declared.Graph.{Graph}
use Rattle.tables.specs.declared.refusal.Refusal.{Refusal}
use Rattle.tables.specs.Numbers.{number_of}
use Rattle.tables.specs.Tables.{Tables, nodes_of, visited_length, Long, enough, lengths, check_needs}
use Rattle.tables.specs.Visits.{NoneVisited}
use Rattle.tables.specs.Refused.{lent_number}
use Rattle.tables.specs.Marks.{has_terminal, has_closed}
use Rattle.tables.specs.Listing.{Distinct}
use Rattle.tables.specs.Work.{ListRule}
use Rattle.tables.specs.Fitting.{Fits}
use Rattle.tables.proofs.Sizes.{long_checked, long_fewer}
use Rattle.tables.proofs.Refusing.{Lent, lent_leaves, lent_passes, lent_refuses, number_positive}
use Rattle.tables.specs.Keeping.{Kept}
use Rattle.tables.proofs.Keeping.{kept_none, kept_trans}
use Rattle.audit.specs.Facts.{steps_into, TableFacts}
use Rattle.audit.specs.Parts.{Below, ApartKeys, Differ, ListFits, ListsJudged, Answered, Claims, EntriesFit, Judged}
use Rattle.audit.specs.Audited.{audit_refusal, Audited}
use Rattle.audit.proofs.Reading.{StepFacts, decides_state, decides_step}
use Rattle.audit.proofs.Canonical.{canonical_legal}
use Rattle.audit.proofs.Founding.{canonical_of, founded}
use Rattle.audit.proofs.Meeting.{met}
use Rattle.audit.proofs.Differing.{apart_distinct}

-- Tables fit exactly where the facts hold: "some legal history gives" them.
pub facts_fit : (g : Graph) (t : Tables) → g.steps ≤ length t.from → g.steps ≤ length t.to → g.steps ≤ length t.key → TableFacts g.n g.steps t ↔ Fits g t
facts_fit g t a b c = (
  λ f. (canonical_of g t, canonical_legal g.n g.steps t.from t.to t.key (λ s. has_terminal (get_or t.marks s 0)) (λ s. has_closed (get_or t.marks s 0)), founded g t f a b c),
  λ q. met q.2,
)

-- Both lists, and the search for equal steps.
pub lists_judged : {n m : ℕ} (t : Tables) {a b r : Bool} {last last' seen : List ℕ} → ListFits n m t.to t.in_head t.in_next t.queue last a → a ≡ true → ListFits n m t.from t.out_head t.out_next last last' b → b ≡ true → Differ n (ApartKeys n (steps_into n m t) t.key) last' seen r → ListsJudged n m t seen r
lists_judged t into a out_of b differ =
    record {
      exact = (λ y. (into.exact.0 a, out_of.exact.0 b, differ.exact.0 y), λ q. differ.exact.1 q.2);
      kept = kept_trans into.kept (kept_trans out_of.kept differ.kept);
    }

-- What the tests of entries leave to the later parts, and why these decide where the entries pass.
module _ {n m : ℕ} (t : Tables) (e : EntriesFit n m t) where
  step_facts : (p : ℕ) → p < m → StepFacts n t.status t.marks (get_or t.from p 0) (get_or t.to p 0)
  step_facts p h = (decides_step n t.status t.marks (get_or t.from p 0) (get_or t.to p 0)).sound (e.1 p h)

  pub none_visited : NoneVisited n t.visited
  none_visited s h = ((decides_state m t.status t.marks t.from t.successor t.in_head t.out_head t.visited s).sound (e.0 s h)).unvisited

  pub ends_below : Below n m t.from × Below n m t.to
  ends_below = (λ p h. (step_facts p h).source, λ p h. (step_facts p h).target)

  -- No two steps that walks meet are equal exactly where no two listed ones are.
  apart_facts : ListRule n m t.to t.in_head t.in_next → ApartKeys n (steps_into n m t) t.key ↔ Distinct m t.from t.to t.key
  apart_facts rule = apart_distinct t.from t.key rule ends_below.1 e.2

module _ {n m : ℕ} (t : Tables) where
  entries : TableFacts n m t → EntriesFit n m t
  entries f = (f.states, f.steps, f.keys)

  -- A no: some fact fails.
  denied : {queue : List ℕ} → (TableFacts n m t → ⊥) → Kept n t.queue queue → Judged n m t false queue t.visited
  denied f q = record { exact = (λ e. absurd (false≢true e), λ t. absurd (f t)); none = λ e. absurd (false≢true e); visits = kept_none (visited_length n) t.visited; queues = q }

  pub entries_denied : (false ≡ true) ↔ EntriesFit n m t → Judged n m t false t.queue t.visited
  entries_denied a = denied (λ f. false≢true (a.1 (entries f))) (kept_none n t.queue)

  module _ {b : Bool} {queue : List ℕ} (lists : (b ≡ true) ↔ (ListRule n m t.to t.in_head t.in_next × ListRule n m t.from t.out_head t.out_next × ApartKeys n (steps_into n m t) t.key)) (kept : Kept n t.queue queue) where
    pub lists_denied : b ≡ false → Judged n m t false queue t.visited
    lists_denied z = denied (λ f. false≢true (sym z ∙ lists.1 (f.into, f.out_of, (apart_facts t (entries f) f.into).1 f.distinct))) kept

    -- The last part decides where all others passed.
    pub judged : {r : Bool} {queue' visited : List ℕ} → EntriesFit n m t → b ≡ true → Answered n (Claims n (steps_into n m t) t.status t.marks t.successor) t.visited queue visited queue' r → Judged n m t r queue' visited
    judged e z claims =
        let l = lists.0 z in
        record {
          exact = (
            λ y. record { states = e.0; steps = e.1; keys = e.2; distinct = (apart_facts t e l.0).0 l.2; into = l.0; out_of = l.1; lives = (claims.exact.0 y).0; escapes = (claims.exact.0 y).1 },
            λ f. claims.exact.1 (f.lives, f.escapes),
          );
          none = λ y. claims.none;
          visits = claims.visits;
          queues = kept_trans kept claims.queues;
        }

module _ (g : Graph) (t : Tables) where
  module _ (passed : lent_number g (enough (check_needs g.n (nodes_of g) g.limit (lengths t))) ≡ 0) where
    -- what the tests 1 to 4 leave
    leaves : Lent g (enough (check_needs g.n (nodes_of g) g.limit (lengths t)))
    leaves = lent_leaves g (enough (check_needs g.n (nodes_of g) g.limit (lengths t))) passed

    pub few : (0 < g.n) × (g.n < 65536) × (g.steps < 65535)
    few = omega (arith, leaves)

    pub long-enough : Long g.n (nodes_of g) g.steps t
    long-enough = long_fewer leaves.room (long_checked g.n (nodes_of g) g.limit t leaves.longs)

    fits : TableFacts g.n g.steps t ↔ Fits g t
    fits = facts_fit g t long-enough.from long-enough.to long-enough.key

    none_refused : (k : ℕ) → audit_refusal g t ≡ some k → ⊥
    none_refused k e = let p = lent_passes g (enough (check_needs g.n (nodes_of g) g.limit (lengths t))) passed in let z : ◌≡◌ {A = ℕ} 0 1 = cc in omega arith

    -- A yes or a no,
    pub says : (b : Bool) {queue visited : List ℕ} → Judged g.n g.steps t b queue visited → Audited g t (Ok b) queue visited
    says true j =
        let f = fits.0 (j.exact.0 refl) in
        record {
          refused = λ k. (λ e. absurd (let z : ◌≡◌ {A = ℕ} 0 1 = cc in omega arith), λ e. absurd (none_refused k e));
          unchanged = λ k e. absurd (let z : ◌≡◌ {A = ℕ} 0 1 = cc in omega arith);
          yes = λ p. (λ e. f, λ q. refl);
          no = λ p. (λ e. absurd (let z : ◌≡◌ {A = ℕ} 0 1 = cc in omega arith), λ q. absurd (q f));
          queue = j.queues;
          visited = j.visits;
          still = λ e h c.
              record {
                in_range = c.in_range;
                keys_in_range = c.keys_in_range;
                marks = c.marks;
                steps = c.steps;
                from = c.from;
                to = c.to;
                key = c.key;
                status = c.status;
                successor = c.successor;
                into = c.into;
                out_of = c.out_of;
                unvisited = j.none refl;
              };
        }
    says false j =
        record {
          refused = λ k. (λ e. absurd (let z : ◌≡◌ {A = ℕ} 0 1 = cc in omega arith), λ e. absurd (none_refused k e));
          unchanged = λ k e. absurd (let z : ◌≡◌ {A = ℕ} 0 1 = cc in omega arith);
          yes = λ p. (λ e. absurd (let z : ◌≡◌ {A = ℕ} 0 1 = cc in omega arith), λ q. absurd (false≢true (j.exact.1 (fits.1 q))));
          no = λ p. (λ e q. false≢true (j.exact.1 (fits.1 q)), λ q. refl);
          queue = j.queues;
          visited = j.visits;
          still = λ e. absurd (let z : ◌≡◌ {A = ℕ} 0 1 = cc in omega arith);
        }

  -- and a refusal.
  pub says_refused : (r : Refusal) → lent_number g (enough (check_needs g.n (nodes_of g) g.limit (lengths t))) ≡ number_of r → Audited g t (Err r) t.queue t.visited
  says_refused r e =
      let number = lent_refuses g (enough (check_needs g.n (nodes_of g) g.limit (lengths t))) (number_of r) e (number_positive r) in
      record {
        refused = λ j. (λ q. let z : number_of r ≡ j = cc in rw z at number, λ q. let z : number_of r ≡ j = cc in rw z);
        unchanged = λ j q. (refl, refl);
        yes = λ p. absurd (let z : ◌≡◌ {A = ℕ} 0 1 = cc in omega arith);
        no = λ p. absurd (let z : ◌≡◌ {A = ℕ} 0 1 = cc in omega arith);
        queue = kept_none (nodes_of g) t.queue;
        visited = kept_none (visited_length (nodes_of g)) t.visited;
        still = λ q. absurd (let z : ◌≡◌ {A = ℕ} 0 1 = cc in omega arith);
      }
