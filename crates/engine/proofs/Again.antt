-- An update that comes again, a close of a closed state or a repeated step: tables that fit for a history fit for the history with it, so that an engine that only names the states of a repeated step keeps the promise; and one that keeps the promise changes nothing by a close of a closed state, and by a repeated step nothing but names.
-- Assumes nothing.
use mathlib.Core.Path.{◌≡◌, refl, sym, ◌∙◌, ap, subst}
use mathlib.Core.Logic.{inl, inr}
use mathlib.Core.Bool.{Bool, true, false, false≢true}
use mathlib.Core.List.Memᴰ
use mathlib.Core.List.{List, [], ◌∷◌, append-nil}
use mathlib.Core.Option.{none}
use Prim.Native.Nat.{ℕ, ◌+◌, ◌<◌}
use native.Mathlib.Omega.{arith}
use lib.ListN.{get_or, set}
use lib.Seq.{set-get_or}
use borrow.Author.Tests.{lt-leb}
use Rattle.gid.specs.declared.Edge.{Edge}
use Rattle.gid.specs.declared.Update.{Update}
use Rattle.gid.specs.declared.Update.TheVariants.{Step, Terminal, Close}
use Rattle.gid.specs.Updates.{Mentions}
use Rattle.gid.specs.Histories.{History, Has, IsNamed, is_in, repeats, added, listed}
use Rattle.gid.specs.Statuses.{is_named, is_terminal, is_closed, is_live, is_dead, status}
use Rattle.gid.proofs.Tests.{decides_named}
use Rattle.gid.proofs.Listing.{decides_listed}
use Rattle.gid.proofs.Repeats.{within_older, repeated_names, repeated_named, repeated_terminal, repeated_closed, repeated_status, repeated_news}
use Rattle.tables.specs.declared.Graph.{Graph}
use Rattle.tables.specs.Tables.{Tables, tables_of, nodes_of, long_enough}
use Rattle.tables.specs.Marks.{has_closed, with_named}
use Rattle.tables.specs.Keeping.{KeptTables}
use Rattle.tables.specs.Listing.{listed_on, graph_after}
use Rattle.tables.specs.Refused.{is_again, lent_number, sent_number}
use Rattle.tables.specs.Fitting.{marks_of, Consistent}
use Rattle.tables.proofs.Bits.{bits, byte, decides_closed_mark}
use Rattle.tables.proofs.Keeping.{kept_none, tables_same}
use Rattle.tables.proofs.Listed.{listed_same}
use Rattle.tables.proofs.Refusing.{accepted_again}
use Rattle.engine.specs.Answers.{Answer}
use Rattle.std.specs.Prelude.{Ok as Accepted, Err as Refused}
use Rattle.engine.specs.Answers.{answer_number, news_count}
use Rattle.engine.specs.Effects.{mark_at, named_byte, name_at, only_named}
use Rattle.engine.specs.Preparing.{InRange, status_again, marks_again}
use Rattle.engine.specs.Promise.{NewsKept, AcceptedUpdate, Promise}
use Rattle.engine.proofs.Keeping.{marks_kept, names_kept}
use Rattle.engine.proofs.Settlement.{by_tests}

-- An answer that is no refusal and has no news.
answered : (b : Answer) → answer_number b ≡ none → news_count b ≡ 0 → b ≡ Accepted 0
answered (Accepted k) q z = ap Accepted z
answered (Refused k) q z = absurd (let y : ◌≡◌ {A = ℕ} 0 1 = cc in omega arith)

-- The tables once the states of an update that comes again are named.
abbrev pub renamed : Update → Tables → Tables
renamed x t =
    tables_of (status_again x t.status) (marks_again x t.marks) t.from t.to t.key t.successor t.news t.in_head t.out_head t.queue t.visited t.in_next t.out_next

-- Which updates repeat a step turns on the test alone.
pub repeats_same : (x : Update) {has has' : Edge → Bool} → ((e : Edge) → has e ≡ has' e) → repeats has x ≡ repeats has' x
repeats_same (Step e) f = f e
repeats_same (Terminal u) f = refl
repeats_same (Close u) f = refl

module _ {h : History} {g : Graph} {t : Tables} (c : Consistent h g t) (x : Update) (has : Has h x) where
  -- nothing is listed
  same_listed : listed (x ∷ h) ≡ listed h
  unfolding listed
  same_listed = rw (nothing x has) (append-nil (listed h))
    where
      nothing : (y : Update) → Has h y → added (is_in (listed h)) y ≡ []
      nothing (Step e) m = rw ((decides_listed h e).complete m)
      nothing (Terminal u) m = refl
      nothing (Close u) m = refl

  same_marks : (s : ℕ) → marks_of (x ∷ h) s ≡ marks_of h s
  unfolding marks_of
  same_marks s = rw (repeated_named has s, repeated_terminal has s, repeated_closed has s)

  -- The tables fit for the history with the repeat.
  again_fits : Consistent (x ∷ h) g t
  again_fits =
      record {
        in_range = λ s m. c.in_range s (repeated_names has m);
        keys_in_range = λ e m. c.keys_in_range e (within_older has (Step e) m);
        marks = λ s r. c.marks s r ∙ sym (same_marks s);
        steps = rw same_listed c.steps;
        from = rw same_listed c.from;
        to = rw same_listed c.to;
        key = rw same_listed c.key;
        status = λ s r. c.status s r ∙ sym (repeated_status has s);
        successor = c.successor;
        into = c.into;
        out_of = c.out_of;
        unvisited = c.unvisited;
      }

-- A state that is named is so in its mark and in its status.
module _ {h : History} {g : Graph} {t : Tables} (c : Consistent h g t) (s : ℕ) (range : s < g.n) (named : is_named h s ≡ true) where
  mark_same : (l : List ℕ) → l ≡ t.marks → mark_at with_named s l ≡ t.marks
  unfolding bits marks_of
  mark_same l e =
      rw (e, c.marks s range, named, (byte true (is_terminal h s) (is_closed h s)).set_named)
      (ap (set t.marks s) (sym (c.marks s range ∙ rw named)) ∙ set-get_or t.marks s 0)

  seen : named_byte (status h s) ≡ status h s
  unfolding status
  seen = rw named (at (is_live h s) (is_dead h s) (is_closed h s))
    where
      at : (a b d : Bool) → named_byte (by_tests a b d true) ≡ by_tests a b d true
      at true b d = refl
      at false true d = refl
      at false false true = refl
      at false false false = refl

  name_same : (l : List ℕ) → l ≡ t.status → name_at s l ≡ t.status
  name_same l e = rw (e, c.status s range, seen) (ap (set t.status s) (sym (c.status s range)) ∙ set-get_or t.status s 0)

-- On tables that fit a repeated step changes nothing.
module _ {h : History} {g : Graph} {t : Tables} (c : Consistent h g t) (e : Edge) (has : Has h (Step e)) where
  ends : (s : ℕ) → Mentions (Step e) s → (s < g.n) × (is_named h s ≡ true)
  ends s m = let n : IsNamed h s = (Step e, has, m) in (c.in_range s n, (decides_named h s).complete n)

  named_same : only_named (Step e) t ≡ t
  named_same =
      let u = ends e.from (inl refl) in
      let v = ends e.to (inr refl) in
      rw (name_same c e.to v.0 v.1 (name_at e.from t.status) (name_same c e.from u.0 u.1 t.status refl), mark_same c e.to v.0 v.1 (mark_at with_named e.from t.marks) (mark_same c e.from u.0 u.1 t.marks refl))

-- What naming its states keeps.
named_kept : (g : Graph) (t : Tables) (x : Update) → InRange g.n x → KeptTables g.n (nodes_of g) g.limit t (only_named x t)
named_kept g t x r =
    let k = tables_same g.n (nodes_of g) g.limit t in
    record {
      status = names_kept g.n g.limit g.steps x r t.status;
      marks = marks_kept g.n g.limit g.steps x r t.marks;
      from = k.from;
      to = k.to;
      key = k.key;
      successor = k.successor;
      news = k.news;
      in_head = k.in_head;
      out_head = k.out_head;
      queue = k.queue;
      visited = k.visited;
      in_next = k.in_next;
      out_next = k.out_next;
    }

none_named : {n : ℕ} (l : List ℕ) → NewsKept n l l (Accepted 0)
none_named l = record { few = omega arith; rising = tt; in_range = λ s m. absurd (Memᴰ.not-nil m); behind = kept_none 0 l }

same_graph : (g : Graph) → g ≡ graph_after g []
same_graph g = let z : g.steps + 0 ≡ g.steps = omega arith in rw z

pub again_accepted : (g : Graph) (x : Update) (t : Tables) → is_again x t.marks (listed_on g t) ≡ true → InRange g.n x → AcceptedUpdate g x t g (renamed x t) (Accepted 0)
unfolding is_again status_again marks_again
again_accepted g (Step e) t r i =
    record {
      graph = rw r (same_graph g);
      marks = refl;
      from = rw r;
      to = rw r;
      key = rw r;
      kept = named_kept g t (Step e) i;
      named = none_named t.news;
      again = λ q. absurd (false≢true q);
      repeated = λ q. (refl, refl, refl);
      fits = λ h l c. let m = has h c in (subst (λ (a : Tables). Consistent (Step e ∷ h) g a) (sym (named_same c e m)) (again_fits c (Step e) m), sym (repeated_news m g.n));
    }
  where
    has : (h : History) → Consistent h g t → Has h (Step e)
    has h c = (decides_listed h e).sound (sym (listed_same c e) ∙ r)
again_accepted g (Terminal u) t r i = absurd (false≢true r)
again_accepted g (Close u) t r i =
    record {
      graph = same_graph g;
      marks = rw r;
      from = refl;
      to = refl;
      key = refl;
      kept = tables_same g.n (nodes_of g) g.limit t;
      named = none_named t.news;
      again = λ q. (refl, refl, refl);
      repeated = λ q. absurd (false≢true q);
      fits = λ h l c. let m = (decides_closed_mark c u i).sound r in (again_fits c (Close u) m, sym (repeated_news m g.n));
    }

-- "A close of a closed state is now legal and accepted, with no news and no change": of every engine that keeps the promise, on tables with any contents, wherever the tests 1 to 5 find nothing.
pub close_again :
    {g g' : Graph} {t t' : Tables} {a : Answer} (u : ℕ) → Promise g (Close u) t g' a t' →
    lent_number g (long_enough g t) ≡ 0 → u < g.n → has_closed (get_or t.marks u 0) ≡ true → (a ≡ Accepted 0) × (g' ≡ g) × (t' ≡ t)
unfolding sent_number is_again
close_again {g} {g'} {t} {t'} {a} u p l i c =
    let e = accepted_again g t (Close u) l (rw (lt-leb g.n u i)) c in
    let w = (p.accepts e).again c in
    (answered a (p.number ∙ e) w.0, w.1, w.2)

-- "A step equal in from, to and key to a listed one is accepted without taking a place, also when the list is full": of every such engine, on tables with any contents, wherever the tests 1 to 6 and 14 find nothing. It has no news, and names its states; on tables that fit nothing changes.
pub step_again :
    {g g' : Graph} {t t' : Tables} {a : Answer} (e : Edge) → Promise g (Step e) t g' a t' →
    lent_number g (long_enough g t) ≡ 0 → sent_number g t.marks (Step e) ≡ 0 → listed_on g t e ≡ true →
    (a ≡ Accepted 0) × (g' ≡ g) × (t' ≡ only_named (Step e) t) × ((h : History) → Consistent h g t → t' ≡ t)
unfolding is_again
step_again {g} {g'} {t} {t'} {a} e p l s c =
    let q = accepted_again g t (Step e) l s c in
    let r = (p.accepts q).repeated c in
    (answered a (p.number ∙ q) r.0, r.1, r.2, λ h k. r.2 ∙ named_same k e ((decides_listed h e).sound (sym (listed_same k e) ∙ c)))
