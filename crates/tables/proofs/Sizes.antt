-- The needed lengths: "The lent work tables shrink to at most 3n + 4 × limit + n/16 (rounded up) entries" (document 02, #106). And what it means that they are enough, table by table.
-- Assumes nothing.
use mathlib.Core.Path.{◌≡◌, refl}
use mathlib.Core.Bool.{Bool, true, false, ◌&&◌, false≢true}
use mathlib.Core.List.{List, [], ◌∷◌}
use Prim.Native.Nat.{ℕ, ◌+◌, ◌*◌, ◌/◌, ◌≤◌}
use native.Mathlib.Omega.{arith}
use lib.Dec.{leb}
use lib.ListN.{length}
use borrow.Author.Tests.{leb-true, le-leb}
use Rattle.tables.specs.declared.lengths.Lengths.{Lengths}
use Rattle.tables.specs.declared.Graph.{Graph}
use Rattle.tables.specs.Tables.{Tables, nodes_of, Needed, enough, visited_length, work_needs, check_needs, needs_by, needs, lengths, long_enough_by, long_enough, total, Long}
use Rattle.tables.specs.Earlier.{by_entry}
use Rattle.tables.proofs.Keeping.{visited_wider}
use Rattle.tables.proofs.Marking.{visited_few}

pub work_total : (n limit : ℕ) (l : Lengths) → total (work_needs n limit l) ≡ 3 * n + 2 * limit + (n + 15) / 16
unfolding visited_length
work_total n limit l = omega arith

pub work_fits : (n limit : ℕ) (l : Lengths) → total (work_needs n limit l) ≤ 3 * n + 4 * limit + (n + 15) / 16
work_fits n limit l = omega (arith, work_total n limit l)

-- each table is long enough
abbrev Each : List Needed → Type 0
Each [] = Unit {0}
Each (x ∷ l) = (x.need ≤ x.have) × Each l

each_enough : (l : List Needed) → enough l ≡ true → Each l
each_enough [] e = tt
each_enough (x ∷ l) e = at (leb x.need x.have) refl e (each_enough l)
  where
    at : (b : Bool) → leb x.need x.have ≡ b → b && enough l ≡ true → (enough l ≡ true → Each l) → (x.need ≤ x.have) × Each l
    at true q z i = (leb-true x.need x.have q, i z)
    at false q z i = absurd (false≢true z)

module _ (n nodes limit : ℕ) (t : Tables) where
  long_each : Each (check_needs n nodes limit (lengths t)) → Long n nodes limit t
  long_each a =
      record {
        status = a.0;
        marks = a.1.0;
        from = a.1.1.0;
        to = a.1.1.1.0;
        key = a.1.1.1.1.0;
        successor = a.1.1.1.1.1.0;
        in_head = a.1.1.1.1.1.1.0;
        out_head = a.1.1.1.1.1.1.1.0;
        queue = a.1.1.1.1.1.1.1.1.0;
        visited = a.1.1.1.1.1.1.1.1.1.0;
        in_next = a.1.1.1.1.1.1.1.1.1.1.0;
        out_next = a.1.1.1.1.1.1.1.1.1.1.1.0;
      }

  pub long_checked : enough (check_needs n nodes limit (lengths t)) ≡ true → Long n nodes limit t
  long_checked e = long_each (each_enough (check_needs n nodes limit (lengths t)) e)

  pub long-enough : enough (needs n nodes limit (lengths t)) ≡ true → (n ≤ length t.news) × Long n nodes limit t
  long-enough e = let a = each_enough (needs n nodes limit (lengths t)) e in (a.0, long_each a.1)

-- the news list among them, whatever the visited marks take
pub news_enough : (entries : ℕ → ℕ) (g : Graph) (t : Tables) → long_enough_by entries g t ≡ true → g.n ≤ length t.news
news_enough entries g t e = (each_enough (needs_by entries g.n (nodes_of g) g.limit (lengths t)) e).0

-- what is enough for some states is enough for fewer
each_back : (l : List Needed) → Each l → enough l ≡ true
each_back [] e = refl
each_back (x ∷ l) e = rw (le-leb x.need x.have e.0) (each_back l e.1)

needs_fewer : (few more : ℕ → ℕ) (m n limit : ℕ) (l : Lengths) → m ≤ n → few m ≤ more n → enough (needs_by more n n limit l) ≡ true → enough (needs_by few m m limit l) ≡ true
needs_fewer few more m n limit l h k e =
    let a = each_enough (needs_by more n n limit l) e in
    let b = a.1.1.1.1.1.1 in
    each_back (needs_by few m m limit l) (omega (arith, a.0), (omega (arith, a.1.0), (omega (arith, a.1.1.0), (a.1.1.1.0, (a.1.1.1.1.0, (a.1.1.1.1.1.0, (omega (arith, b.0), (omega (arith, b.1.0), (omega (arith, b.1.1.0), (omega (arith, b.1.1.1.0), (omega (arith, b.1.1.1.1.0), (b.1.1.1.1.1.0, (b.1.1.1.1.1.1.0, tt)))))))))))))

pub fewer_enough : (m n limit : ℕ) (l : Lengths) → m ≤ n → enough (needs n n limit l) ≡ true → enough (needs m m limit l) ≡ true
fewer_enough m n limit l h = needs_fewer visited_length visited_length m n limit l h (visited_wider h)

-- and what is enough for the earlier form of the visited marks is enough for today's
pub earlier_enough : (g : Graph) (t : Tables) → long_enough_by by_entry.entries g t ≡ true → long_enough g t ≡ true
earlier_enough g t = needs_fewer visited_length by_entry.entries (nodes_of g) (nodes_of g) g.limit (lengths t) (omega arith) (visited_few (nodes_of g))

-- for fewer steps than the limit
pub long_fewer : {n nodes limit m : ℕ} {t : Tables} → m ≤ limit → Long n nodes limit t → Long n nodes m t
long_fewer h l =
    record {
      status = l.status;
      marks = l.marks;
      from = omega (arith, l.from);
      to = omega (arith, l.to);
      key = omega (arith, l.key);
      successor = l.successor;
      in_head = l.in_head;
      out_head = l.out_head;
      queue = l.queue;
      visited = l.visited;
      in_next = omega (arith, l.in_next);
      out_next = omega (arith, l.out_next);
    }
