-- What an update that is done keeps, on tables with any contents: lengths, the entries past the needed ones, and the entries behind the news.
-- Assumes nothing.
use mathlib.Core.Path.{◌≡◌, refl, ◌∙◌}
use mathlib.Core.Bool.{Bool, true, false, ◌&&◌}
use mathlib.Core.List.Memᴰ
use mathlib.Core.List.{List, map}
use Prim.Native.Nat.{ℕ, suc, ◌+◌, ◌<◌, ◌≤◌}
use native.Mathlib.Omega.{arith}
use lib.Dec.{leb}
use lib.ListN.{get_or}
use lib.Seq.{sets}
use borrow.Author.Tests.{lt-leb}
use Rattle.gid.specs.declared.Edge.{Edge}
use Rattle.gid.specs.declared.Update.{Update}
use Rattle.gid.specs.declared.Update.TheVariants.{Step, Terminal, Close}
use Rattle.gid.specs.Histories.{step_of}
use Rattle.gid.specs.Statuses.{status_unknown}
use Rattle.gid.specs.Systems.{Arcs}
use Rattle.gid.specs.News.{below}
use Rattle.gid.proofs.News.{below_mem, below_rising}
use Rattle.tables.specs.Tables.{Tables, visited_length}
use Rattle.tables.specs.Visits.{marked}
use Rattle.tables.specs.Keeping.{Kept, KeptVisited, KeptTables}
use Rattle.tables.proofs.Keeping.{kept_none, kept_trans, kept_set, kept_wider, kept_equal}
use Rattle.tables.proofs.Marking.{visits_wider, kept_mark as kept-visit}
use Rattle.search.specs.declared.spread.Span.{Span}
use Rattle.search.specs.Offering.{Begun}
use Rattle.search.specs.Settling.{settled_from, Settled}
use Rattle.search.specs.Searches.{SearchTables, Revives, Sweeps}
use Rattle.search.proofs.Settling.{told_same}
use Rattle.tables.specs.Marks.{with_named, with_terminal, with_closed}
use Rattle.engine.specs.Effects.{mark_at, set_marks, name_at, named_byte, names_after}
use Rattle.engine.specs.Preparing.{InRange, Storable}
use Rattle.engine.specs.Judging.{Judged, quiet, revived, nears, swept, unknown_at, followed_by, begun_with}
use Rattle.engine.specs.Done.{Done, Chained, pushed, same}
use Rattle.std.specs.Prelude.{Ok as Accepted}
use Rattle.engine.specs.Promise.{NewsKept}
use Rattle.engine.proofs.Acting.{quickened_below, endangered_below}
use Rattle.engine.proofs.Preparing.{storable_range}

-- What a search keeps of the tables that it writes.
pub record KeptSearch (n : ℕ) (b a : SearchTables) (k : ℕ) : Type 0 where
  pub status : Kept n b.status a.status
  pub successor : Kept n b.successor a.successor
  pub visited : KeptVisited n b.visited a.visited
  pub queue : Kept n b.queue a.queue
  pub news : NewsKept n b.news a.news (Accepted k)

no_news : {n : ℕ} (l : List ℕ) {k : ℕ} → k ≡ 0 → NewsKept n l l (Accepted k)
no_news {n} l {k} e = rw e (record { few = omega arith; rising = tt; in_range = λ s m. absurd (Memᴰ.not-nil m); behind = kept_none 0 l })

kept_same : {n : ℕ} {b a : SearchTables} {k : ℕ} → a ≡ b → k ≡ 0 → KeptSearch n b a k
kept_same {n} {b} e z = rw e (record { status = kept_none n b.status; successor = kept_none n b.successor; visited = kept_none (visited_length n) b.visited; queue = kept_none n b.queue; news = no_news b.news z })

module _ {n low high verdict : ℕ} {st su ne vi st' su' ne' vi' : List ℕ} {k : ℕ} (z : Settled low high verdict st su ne vi st' su' ne' vi' k) (top : high < n) where
  -- a state that is not below n is not settled
  outside : (i : ℕ) → n ≤ i → settled_from low high vi i ≡ false
  outside i q = rw (lt-leb i high (omega arith)) (at (leb low i))
    where
      at : (b : Bool) → b && false && marked vi i ≡ false
      at true = refl
      at false = refl

  settled_status : Kept n st st'
  settled_status = record { size = z.statuses; past = λ i q. z.status i ∙ rw (outside i q) }

  settled_successor : Kept n su su'
  settled_successor = record { size = z.successors; past = λ i q. z.successor i ∙ rw (outside i q) }

  settled_news : NewsKept n ne ne' (Accepted k)
  settled_news =
      record {
        few = omega (arith, z.few);
        rising = rw (z.front, told_same (below (suc high) (settled_from low high vi))) (below_rising (suc high) (settled_from low high vi));
        in_range = λ s m. let r = (below_mem (suc high) (settled_from low high vi) s).0 (rw (z.front, told_same (below (suc high) (settled_from low high vi))) at m) in omega (arith, r.0);
        behind = record { size = z.names; past = z.behind };
      }

kept_revives : {n : ℕ} {Into : Arcs} {starts : Span} {b a : SearchTables} {k : ℕ} → Revives n Into starts b a k → KeptSearch n b a k
kept_revives r =
    let top = r.spread.queued.top in
    record {
      status = settled_status r.settle top;
      successor = settled_successor r.settle top;
      visited = kept_trans r.spread.visits (visits_wider r.settle.visits top);
      queue = r.spread.queues;
      news = settled_news r.settle top;
    }

kept_sweeps : {n : ℕ} {Into Out : Arcs} {starts : Span} {b a : SearchTables} {k : ℕ} → Sweeps n Into Out starts b a k → KeptSearch n b a k
kept_sweeps r =
    let top = r.spread.queued.top in
    let x = r.escapes.releases in
    let y = r.rescues.releases in
    record {
      status = settled_status r.settle top;
      successor = kept_trans x.successors (kept_trans y.successors (settled_successor r.settle top));
      visited = kept_trans r.spread.visits (kept_trans x.visits (kept_trans y.visits (visits_wider r.settle.visits top)));
      queue = kept_trans r.spread.queues (kept_trans x.queues y.queues);
      news = settled_news r.settle top;
    }

-- behind what was kept before
kept_behind : {n : ℕ} {b b' a : SearchTables} {k : ℕ} → Kept n b.status b'.status → Kept n b.successor b'.successor → KeptVisited n b.visited b'.visited → Kept n b.queue b'.queue → b'.news ≡ b.news → KeptSearch n b' a k → KeptSearch n b a k
kept_behind s u v q w r =
    record {
      status = kept_trans s r.status;
      successor = kept_trans u r.successor;
      visited = kept_trans v r.visited;
      queue = kept_trans q r.queue;
      news = rw w at r.news;
    }

-- one node begun
module _ {u : ℕ} {v q v' q' : List ℕ} {starts : Span} (n : ℕ) (range : u < n) (begun : Begun u v q v' q' starts) where
  begun_visits : KeptVisited n v v'
  begun_visits = rw begun.marks (kept-visit v u n range)

  begun_queues : Kept n q q'
  begun_queues = rw begun.front (kept_set n q 0 u (omega arith))

kept_judged : {n : ℕ} {Into Out Follow : Arcs} (x : Update) → InRange n x → {b a : SearchTables} {k : ℕ} → Judged n Into Out Follow x b a k → KeptSearch n b a k
kept_judged x r (quiet p q e z) = kept_same e z
kept_judged {n} x r {b = b} (revived u p starts v q begun w) =
    let h = quickened_below n x b.status u r p in
    kept_behind {b = b} {b' = begun_with v q b} (kept_none n b.status) (kept_none n b.successor) (begun_visits n h begun) (begun_queues n h begun) refl (kept_revives w)
kept_judged {n} x r {b = b} (nears u i t p l near e z) =
    let h = endangered_below n x b.status u r p in
    kept_behind {b = b} {b' = followed_by u i (unknown_at u b)} (kept_set n b.status u status_unknown h) (kept_set n b.successor u i h) (kept_none (visited_length n) b.visited) (kept_none n b.queue) refl (kept_same e z)
kept_judged {n} x r {b = b} (swept u p starts v q begun w) =
    let h = endangered_below n x b.status u r p in
    kept_behind {b = b} {b' = begun_with v q (unknown_at u b)} (kept_set n b.status u status_unknown h) (kept_none n b.successor) (begun_visits n h begun) (begun_queues n h begun) refl (kept_sweeps w)

kept_mark : (n : ℕ) (f : ℕ → ℕ) (u : ℕ) (l : List ℕ) → u < n → Kept n l (mark_at f u l)
kept_mark n f u l h = kept_set n l u (f (get_or l u 0)) h

kept_name : (n u : ℕ) (l : List ℕ) → u < n → Kept n l (name_at u l)
kept_name n u l h = kept_set n l u (named_byte (get_or l u 0)) h

-- the marks, the names and the step list
module _ (n limit m : ℕ) where
  pub marks_kept : (x : Update) → InRange n x → (l : List ℕ) → Kept n l (set_marks x l)
  marks_kept (Step e) s l = kept_trans (kept_mark n with_named e.from l s.0) (kept_mark n with_named e.to (mark_at with_named e.from l) s.1)
  marks_kept (Terminal u) s l = kept_trans (kept_mark n with_named u l s) (kept_mark n with_terminal u (mark_at with_named u l) s)
  marks_kept (Close u) s l = kept_trans (kept_mark n with_named u l s) (kept_mark n with_closed u (mark_at with_named u l) s)

  pub names_kept : (x : Update) → InRange n x → (l : List ℕ) → Kept n l (names_after x l)
  names_kept (Step e) s l = kept_trans (kept_name n e.from l s.0) (kept_name n e.to (name_at e.from l) s.1)
  names_kept (Terminal u) s l = kept_name n u l s
  names_kept (Close u) s l = kept_name n u l s

  list_kept : (f : Edge → ℕ) (x : Update) → Storable n limit m x → (l : List ℕ) → Kept limit l (sets l m (map f (step_of x)))
  list_kept f (Step e) s l = kept_set limit l m (f e) s.2
  list_kept f (Terminal u) s l = kept_none limit l
  list_kept f (Close u) s l = kept_none limit l

-- the chains of steps
record KeptChains (n limit : ℕ) (t t' : Tables) : Type 0 where
  in_head : Kept n t.in_head t'.in_head
  out_head : Kept n t.out_head t'.out_head
  in_next : Kept limit t.in_next t'.in_next
  out_next : Kept limit t.out_next t'.out_next

chains_kept : {n limit m : ℕ} (t t' : Tables) {x : Update} → Storable n limit m x → Chained m t.in_head t.out_head t.in_next t.out_next t'.in_head t'.out_head t'.in_next t'.out_next x → KeptChains n limit t t'
chains_kept {n} {limit} {m} t t' s (pushed e o i) =
    record {
      in_head = rw i.front (kept_set n t.in_head e.to (m + 1) s.1);
      out_head = rw o.front (kept_set n t.out_head e.from (m + 1) s.0);
      in_next = rw i.behind (kept_set limit t.in_next m (get_or t.in_head e.to 0) s.2);
      out_next = rw o.behind (kept_set limit t.out_next m (get_or t.out_head e.from 0) s.2);
    }
chains_kept t t' s (same z a b c d) = record { in_head = kept_equal a; out_head = kept_equal b; in_next = kept_equal c; out_next = kept_equal d }

-- and all of them
pub done_keeps : {n limit m : ℕ} {t t' : Tables} {x : Update} {k : ℕ} → Storable n limit m x → Done n m t t' k x → KeptTables n n limit t t' × NewsKept n t.news t'.news (Accepted k)
done_keeps {n} {limit} {m} {t} {t'} {x} s d =
    let r = storable_range n limit m x s in
    let w = kept_judged x r d.judged in
    let l = chains_kept t t' s d.listed.chained in (
      record {
        status = kept_trans (names_kept n limit m x r t.status) w.status;
        marks = rw d.marks (marks_kept n limit m x r t.marks);
        from = rw d.listed.sources (list_kept n limit m (λ (e : Edge). e.from) x s t.from);
        to = rw d.listed.targets (list_kept n limit m (λ (e : Edge). e.to) x s t.to);
        key = rw d.listed.keys (list_kept n limit m (λ (e : Edge). e.key) x s t.key);
        successor = w.successor;
        news = kept_wider w.news.behind w.news.few;
        in_head = l.in_head;
        out_head = l.out_head;
        queue = w.queue;
        visited = w.visited;
        in_next = l.in_next;
        out_next = l.out_next;
      },
      w.news,
    )
