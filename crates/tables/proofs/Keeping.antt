-- The laws of what is kept: of one table, and of all.
-- Assumes nothing.
use mathlib.Core.Path.{◌≡◌, refl, sym, ◌∙◌, ap}
use mathlib.Core.List.{List, ◌++◌}
use Prim.Native.Nat.{ℕ, ◌+◌, ◌-◌, ◌≤◌, ◌<◌}
use native.Mathlib.Omega.{arith}
use lib.ListN.{length, get_or, set, drop, replicate, length-append, length-drop, length-replicate, length-set, get_or-append, get_or-replicate}
use lib.Seq.{get_or-set_other, get_or-append-add, get_or-drop}
use Rattle.tables.specs.Tables.{Tables, lengths, visited_length}
use Rattle.tables.specs.Keeping.{Kept, KeptTablesBy, KeptTables, filled}

pub kept_none : (n : ℕ) (l : List ℕ) → Kept n l l
kept_none n l = record { size = refl; past = λ i h. refl }

pub kept_trans : {n : ℕ} {l k m : List ℕ} → Kept n l k → Kept n k m → Kept n l m
kept_trans a b = record { size = b.size ∙ a.size; past = λ i h. b.past i h ∙ a.past i h }

-- a store below n
pub kept_set : (n : ℕ) (l : List ℕ) (s v : ℕ) → s < n → Kept n l (set l s v)
kept_set n l s v h = record { size = length-set l s v; past = λ i k. get_or-set_other l s i v 0 (λ e. absurd (omega arith)) }

pub kept_wider : {m n : ℕ} {l k : List ℕ} → Kept m l k → m ≤ n → Kept n l k
kept_wider p h = record { size = p.size; past = λ i q. p.past i (omega arith) }

pub kept_equal : {n : ℕ} {l k : List ℕ} → k ≡ l → Kept n l k
kept_equal {n} {l} e = rw e (kept_none n l)

-- all tables
pub tables_same : (n nodes limit : ℕ) (t : Tables) → KeptTables n nodes limit t t
tables_same n nodes limit t =
    record {
      status = kept_none nodes t.status;
      marks = kept_none n t.marks;
      from = kept_none limit t.from;
      to = kept_none limit t.to;
      key = kept_none limit t.key;
      successor = kept_none nodes t.successor;
      news = kept_none n t.news;
      in_head = kept_none nodes t.in_head;
      out_head = kept_none nodes t.out_head;
      queue = kept_none nodes t.queue;
      visited = kept_none (visited_length nodes) t.visited;
      in_next = kept_none limit t.in_next;
      out_next = kept_none limit t.out_next;
    }

pub tables_then : {n nodes limit : ℕ} {t t₁ t₂ : Tables} → KeptTables n nodes limit t t₁ → KeptTables n nodes limit t₁ t₂ → KeptTables n nodes limit t t₂
tables_then a b =
    record {
      status = kept_trans a.status b.status;
      marks = kept_trans a.marks b.marks;
      from = kept_trans a.from b.from;
      to = kept_trans a.to b.to;
      key = kept_trans a.key b.key;
      successor = kept_trans a.successor b.successor;
      news = kept_trans a.news b.news;
      in_head = kept_trans a.in_head b.in_head;
      out_head = kept_trans a.out_head b.out_head;
      queue = kept_trans a.queue b.queue;
      visited = kept_trans a.visited b.visited;
      in_next = kept_trans a.in_next b.in_next;
      out_next = kept_trans a.out_next b.out_next;
    }

-- what is kept for some states is kept for more
pub visited_wider : {m n : ℕ} → m ≤ n → visited_length m ≤ visited_length n
unfolding visited_length
visited_wider h = omega arith

pub tables_wider : {m n limit : ℕ} {t t' : Tables} → m ≤ n → KeptTables m m limit t t' → KeptTables n n limit t t'
tables_wider h k =
    record {
      status = kept_wider k.status h;
      marks = kept_wider k.marks h;
      from = k.from;
      to = k.to;
      key = k.key;
      successor = kept_wider k.successor h;
      news = kept_wider k.news h;
      in_head = kept_wider k.in_head h;
      out_head = kept_wider k.out_head h;
      queue = kept_wider k.queue h;
      visited = kept_wider k.visited (visited_wider h);
      in_next = k.in_next;
      out_next = k.out_next;
    }

pub lengths_kept : {entries : ℕ → ℕ} {n nodes limit : ℕ} {t t' : Tables} → KeptTablesBy entries n nodes limit t t' → lengths t' ≡ lengths t
lengths_kept k =
    λ i.
    record {
      status = k.status.size i;
      marks = k.marks.size i;
      successor = k.successor.size i;
      news = k.news.size i;
      in_head = k.in_head.size i;
      out_head = k.out_head.size i;
      queue = k.queue.size i;
      visited = k.visited.size i;
      from = k.from.size i;
      to = k.to.size i;
      key = k.key.size i;
      in_next = k.in_next.size i;
      out_next = k.out_next.size i;
    }

-- filling from the front
pub filled_length : (n v : ℕ) (l : List ℕ) → n ≤ length l → length (filled n v l) ≡ length l
unfolding filled
filled_length n v l h = omega (arith, length-append (replicate n v) (drop n l), length-replicate n v, length-drop n l)

pub filled_at : (n v : ℕ) (l : List ℕ) (s : ℕ) → s < n → get_or (filled n v l) s 0 ≡ v
unfolding filled
filled_at n v l s h = get_or-append (replicate n v) (drop n l) 0 s (omega (arith, length-replicate n v)) ∙ get_or-replicate n s v 0 h

filled_past : (n v : ℕ) (l : List ℕ) (i j : ℕ) → i ≡ n + j → get_or (filled n v l) i 0 ≡ get_or l i 0
unfolding filled
filled_past n v l i j e =
    let r : i ≡ length (replicate n v) + j = omega (arith, e, length-replicate n v) in
    ap (λ (k : ℕ). get_or (replicate n v ++ drop n l) k 0) r ∙ get_or-append-add (replicate n v) (drop n l) j 0 ∙ get_or-drop n l j 0 ∙ ap (λ (k : ℕ). get_or l k 0) (sym e)

pub filled_kept : (n v : ℕ) (l : List ℕ) → n ≤ length l → Kept n l (filled n v l)
filled_kept n v l h = record { size = filled_length n v l h; past = λ i k. filled_past n v l i (i - n) (omega arith) }
