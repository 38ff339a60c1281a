-- The laws of the fold over a record's lines: no line, one line more, and lines behind lines; what it keeps, and where it stands.
-- Assumes nothing.
use mathlib.Core.Path.{◌≡◌, refl, sym, ◌∙◌, ap}
use mathlib.Core.Bool.{true, false, false≢true}
use mathlib.Core.List.{List, [], ◌∷◌, ◌++◌, append_assoc, append-nil}
use mathlib.Core.Option.{Option, some, none}
use Prim.Native.Nat.{ℕ, ◌+◌, ◌≤◌}
use native.Mathlib.Omega.{arith}
use lib.ListN.{drop}
use Rattle.gid.specs.declared.Update.{Update}
use Rattle.gid.specs.Histories.{History}
use Rattle.gid.specs.Refusals.{max_states}
use Rattle.tables.specs.declared.Graph.{Graph}
use Rattle.tables.specs.Tables.{Tables}
use Rattle.tables.specs.Keeping.{KeptTables}
use Rattle.tables.specs.Refused.{refusal_on}
use Rattle.tables.proofs.Keeping.{tables_same, tables_then, tables_wider}
use Rattle.tables.proofs.Refusing.{accepted_passes}
use Rattle.std.specs.Prelude.{None, Ok as Yes, Err as No}
use Rattle.engine.specs.Answers.{Answer}
use Rattle.engine.specs.Promise.{Promise}
use Rattle.engine.proofs.Running.{was_accepted}
use Rattle.engine.proofs.Promising.{room_of}
use Rattle.record.specs.declared.splitter.Item.{Item}
use Rattle.record.specs.declared.splitter.Numbered.{Numbered}
use Rattle.record.specs.declared.splitter.Item.TheVariants.{Nothing as NoLine, Update as Sent, Malformed, BadNames, TooMany, States, BadCount}
use Rattle.record.specs.declared.splitter.Splitter.{Splitter}
use Rattle.record.specs.Items.{item_line, max_lines}
use Rattle.record.specs.Splitting.{after_part, told, tells, run, after_bytes}
use Rattle.record.proofs.Splitting.{bytes_then, tells_then, run_tells, parted, part_line}
use Rattle.record.proofs.Heading.{NoCount, NoCounts, Headed}
use Rattle.reader.specs.declared.driver.Until.{Until}
use Rattle.reader.specs.declared.driver.Until.TheVariants.{News, Refusal, End}
use Rattle.reader.specs.Turning.{Answered, line_answer, Came, sent, nothing, malformed, bad_names, too_many, states, bad_count}
use Rattle.reader.specs.Replaying.{with_count, start_of, after_item, after_items}
use Rattle.reader.specs.Opening.{reader_states}
use Rattle.reader.specs.Standing.{Standing}
use Rattle.reader.specs.Advancing.{Passed, items_of, Applies, none as no_line, next, waited, Quiet, found, ended, Bounded, Follows, Advances}
use Rattle.reader.proofs.Lines.{line_right, head_right}

-- What a call keeps: every table past the entries of the first m states, and the step limit.
pub record SameSize (m : ℕ) (g : Graph) (t : Tables) (g' : Graph) (t' : Tables) : Type 0 where
  pub kept : KeptTables m m g.limit t t'
  pub limit : g'.limit ≡ g.limit

same_none : (m : ℕ) (g : Graph) (t : Tables) → SameSize m g t g t
same_none m g t = record { kept = tables_same m m g.limit t; limit = refl }

same_then : {m : ℕ} {g g₁ g₂ : Graph} {t t₁ t₂ : Tables} → SameSize m g t g₁ t₁ → SameSize m g₁ t₁ g₂ t₂ → SameSize m g t g₂ t₂
same_then a b = record { kept = tables_then a.kept (rw a.limit at b.kept); limit = b.limit ∙ a.limit }

-- An update is for as many states as there are, where there are no more than there can be; and it leaves their number.
same_promise : (m : ℕ) {g : Graph} {x : Update} {t : Tables} {g' : Graph} {a : Answer} {t' : Tables} → (g.n ≤ max_states → g.n ≤ m) → Promise g x t g' a t' → SameSize m g t g' t' × (g'.n ≡ g.n)
same_promise m {g} {x} {t} {g'} {a} {t'} h p = by (refusal_on g t x) refl
  where
    by : (o : Option ℕ) → refusal_on g t x ≡ o → SameSize m g t g' t' × (g'.n ≡ g.n)
    by none e =
        let w = p.accepts e in
        let r = room_of g t (accepted_passes g t x e).0 in
        (record { kept = tables_wider (h r.states) w.kept; limit = ap (λ (h : Graph). h.limit) w.graph }, ap (λ (h : Graph). h.n) w.graph)
    by (some k) e = let w = p.refuses k e in rw (w.1, w.2) (same_none m g t, refl)

pub came_same : (m : ℕ) {a : Item} {g : Graph} {t : Tables} {g' : Graph} {t' : Tables} {o : Answered} → (g.n ≤ max_states → g.n ≤ m) → Came a g t g' t' o → SameSize m g t g' t'
came_same m {g = g} {t = t} h nothing = same_none m g t
came_same m h (sent p e w) = (same_promise m h p).0
came_same m {g = g} {t = t} h malformed = same_none m g t
came_same m {g = g} {t = t} h bad_names = same_none m g t
came_same m {g = g} {t = t} h too_many = same_none m g t
came_same m {g = g} {t = t} h states = record { kept = tables_same m m g.limit t; limit = refl }
came_same m {g = g} {t = t} h bad_count = same_none m g t

pub applies_same : {g g' : Graph} {t t' : Tables} {l : List Passed} → Applies g t l g' t' → SameSize reader_states g t g' t'
applies_same {g} {t = t} no_line = same_none reader_states g t
applies_same (next c a) = same_then (came_same reader_states (λ h. h) c) (applies_same a)

-- Lines that are no counts leave the number of states, and touch no entry past them.
came_states : {a : Item} {g : Graph} {t : Tables} {g' : Graph} {t' : Tables} {o : Answered} → NoCount a → Came a g t g' t' o → g'.n ≡ g.n
came_states n nothing = refl
came_states {g = g} n (sent p e w) = (same_promise g.n (λ h. omega arith) p).1
came_states n malformed = refl
came_states n bad_names = refl
came_states n too_many = refl
came_states n states = absurd n
came_states n bad_count = refl

applies_within : (m : ℕ) {g g' : Graph} {t t' : Tables} {l : List Passed} → NoCounts (items_of l) → g.n ≤ m → Applies g t l g' t' → SameSize m g t g' t'
applies_within m {g} {t = t} n h no_line = same_none m g t
applies_within m n h (next c a) = same_then (came_same m (λ z. h) c) (applies_within m n.1 (omega (arith, came_states n.0 c)) a)

-- From the start of a record: the entries past its n are as they were.
head_within : {a : Item} {g : Graph} {t : Tables} {g' : Graph} {t' : Tables} {o : Answered} → Came a g t g' t' o → SameSize (with_count a g).n g t g' t' × (g'.n ≡ (with_count a g).n)
head_within {g = g} {t = t} nothing = (same_none g.n g t, refl)
head_within {g = g} (sent p e w) = same_promise g.n (λ h. omega arith) p
head_within {g = g} {t = t} malformed = (same_none g.n g t, refl)
head_within {g = g} {t = t} bad_names = (same_none g.n g t, refl)
head_within {g = g} {t = t} too_many = (same_none g.n g t, refl)
head_within {g = g} {t = t} (states {c = c}) = (record { kept = tables_same c c g.limit t; limit = refl }, refl)
head_within {g = g} {t = t} bad_count = (same_none g.n g t, refl)

pub begins_within : {g g' : Graph} {t t' : Tables} {l : List Passed} → Headed (items_of l) → Applies g t l g' t' → SameSize (start_of g (items_of l)).n g t g' t'
begins_within {g} {t = t} h no_line = same_none g.n g t
begins_within {g} h (next {p = p} c a) =
    let w = head_within c in
    same_then w.0 (applies_within (with_count p.item g).n h.1 (omega (arith, w.1)) a)

-- lines behind lines
pub applies_then : {g g₁ g' : Graph} {t t₁ t' : Tables} {l m : List Passed} → Applies g t l g₁ t₁ → Applies g₁ t₁ m g' t' → Applies g t (l ++ m) g' t'
applies_then no_line b = b
applies_then (next c a) b = next c (applies_then a b)

pub items_then : (l m : List Passed) → items_of (l ++ m) ≡ items_of l ++ items_of m
items_then [] m = refl
items_then (p ∷ l) m = ap (λ (x : List Item). p.item ∷ x) (items_then l m)

-- Where lines are applied to tables that stand, they stand for the history after them,
pub applies_stands : {start : Graph} {h : History} {g g' : Graph} {t t' : Tables} {l : List Passed} → NoCounts (items_of l) → Standing start h g t → Applies g t l g' t' → Standing start (after_items start h (items_of l)) g' t'
applies_stands n s no_line = s
applies_stands {start} {h} n s (next {p = p} c a) = applies_stands {h = after_item start h p.item} n.1 (line_right s n.0 c).1 a

-- and from the start of a record for as many states as it says.
pub begins_stands : {start : Graph} {g g' : Graph} {t t' : Tables} {l : List Passed} → max_states ≤ start.n → Headed (items_of l) → Standing start [] g t → Applies g t l g' t' → Standing (start_of start (items_of l)) (after_items (start_of start (items_of l)) [] (items_of l)) g' t'
begins_stands w h s no_line = s
begins_stands w h s (next c a) = applies_stands h.1 (head_right w s h.0 c).1 a

-- What a turn passes: the line that has ended, if one has.
abbrev one : Item → Answered → Tables → List Passed
one NoLine o t = []
one (Sent r) o t = record { item = Sent r; answer = o; after = t } ∷ []
one (Malformed n) o t = record { item = Malformed n; answer = o; after = t } ∷ []
one (BadNames n) o t = record { item = BadNames n; answer = o; after = t } ∷ []
one TooMany o t = record { item = TooMany; answer = o; after = t } ∷ []
one (States c) o t = record { item = States c; answer = o; after = t } ∷ []
one BadCount o t = record { item = BadCount; answer = o; after = t } ∷ []

one_told : (a : Item) (o : Answered) (t : Tables) → items_of (one a o t) ≡ told a
one_told NoLine o t = refl
one_told (Sent r) o t = refl
one_told (Malformed n) o t = refl
one_told (BadNames n) o t = refl
one_told TooMany o t = refl
one_told (States c) o t = refl
one_told BadCount o t = refl

one_applies : {a : Item} {g : Graph} {t : Tables} {g' : Graph} {t' : Tables} {o : Answered} → Came a g t g' t' o → Applies g t (one a o t') g' t'
one_applies nothing = no_line
one_applies (sent p e w) = next (sent p e w) no_line
one_applies malformed = next malformed no_line
one_applies bad_names = next bad_names no_line
one_applies too_many = next too_many no_line
one_applies states = next states no_line
one_applies bad_count = next bad_count no_line

quiet_then : (until : Until) (l m : List Passed) → Quiet until l → Quiet until m → Quiet until (l ++ m)
quiet_then until [] m a b = b
quiet_then until (p ∷ l) m a b = (a.0, quiet_then until l m a.1 b)

one_quiet : (until : Until) (a : Item) (o : Answered) (t : Tables) → waited until o ≡ false → Quiet until (one a o t)
one_quiet until NoLine o t e = tt
one_quiet until (Sent r) o t e = (e, tt)
one_quiet until (Malformed n) o t e = (e, tt)
one_quiet until (BadNames n) o t e = (e, tt)
one_quiet until TooMany o t e = (e, tt)
one_quiet until (States c) o t e = (e, tt)
one_quiet until BadCount o t e = (e, tt)

pub never : (u : Until) → waited u None ≡ false
never News = refl
never Refusal = refl
never End = refl

-- a line that is waited for has ended
one_found : (until : Until) {a : Item} {g : Graph} {t : Tables} {g' : Graph} {t' : Tables} {o : Answered} → Came a g t g' t' o → waited until o ≡ true → (p : Passed) × (one a o t' ≡ p ∷ []) × (o ≡ p.answer)
one_found until nothing e = absurd (false≢true (sym (never until) ∙ e))
one_found until (sent p q w) e = (_, refl, refl)
one_found until malformed e = (_, refl, refl)
one_found until bad_names e = (_, refl, refl)
one_found until too_many e = (_, refl, refl)
one_found until states e = absurd (false≢true (sym (never until) ∙ e))
one_found until bad_count e = (_, refl, refl)

-- a line that is an update
pub came_sent : {r : Numbered} {g g' : Graph} {t t' : Tables} {a : Answer} {o : Answered} → Promise g r.update t g' a t' → o ≡ line_answer r.line a → Came (Sent r) g t g' t' o
came_sent p e = sent p e (rw e)

-- what came of a line is bounded
came_bounded : {a : Item} {g : Graph} {t : Tables} {g' : Graph} {t' : Tables} {o : Answered} → Came a g t g' t' o → item_line a ≤ max_lines + 1 → Bounded o t'.news
came_bounded nothing h = tt
came_bounded {g = g} {t = t} {g' = g'} {t' = t'} (sent {r = r} {a = a} p e w) h = rw e (by a p)
  where
    by : (x : Answer) → Promise g r.update t g' x t' → Bounded (line_answer r.line x) t'.news
    by (Yes k) q =
        let w = was_accepted q in
        let m = room_of g t (accepted_passes g t r.update w.0).0 in
        (h, omega (arith, w.1.named.few, m.states), omega (arith, w.1.named.few, m.news, w.1.named.behind.size))
    by (No k) q = h
came_bounded malformed h = h
came_bounded bad_names h = h
came_bounded too_many h = omega arith
came_bounded states h = tt
came_bounded bad_count h = omega arith

pub no_tells : (s : Splitter) → tells s [] ≡ []
unfolding tells
no_tells s = refl

pub no_bytes : (s : Splitter) → s ≡ after_bytes s []
unfolding after_bytes
no_bytes s = refl

abbrev pub follows_none : (s : Splitter) (bytes : List ℕ) (g : Graph) (t : Tables) → Follows s bytes g t s bytes g t
follows_none s bytes g t = record { passed = []; applied = no_line; read = []; split = refl; told = no_tells s; fed = no_bytes s; kept = tables_same reader_states reader_states g.limit t }

module _ {s s₁ s₂ : Splitter} {bytes bytes₁ bytes₂ : List ℕ} {g g₁ g₂ : Graph} {t t₁ t₂ : Tables} where
  -- some lines, and then others
  abbrev pub follows_then : Follows s bytes g t s₁ bytes₁ g₁ t₁ → Follows s₁ bytes₁ g₁ t₁ s₂ bytes₂ g₂ t₂ → Follows s bytes g t s₂ bytes₂ g₂ t₂
  follows_then a b =
      record {
        passed = a.passed ++ b.passed;
        applied = applies_then a.applied b.applied;
        read = a.read ++ b.read;
        split = a.split ∙ ap (λ (x : List ℕ). a.read ++ x) b.split ∙ sym (append_assoc a.read b.read bytes₂);
        told =
            tells_then s a.read b.read ∙ ap (λ (x : List Item). x ++ tells (after_bytes s a.read) b.read) a.told ∙
            ap (λ (x : Splitter). items_of a.passed ++ tells x b.read) (sym a.fed) ∙ ap (λ (x : List Item). items_of a.passed ++ x) b.told ∙ sym (items_then a.passed b.passed);
        fed = b.fed ∙ ap (λ (x : Splitter). after_bytes x b.read) a.fed ∙ sym (bytes_then s a.read b.read);
        kept = (applies_same (applies_then a.applied b.applied)).kept;
      }

module _ {s s' : Splitter} {bytes bytes' : List ℕ} {g g' : Graph} {t t' : Tables} (f : Follows s bytes g t s' bytes' g' t') where
  -- The lines passed are the next of the record, whatever follows the bytes.
  pub follows_told : (rest : List ℕ) → run s (bytes ++ rest) ≡ items_of f.passed ++ run s' (bytes' ++ rest)
  follows_told rest =
      ap (λ (x : List ℕ). run s (x ++ rest)) f.split ∙ ap (run s) (append_assoc f.read bytes' rest) ∙ run_tells s f.read (bytes' ++ rest) ∙
      ap (λ (x : List Item). x ++ run (after_bytes s f.read) (bytes' ++ rest)) f.told ∙ ap (λ (x : Splitter). items_of f.passed ++ run x (bytes' ++ rest)) (sym f.fed)

  -- Where no byte is left, all were read.
  pub follows_all : bytes' ≡ [] → f.read ≡ bytes
  follows_all e = sym (f.split ∙ ap (λ (x : List ℕ). f.read ++ x) e ∙ append-nil f.read)

-- A turn, by what it answers.
abbrev turned : (s : Splitter) (l : List ℕ) (i : ℕ) {g g' : Graph} {t t' : Tables} {o : Answered} → Came (after_part s l i).item g t g' t' o → Follows s (drop i l) g t (after_part s l i).splitter (drop (after_part s l i).next l) g' t'
turned s l i {t' = t'} {o = o} c =
    let p = parted s l i in
    record {
      passed = one (after_part s l i).item o t';
      applied = one_applies c;
      read = p.read;
      split = p.split;
      told = p.tells ∙ sym (one_told (after_part s l i).item o t');
      fed = p.after;
      kept = (came_same reader_states (λ h. h) c).kept;
    }

module _ (until : Until) {s s₁ s₂ : Splitter} {bytes : List ℕ} {g g₁ g₂ : Graph} {t t₁ t₂ : Tables} (l : List ℕ) (i j : ℕ) {o : Answered} (f : Follows s bytes g t s₁ (drop i l) g₁ t₁) (quiet : Quiet until f.passed) (n : j ≡ (after_part s₁ l i).next) (m : s₂ ≡ (after_part s₁ l i).splitter) (c : Came (after_part s₁ l i).item g₁ t₁ g₂ t₂ o) where
  -- one line more that is not waited for
  pub follows_line : waited until o ≡ false → (k : Follows s bytes g t s₂ (drop j l) g₂ t₂) × Quiet until k.passed
  follows_line e =
      rw (n, m) (follows_then f (turned s₁ l i c), quiet_then until f.passed (one (after_part s₁ l i).item o t₂) quiet (one_quiet until (after_part s₁ l i).item o t₂ e))

  -- the one that is
  pub advances_found : (bytes ≡ [] → ⊥) → waited until o ≡ true → Advances until s bytes g t s₂ (drop j l) g₂ t₂ o
  advances_found d e =
      let w = one_found until c e in
      rw (n, m) (record {
        follows = follows_then f (turned s₁ l i c);
        stops = found f.passed w.0 (ap (λ (x : List Passed). f.passed ++ x) w.1) quiet e w.2;
        idle = λ z. absurd (d z);
        bounded = came_bounded c (part_line s₁ l i);
      })

-- no byte is left
pub advances_ended : (until : Until) {s s' : Splitter} {bytes bytes' : List ℕ} {g g' : Graph} {t t' : Tables} (f : Follows s bytes g t s' bytes' g' t') → Quiet until f.passed → (bytes ≡ [] → f.passed ≡ []) → bytes' ≡ [] → Advances until s bytes g t s' bytes' g' t' None
advances_ended until f quiet idle e = record { follows = f; stops = ended quiet e refl; idle = idle; bounded = tt }
