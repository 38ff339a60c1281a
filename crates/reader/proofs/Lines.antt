-- What comes of each line is what the definitions say, all along a record from opened tables.
-- Assumes nothing.
use mathlib.Core.Path.{◌≡◌, refl, sym, ◌∙◌, ap, subst}
use mathlib.Core.Bool.{true}
use mathlib.Core.List.Memᴰ
use mathlib.Core.List.{List, [], ◌∷◌, ◌++◌}
use mathlib.Core.Option.{Option, some, none}
use Prim.Native.Nat.{ℕ, ◌≤◌}
use native.Mathlib.Omega.{arith}
use Rattle.gid.specs.declared.Update.{Update}
use Rattle.gid.specs.Histories.{History, IsNamed, listed}
use lib.ListN.{get_or}
use Rattle.gid.specs.Statuses.{status_unknown}
use Rattle.gid.specs.Successors.{Having}
use Rattle.gid.specs.Refusals.{max_states, refusal}
use Rattle.gid.specs.Outcomes.{Outcome, by_number, given_after, outcome, after}
use Rattle.tables.specs.declared.Graph.{Graph}
use Rattle.tables.specs.declared.lengths.Lengths.{Lengths}
use Rattle.tables.specs.declared.refusal.Refusal.{Refusal}
use Rattle.tables.specs.Tables.{Tables, lengths, enough, needs}
use Rattle.tables.specs.Fitting.{Consistent}
use Rattle.tables.proofs.Keeping.{lengths_kept}
use Rattle.tables.proofs.Sizes.{fewer_enough}
use Rattle.std.specs.Prelude.{Ok as Yes, Err as No}
use Rattle.tables.specs.Numbers.{number_of}
use Rattle.engine.specs.Answers.{Answer, answer_outcome}
use Rattle.engine.specs.Promise.{Promise}
use Rattle.engine.specs.Runs.{Run, begun, accepted as goes_on, refused as passes}
use Rattle.engine.proofs.Running.{unchecked, Sound, sound}
use Rattle.engine.proofs.Replay.{replay}
use Rattle.record.specs.declared.splitter.Item.{Item}
use Rattle.record.specs.declared.splitter.Item.TheVariants.{Nothing as NoLine, Update as Sent, Malformed, BadNames, TooMany, States, BadCount}
use Rattle.record.specs.Items.{item_number, item_line}
use Rattle.record.proofs.Heading.{NoCount, MayCount}
use Rattle.reader.specs.Opening.{reader_graph, open_refusal, freshened}
use Rattle.reader.specs.Turning.{Told, Answered, line_outcome, item_refusal, Came, sent, nothing, malformed, bad_names, too_many, states, bad_count}
use Rattle.reader.specs.Replaying.{with_count, outcome_of, after_item, sends}
use Rattle.reader.specs.Standing.{Standing}
use Rattle.reader.specs.Reading.{graph_of}
use Rattle.reader.proofs.Opening.{opened_fresh, opened_kept, opened_enough}

-- Opened tables stand at the start of a record.
pub opened_stands : (limit : ℕ) (t : Tables) → open_refusal limit t ≡ none → Standing (reader_graph limit) [] (reader_graph limit) (freshened limit t)
opened_stands limit t e =
    let s = sound (opened_fresh limit t e) begun in
    record {
      legal = s.legal;
      fits = s.fits;
      states = refl;
      limits = refl;
      room = omega arith;
      long = subst (λ (l : Lengths). enough (needs (reader_graph limit).n (reader_graph limit).n limit l) ≡ true) (sym (lengths_kept (opened_kept limit t e))) (opened_enough limit t e);
    }

-- The state value is known by the history.
pub standing_graph : {start : Graph} {h : History} {g : Graph} {t : Tables} → Standing start h g t → g ≡ graph_of start h
standing_graph s = λ i. record { n = s.states i; limit = s.limits i; steps = s.fits.steps i }

-- What the definitions say of a line.
abbrev pub line_told : Graph → History → Item → Option Told
line_told start h NoLine = none
line_told start h (Sent r) = some (record { line = item_line (Sent r); outcome = outcome_of start h (Sent r) })
line_told start h (Malformed n) = some (record { line = item_line (Malformed n); outcome = outcome_of start h (Malformed n) })
line_told start h (BadNames n) = some (record { line = item_line (BadNames n); outcome = outcome_of start h (BadNames n) })
line_told start h TooMany = some (record { line = item_line TooMany; outcome = outcome_of start h TooMany })
line_told start h (States c) = none
line_told start h BadCount = some (record { line = item_line BadCount; outcome = outcome_of start h BadCount })

-- A line that is no update is refused by its number.
abbrev refusal_number : Option Refusal → Option ℕ
refusal_number none = none
refusal_number (some r) = some (number_of r)

pub item_refusal_number : (a : Item) → refusal_number (item_refusal a) ≡ item_number a
item_refusal_number NoLine = refl
item_refusal_number (Sent r) = refl
item_refusal_number (Malformed n) = refl
item_refusal_number (BadNames n) = refl
item_refusal_number TooMany = refl
item_refusal_number (States c) = refl
item_refusal_number BadCount = refl

module _ {start : Graph} {h : History} {g : Graph} {t : Tables} (s : Standing start h g t) where
  soundly : Sound g t h g t
  soundly = record { legal = s.legal; fits = s.fits; states = refl; limit = refl; sizes = refl; room = rw s.limits s.room }

  stands : {h' : History} {g' : Graph} {t' : Tables} → Sound g t h' g' t' → Standing start h' g' t'
  stands w =
      record {
        legal = w.legal;
        fits = w.fits;
        states = w.states ∙ s.states;
        limits = w.limit ∙ s.limits;
        room = omega (arith, w.room, w.limit, s.limits);
        long = subst (λ (l : Lengths). enough (needs start.n start.n start.limit l) ≡ true) (sym w.sizes) s.long;
      }

  updated : {g' : Graph} {t' : Tables} (x : Update) {a : Answer} → Promise g x t g' a t' → (answer_outcome a t'.news ≡ outcome start.n start.limit h x) × Standing start (after start.n start.limit h x) g' t'
  updated {g'} {t'} x {a} p =
      let r =
      subst (λ (m : ℕ). (answer_outcome a t'.news ≡ outcome start.n m h x) × Sound g t (after start.n m h x) g' t') s.limits
      (subst (λ (n : ℕ). (answer_outcome a t'.news ≡ outcome n g.limit h x) × Sound g t (after n g.limit h x) g' t') s.states (replay soundly (rw (s.states, s.limits) s.long) x p)) in
      (r.0, stands r.1)

  -- One line, which is no count: what comes of it is what the definitions say, and so are the tables after it.
  pub line_right : {a : Item} {g' : Graph} {t' : Tables} {o : Answered} → NoCount a → Came a g t g' t' o → (line_outcome o t'.news ≡ line_told start h a) × Standing start (after_item start h a) g' t'
  line_right n nothing = (refl, s)
  line_right n (sent {r = r} p e q) =
      let w = updated r.update p in
      (q ∙ ap (λ (x : Outcome (List ℕ)). some (record { line = r.line; outcome = x })) w.0, w.1)
  line_right n malformed = (refl, s)
  line_right n bad_names = (refl, s)
  line_right n too_many = (refl, s)
  line_right n states = absurd n
  line_right n bad_count = (refl, s)

  -- The reader's calls are those of a run.
  runs : {g₀ : Graph} {t₀ : Tables} {xs : List Update} {g' : Graph} {t' : Tables} (x : Update) (a : Answer) → Run g₀ t₀ xs h g t → Promise g x t g' a t' → Run g₀ t₀ (x ∷ xs) (after start.n start.limit h x) g' t'
  unfolding outcome after
  runs {g₀} {t₀} {xs} {g'} {t'} x a r p = by (refusal (given_after start.n start.limit h) x) a p (updated x p).0
    where
      by : (o : Option ℕ) (b : Answer) → Promise g x t g' b t' → answer_outcome b t'.news ≡ by_number o (Rattle.gid.specs.News.news start.n h x) → Run g₀ t₀ (x ∷ xs) (elim o as (λ z. History) [ none ↦ x ∷ h | some j ↦ h ]) g' t'
      by none (Yes k) q e = goes_on r unchecked x k q
      by none (No k) q e = absurd (let z : ◌≡◌ {A = ℕ} 0 1 = cc in omega arith)
      by (some j) (Yes k) q e = absurd (let z : ◌≡◌ {A = ℕ} 0 1 = cc in omega arith)
      by (some j) (No k) q e = passes r unchecked x k q

  -- A line goes on with a run by its update, accepted or refused, where it has one: the tables are those of a run over the lines' updates.
  pub line_runs : {g₀ : Graph} {t₀ : Tables} {xs : List Update} {a : Item} {g' : Graph} {t' : Tables} {o : Answered} → NoCount a → Run g₀ t₀ xs h g t → Came a g t g' t' o → Run g₀ t₀ (sends a ++ xs) (after_item start h a) g' t'
  line_runs n r nothing = r
  line_runs n r (sent {r = l} {a = a} p e q) = runs l.update a r p
  line_runs n r malformed = r
  line_runs n r bad_names = r
  line_runs n r too_many = r
  line_runs n r states = absurd n
  line_runs n r bad_count = r

-- Tables that fit for no update fit for fewer states too.
fewer_fits : {g : Graph} {t : Tables} (c : ℕ) → c ≤ g.n → Consistent [] g t → Consistent [] (with_count (States c) g) t
unfolding listed
fewer_fits {g} {t} c h k =
    record {
      in_range = λ s m. absurd (nobody m);
      keys_in_range = k.keys_in_range;
      marks = λ s p. k.marks s (omega arith);
      steps = k.steps;
      from = k.from;
      to = k.to;
      key = k.key;
      status = λ s p. k.status s (omega arith);
      successor =
          record {
            listed = λ s p. k.successor.listed s (omega arith, p.1);
            escapes = λ s p. absurd (stepless s (omega arith, p.1));
            others = λ s p. k.successor.others s (omega arith);
          };
      into = record { heads = λ v p. k.into.heads v (omega arith); nexts = k.into.nexts };
      out_of = record { heads = λ v p. k.out_of.heads v (omega arith); nexts = k.out_of.nexts };
      unvisited = λ s p. k.unvisited s (omega arith);
    }
  where
    nobody : {s : ℕ} → IsNamed [] s → ⊥
    nobody (x, m, e) = Memᴰ.not-nil m

    stepless : (s : ℕ) → Having g.n (λ r. get_or t.status r 0) status_unknown s → ⊥
    stepless s p = let w = k.successor.listed s p in omega (arith, w.1.0, k.steps)

-- A count is read before any update: the tables stand for as many states.
pub counted_stands : {start g : Graph} {t : Tables} (c : ℕ) → c ≤ start.n → Standing start [] g t → Standing (with_count (States c) start) [] (with_count (States c) g) t
counted_stands {start} {g} {t} c h s =
    record {
      legal = s.legal;
      fits = fewer_fits c (omega (arith, s.states)) s.fits;
      states = refl;
      limits = s.limits;
      room = s.room;
      long = fewer_enough c start.n start.limit (lengths t) h s.long;
    }

-- The first line of a record: a count gives n, and any other leaves it.
pub head_right : {start g : Graph} {t : Tables} {a : Item} {g' : Graph} {t' : Tables} {o : Answered} → max_states ≤ start.n → Standing start [] g t → MayCount a → Came a g t g' t' o → (line_outcome o t'.news ≡ line_told (with_count a start) [] a) × Standing (with_count a start) (after_item (with_count a start) [] a) g' t'
head_right w s m nothing = line_right s tt nothing
head_right w s m (sent p e q) = line_right s tt (sent p e q)
head_right w s m malformed = line_right s tt malformed
head_right w s m bad_names = line_right s tt bad_names
head_right w s m too_many = line_right s tt too_many
head_right w s m (states {c = c}) = (refl, counted_stands c (omega (arith, m.1)) s)
head_right w s m bad_count = line_right s tt bad_count
