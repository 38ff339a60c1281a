-- The laws of a record that comes in parts: from opened tables, part by part, to its end.
-- Assumes nothing.
use mathlib.Core.Path.{◌≡◌, refl, sym, ◌∙◌, ap, subst}
use mathlib.Core.Bool.{true}
use mathlib.Core.List.{List, [], ◌∷◌, ◌++◌, append_assoc, append-nil}
use mathlib.Core.Option.{Option, some, none}
use Prim.Native.Nat.{ℕ, ◌≤◌}
use native.Mathlib.Omega.{arith}
use Rattle.gid.specs.Histories.{History}
use Rattle.gid.specs.Refusals.{max_states}
use Rattle.tables.specs.declared.Graph.{Graph}
use Rattle.tables.specs.Tables.{Tables}
use Rattle.engine.specs.declared.Engine.{Engine}
use Rattle.record.specs.declared.splitter.Item.{Item}
use Rattle.record.specs.declared.splitter.Item.TheVariants.{Nothing, Update as Sent, Malformed, BadNames, TooMany, States, BadCount}
use Rattle.record.specs.declared.splitter.Splitter.{Splitter}
use Rattle.record.specs.Items.{items}
use Rattle.record.specs.Splitting.{started, last_newlines, run, after_bytes}
use Rattle.record.proofs.Splitting.{run_items, stopped_told, last_told, last_over}
use Rattle.record.proofs.Heading.{MayCount, Headed, items_headed, headed_front, headed_back}
use Rattle.std.specs.Prelude.{Result, Ok}
use Rattle.tables.specs.declared.refusal.Refusal.{Refusal}
use Rattle.reader.specs.Opening.{reader_graph, open_refusal, freshened, Opens}
use Rattle.reader.specs.Replaying.{with_count, start_of, after_item, after_items}
use Rattle.reader.specs.Standing.{Standing}
use Rattle.reader.specs.Advancing.{Passed, items_of, Applies, Follows}
use Rattle.reader.specs.Underway.{Underway}
use Rattle.reader.proofs.Lines.{opened_stands}
use Rattle.reader.proofs.Following.{applies_stands, begins_stands, follows_told, follows_all}

-- Where the call that opens says ready, the tables are fresh, and stand at the start of a record.
pub ready_opened : {limit : ℕ} {t t' : Tables} {r : Result Engine Refusal} {e : Engine} → Opens limit t t' r → r ≡ Ok e → (open_refusal limit t ≡ none) × (e.graph ≡ reader_graph limit) × (t' ≡ freshened limit t)
ready_opened {limit} {t} {t'} {r} {e} o q = at (open_refusal limit t) refl
  where
    at : (x : Option ℕ) → open_refusal limit t ≡ x → (open_refusal limit t ≡ none) × (e.graph ≡ reader_graph limit) × (t' ≡ freshened limit t)
    at none z = (z, (let y = o.answer in cc), o.tables ∙ rw z)
    at (some k) z = absurd (let y = o.answer in let w : ◌≡◌ {A = ℕ} 0 1 = cc in omega arith)

pub ready_stands : {limit : ℕ} {t t' : Tables} {r : Result Engine Refusal} {e : Engine} → Opens limit t t' r → r ≡ Ok e → Standing (reader_graph limit) [] e.graph t'
ready_stands {limit} {t} o q = let w = ready_opened o q in rw (w.1, w.2) (opened_stands limit t w.0)

abbrev pub underway_opened : {limit : ℕ} {t t' : Tables} {r : Result Engine Refusal} {e : Engine} {s : Splitter} {g : Graph} → Opens limit t t' r → r ≡ Ok e → s ≡ started → g ≡ e.graph → Underway (reader_graph limit) [] s [] g t'
underway_opened o q z i = record { lines = []; told = λ rest. rw z (sym (run_items rest)); stands = rw i (ready_stands o q) }

after_then : (start : Graph) (h : History) (l m : List Item) → after_items start h (l ++ m) ≡ after_items start (after_items start h l) m
after_then start h [] m = refl
after_then start h (a ∷ l) m = after_then start (after_item start h a) l m

-- another part comes
abbrev pub underway_more : {start : Graph} {got : List ℕ} {s : Splitter} {g : Graph} {t : Tables} → Underway start got s [] g t → (part : List ℕ) → Underway start (got ++ part) s part g t
underway_more {got = got} u part =
    record { lines = u.lines; told = λ rest. ap items (append_assoc got part rest) ∙ u.told (part ++ rest); stands = u.stands }

-- a record has no more states than there can be
may_few : (limit : ℕ) (a : Item) → MayCount a → (with_count a (reader_graph limit)).n ≤ max_states
may_few limit Nothing h = omega arith
may_few limit (Sent r) h = omega arith
may_few limit (Malformed n) h = omega arith
may_few limit (BadNames n) h = omega arith
may_few limit TooMany h = omega arith
may_few limit (States c) h = h.1
may_few limit BadCount h = omega arith

pub few_states : (limit : ℕ) (l : List Item) → Headed l → (start_of (reader_graph limit) l).n ≤ max_states
few_states limit [] h = omega arith
few_states limit (a ∷ l) h = may_few limit a h.0

-- What the tables stand for after more lines.
module _ (start : Graph) {g g' : Graph} {t t' : Tables} {l : List Passed} (wide : max_states ≤ start.n) (a : Applies g t l g' t') where
  pub stands_more : (lines : List Item) → Headed (lines ++ items_of l) → Standing (start_of start lines) (after_items (start_of start lines) [] lines) g t → Standing (start_of start (lines ++ items_of l)) (after_items (start_of start (lines ++ items_of l)) [] (lines ++ items_of l)) g' t'
  stands_more [] h s = begins_stands wide h s a
  stands_more (x ∷ lines) h s = let n = with_count x start in subst (λ (h : History). Standing n h g' t') (sym (after_then n [] (x ∷ lines) (items_of l))) (applies_stands (headed_back x lines (items_of l) h) s a)

pub underway_headed : {start : Graph} {got left left' : List ℕ} {s s' : Splitter} {g g' : Graph} {t t' : Tables} (u : Underway start got s left g t) (f : Follows s left g t s' left' g' t') → Headed (u.lines ++ items_of f.passed)
underway_headed {got = got} {left' = left'} {s' = s'} u f =
    headed_front (u.lines ++ items_of f.passed) (run s' (left' ++ []))
    (subst Headed (u.told [] ∙ ap (λ (x : List Item). u.lines ++ x) (follows_told f []) ∙ sym (append_assoc u.lines (items_of f.passed) (run s' (left' ++ [])))) (items_headed (got ++ [])))

pub underway_stands : {start : Graph} {got left left' : List ℕ} {s s' : Splitter} {g g' : Graph} {t t' : Tables} → max_states ≤ start.n → (u : Underway start got s left g t) (f : Follows s left g t s' left' g' t') → Standing (start_of start (u.lines ++ items_of f.passed)) (after_items (start_of start (u.lines ++ items_of f.passed)) [] (u.lines ++ items_of f.passed)) g' t'
underway_stands {start} w u f = stands_more start w f.applied u.lines (underway_headed u f) u.stands

-- lines of it are read
abbrev pub underway_follows : {start : Graph} {got : List ℕ} {s s' : Splitter} {left left' : List ℕ} {g g' : Graph} {t t' : Tables} → max_states ≤ start.n → Underway start got s left g t → Follows s left g t s' left' g' t' → Underway start got s' left' g' t'
underway_follows {s' = s'} {left' = left'} w u f =
    record {
      lines = u.lines ++ items_of f.passed;
      told = λ rest. u.told rest ∙ ap (λ (x : List Item). u.lines ++ x) (follows_told f rest) ∙ sym (append_assoc u.lines (items_of f.passed) (run s' (left' ++ rest)));
      stands = underway_stands w u f;
    }

-- no part comes any more: the last lines lack their newline, or there is none
pub underway_last : {start : Graph} {got left newline left' : List ℕ} {s s' : Splitter} {g g' : Graph} {t t' : Tables} (u : Underway start got s left g t) → left ≡ [] → (f : Follows s newline g t s' left' g' t') → left' ≡ [] → newline ≡ last_newlines s → items got ≡ u.lines ++ items_of f.passed
underway_last {got = got} {newline = newline} {s = s} {s' = s'} u d f d' e =
    ap items (sym (append-nil got)) ∙ u.told [] ∙
    ap (λ (x : List Item). u.lines ++ x)
    (ap (λ (x : List ℕ). run s (x ++ [])) d ∙ sym (last_told s) ∙ ap (run s) (sym e ∙ sym (append-nil newline)) ∙ follows_told f [] ∙
    ap (λ (x : List ℕ). items_of f.passed ++ run s' (x ++ [])) d' ∙
    ap (λ (x : List Item). items_of f.passed ++ x) silent ∙ append-nil (items_of f.passed))
  where
    silent : run s' [] ≡ []
    silent =
        let z : s' ≡ after_bytes s (last_newlines s) = f.fed ∙ ap (after_bytes s) (follows_all f d' ∙ e) in
        ap (λ (x : Splitter). run x []) z ∙ last_over s

-- reading has stopped: whatever follows tells nothing more
pub underway_stopped : {start : Graph} {got : List ℕ} {s : Splitter} {left : List ℕ} {g : Graph} {t : Tables} (u : Underway start got s left g t) → s.stopped ≡ true → (rest : List ℕ) → items (got ++ rest) ≡ u.lines
underway_stopped {s = s} {left = left} u e rest = u.told rest ∙ ap (λ (x : List Item). u.lines ++ x) (stopped_told s e (left ++ rest)) ∙ append-nil u.lines
