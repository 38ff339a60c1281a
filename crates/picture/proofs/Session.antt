-- A drawing from its first call to its last: each call keeps its progress, and what stands in the output after the last one is the picture of the input's accepted lines.
-- Assumes nothing.
use mathlib.Core.Path.{◌≡◌, refl, sym, ◌∙◌, ap, subst}
use mathlib.Core.List.{List, [], ◌∷◌, ◌++◌, append-nil}
use mathlib.Core.Option.{none}
use Prim.Native.Nat.{ℕ, ◌≤◌}
use native.Mathlib.Omega.{arith}
use lib.ListN.{length, take}
use Rattle.gid.specs.Refusals.{max_steps}
use Rattle.tables.specs.declared.Graph.{Graph}
use Rattle.tables.specs.Tables.{Tables}
use Rattle.record.specs.declared.splitter.Item.{Item}
use Rattle.record.specs.declared.splitter.Item.TheVariants.{Nothing, Update as Sent, Malformed, BadNames, TooMany, States, BadCount}
use Rattle.record.specs.Items.{items}
use Rattle.record.specs.Text.{WroteAt}
use Rattle.record.proofs.Splitting.{run_items}
use Rattle.record.proofs.Heading.{Headed, items_headed}
use Rattle.record.proofs.Placing.{placed_take}
use Rattle.reader.specs.declared.task.Task.TheVariants.{Read, End}
use Rattle.reader.specs.Opening.{open_refusal}
use Rattle.reader.specs.Replaying.{with_count, start_of, after_items, record_start, history_of}
use Rattle.reader.specs.Reading.{record_limit, record_graph}
use Rattle.reader.specs.Standing.{Standing}
use Rattle.reader.specs.Advancing.{items_of}
use Rattle.reader.proofs.Lines.{opened_stands}
use Rattle.reader.proofs.Parts.{few_states, stands_more, underway_more, underway_follows, underway_last, underway_stopped}
use Rattle.picture.specs.declared.drawer.Drawer.{Drawer}
use Rattle.picture.specs.Picture.{picture_room}
use Rattle.picture.specs.Progress.{Shows, DrawingProgress, reads, ends}
use Rattle.picture.specs.Drawer.{picture_by, BeginsDrawing, Draws, short, goes_on, stopped, ended}
use Rattle.picture.proofs.Saying.{picture_says}

-- The first call: nothing has been read.
pub progress_begun : {t t' : Tables} {d : Drawer} {output : List ℕ} → BeginsDrawing t d t' → open_refusal record_limit t ≡ none → DrawingProgress [] d [] output t'
progress_begun {t} b e = rw (b.drawer, b.tables, e) (reads refl (record { lines = []; told = λ rest. sym (run_items rest); stands = opened_stands record_limit t e }))

-- a count leaves the step limit
same_limit : (a : Item) (g : Graph) → (with_count a g).limit ≡ g.limit
same_limit Nothing g = refl
same_limit (Sent r) g = refl
same_limit (Malformed n) g = refl
same_limit (BadNames n) g = refl
same_limit TooMany g = refl
same_limit (States c) g = refl
same_limit BadCount g = refl

low_limit : (l : List Item) → (start_of record_graph l).limit ≤ max_steps
low_limit [] = omega arith
low_limit (a ∷ l) = omega (arith, same_limit a record_graph)

-- What is drawn from tables that stand for some lines.
shown : (d : Drawer) {t : Tables} {output output' : List ℕ} (l : List Item) → Standing (start_of record_graph l) (after_items (start_of record_graph l) [] l) d.reader.engine.graph t → WroteAt 0 (picture_by d.reader t) output output' d.end → (input : List ℕ) → items input ≡ l → Shows (record_start record_limit input).n (history_of record_limit input) (take d.end output')
shown d l s w input e = rw (e, placed_take w (omega arith)) (picture_says (few_states record_limit l (subst Headed e (items_headed input))) (low_limit l) s)

-- The piece that was asked for has been read.
pub progress_read : {got old piece output output' : List ℕ} {d d' : Drawer} {t t' : Tables} → DrawingProgress got d old output t → d.task ≡ Read → picture_room ≤ length output → Draws d piece output t d' output' t' → DrawingProgress (got ++ piece) d' piece output' t'
progress_read (ends q o) e room c = absurd (let z : ◌≡◌ {A = ℕ} 0 1 = cc in omega arith)
progress_read (reads q u) e room (short h z w i) = absurd (omega arith)
progress_read {piece = piece} (reads q u) e room (goes_on f l some s k z w) = reads k (rw l at (underway_follows (omega arith) (underway_more u piece) f))
progress_read {got} {piece = piece} {d' = d'} (reads q u) e room (stopped f s k w h) =
    let v = underway_follows (omega arith) (underway_more u piece) f in
    ends k (λ rest none. shown d' v.lines v.stands w (got ++ piece ++ rest) (underway_stopped v s rest))
progress_read {got} {piece = piece} {d' = d'} (reads q u) e room (ended n l f o k w h) =
    let told : items got ≡ u.lines ++ items_of f.passed = underway_last u refl f o l in
    let stands = stands_more record_graph (omega arith) f.applied u.lines (subst Headed told (items_headed got)) u.stands in
    ends k
    (λ rest none.
    shown d' (u.lines ++ items_of f.passed) stands w (got ++ piece ++ rest)
    (ap (λ (x : List ℕ). items (got ++ piece ++ x)) (none n) ∙ ap (λ (x : List ℕ). items (got ++ x ++ [])) n ∙ ap items (append-nil (got ++ []) ∙ append-nil got) ∙ told))

-- The output has been written out: that was the picture.
pub progress_ended : {got piece output : List ℕ} {d : Drawer} {t : Tables} → DrawingProgress got d piece output t → d.task ≡ End → (rest : List ℕ) → (piece ≡ [] → rest ≡ []) → Shows (record_start record_limit (got ++ rest)).n (history_of record_limit (got ++ rest)) (take d.end output)
progress_ended (reads q o) e = absurd (let z : ◌≡◌ {A = ℕ} 0 1 = cc in omega arith)
progress_ended (ends q o) e = o
