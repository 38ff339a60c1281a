-- The laws of the refusals: rules in a row, and the number 0 for none.
-- Assumes nothing.
use mathlib.Core.Path.{◌≡◌, refl, sym, ◌∙◌, ap}
use mathlib.Core.Bool.{Bool, true, false, not, cond, ◌&&◌, ◌||◌, true≢false}
use mathlib.Core.List.{List, [], ◌∷◌, ◌++◌}
use mathlib.Core.Option.{Option, some, none}
use Prim.Native.Nat.{ℕ, ◌<◌, ◌≤◌}
use native.Mathlib.Omega.{arith}
use lib.Dec.{leb, ltb, eqb}
use borrow.Author.Tests.{eqb-false, ltb-false, not-false}
use lib.ListN.{get_or}
use Rattle.gid.specs.declared.Edge.{Edge}
use Rattle.gid.specs.declared.Update.{Update}
use Rattle.gid.specs.declared.Update.TheVariants.{Step, Terminal, Close}
use Rattle.gid.specs.Refusals.{Given, Rule, first, lent, sent, refusal, max_states, max_steps, max_key}
use Rattle.tables.specs.declared.Graph.{Graph}
use Rattle.tables.specs.declared.refusal.Refusal.{Refusal}
use Rattle.tables.specs.declared.refusal.Refusal.TheVariants.{BadStates, BadLimit, ShortTable, ExcessSteps, OutOfRange, ClosedSource, ListFull, BadKey, BadNames, Malformed, TooManyLines, BadCount, ShortBuffer}
use Rattle.tables.specs.Numbers.{number_of}
use Rattle.tables.specs.Tables.{Tables, visited_length, long_enough_by, long_enough}
use Rattle.tables.specs.Marks.{has_closed}
use Rattle.tables.specs.Listing.{listed_on}
use Rattle.tables.specs.Refused.{is_full, given, refusal_by, refusal_on, none_listed, is_again, lent_rules, number, lent_number, sent_number, place_number}

-- No rule of the list has the number 0.
abbrev pub Positive : List Rule → Type 0
Positive [] = Unit {0}
Positive (r ∷ l) = (0 < r.number) × Positive l

-- The number 0 is given for none alone.
pub number_none : (l : List Rule) → Positive l → number (first l) ≡ 0 → first l ≡ none
number_none [] p e = refl
number_none (r ∷ l) p e = at r.applies (number_none l p.1) e
  where
    at : (b : Bool) → (number (first l) ≡ 0 → first l ≡ none) → number (cond b (some r.number) (first l)) ≡ 0 → cond b (some r.number) (first l) ≡ none
    at true i q = absurd (omega (arith, p.0))
    at false i q = i q

pub number_some : (o : Option ℕ) (k : ℕ) → number o ≡ k → (k ≡ 0 → ⊥) → o ≡ some k
number_some none k e n = absurd (n (sym e))
number_some (some j) k e n = ap some e

-- The first of two lists of rules.
pub first_some : (l m : List Rule) (k : ℕ) → first l ≡ some k → first (l ++ m) ≡ some k
first_some [] m k e = absurd (let z : ◌≡◌ {A = ℕ} 0 1 = cc in omega arith)
first_some (r ∷ l) m k e = at r.applies (first_some l m k) e
  where
    at : (b : Bool) → (first l ≡ some k → first (l ++ m) ≡ some k) → cond b (some r.number) (first l) ≡ some k → cond b (some r.number) (first (l ++ m)) ≡ some k
    at true i q = q
    at false i q = i q

pub first_none : (l m : List Rule) → first l ≡ none → first (l ++ m) ≡ first m
first_none [] m e = refl
first_none (r ∷ l) m e = at r.applies (first_none l m) e
  where
    at : (b : Bool) → (first l ≡ none → first (l ++ m) ≡ first m) → cond b (some r.number) (first l) ≡ none → cond b (some r.number) (first (l ++ m)) ≡ first m
    at true i q = absurd (let z : ◌≡◌ {A = ℕ} 0 1 = cc in omega arith)
    at false i q = i q

lent_numbered : (g : Given) → Positive (lent g)
lent_numbered g = (omega arith, (omega arith, (omega arith, (omega arith, tt))))

sent_numbered : (g : Given) (x : Update) → Positive (sent g x)
sent_numbered g (Step e) = (omega arith, (omega arith, (omega arith, (omega arith, tt))))
sent_numbered g (Terminal u) = (omega arith, (omega arith, tt))
sent_numbered g (Close u) = (omega arith, tt)

-- The tests behind 4 give the number of those where a place is free, and where there is none, 9 to a step that needs a place.
lacks : Bool → (Edge → Bool) → Update → Bool
lacks full listed (Step e) = full && not (listed e)
lacks full listed (Terminal u) = false
lacks full listed (Close u) = false

or_nine : Bool → Option ℕ → Option ℕ
or_nine full none = cond full (some 9) none
or_nine full (some k) = some k

sent_any : (g : Graph) (long full : Bool) (listed : Edge → Bool) (marks : List ℕ) (x : Update) → first (sent (given g long full listed marks) x) ≡ or_nine (lacks full listed x) (first (sent (given g true false none_listed marks) x))
unfolding lacks or_nine
sent_any g long full listed marks (Step e) = at (leb g.n e.from || leb g.n e.to) (ltb max_key e.key) (has_closed (get_or marks e.from 0))
  where
    at : (a b c : Bool) → cond a (some 5) (cond b (some 14) (cond c (some 6) (cond (full && not (listed e)) (some 9) none))) ≡ or_nine (full && not (listed e)) (cond a (some 5) (cond b (some 14) (cond c (some 6) none)))
    at true b c = refl
    at false true c = refl
    at false false true = refl
    at false false false = refl
sent_any g long full listed marks (Terminal u) = at (leb g.n u) (has_closed (get_or marks u 0))
  where
    at : (a b : Bool) → cond a (some 5) (cond b (some 6) none) ≡ or_nine false (cond a (some 5) (cond b (some 6) none))
    at true b = refl
    at false true = refl
    at false false = refl
sent_any g long full listed marks (Close u) = at (leb g.n u)
  where
    at : (a : Bool) → cond a (some 5) none ≡ or_nine false (cond a (some 5) none)
    at true = refl
    at false = refl

-- The tests 1 to 4 pass where the code's number is 0, and else give it.
pub lent_passes : (g : Graph) (long : Bool) → lent_number g long ≡ 0 → first (lent_rules g long) ≡ none
unfolding lent_number
lent_passes g long e = number_none (lent_rules g long) (lent_numbered (given g long false none_listed [])) e

pub lent_refuses : (g : Graph) (long : Bool) (k : ℕ) → lent_number g long ≡ k → (k ≡ 0 → ⊥) → first (lent_rules g long) ≡ some k
unfolding lent_number
lent_refuses g long k e n = number_some (first (lent_rules g long)) k e n

-- The tests 5, 14 and 6 pass where the code's number is 0.
pub sent_passes : (g : Graph) (marks : List ℕ) (x : Update) → sent_number g marks x ≡ 0 → first (sent (given g true false none_listed marks) x) ≡ none
unfolding sent_number
sent_passes g marks x e = number_none (sent (given g true false none_listed marks) x) (sent_numbered (given g true false none_listed marks) x) e

-- Where there is no number, no rule applies.
abbrev pub NoneApply : List Rule → Type 0
NoneApply [] = Unit {0}
NoneApply (r ∷ l) = (r.applies ≡ false) × NoneApply l

pub passed : (l : List Rule) → first l ≡ none → NoneApply l
passed [] e = tt
passed (r ∷ l) e = at r.applies refl (passed l) e
  where
    at : (b : Bool) → r.applies ≡ b → (first l ≡ none → NoneApply l) → cond b (some r.number) (first l) ≡ none → (r.applies ≡ false) × NoneApply l
    at true q i z = absurd (let y : ◌≡◌ {A = ℕ} 0 1 = cc in omega arith)
    at false q i z = (q, i z)

pub none_applies : (l : List Rule) → NoneApply l → first l ≡ none
none_applies [] p = refl
none_applies (r ∷ l) p = rw p.0 (none_applies l p.1)

pub neither : (a b : Bool) → a || b ≡ false → (a ≡ false) × (b ≡ false)
neither true b e = absurd (true≢false e)
neither false b e = (refl, e)

-- What the tests 1 to 4 leave.
pub record Lent (g : Graph) (long : Bool) : Type 0 where
  pub some_states : 0 < g.n
  pub few_states : g.n ≤ 2048
  pub some_limit : 0 < g.limit
  pub low_limit : g.limit ≤ 8192
  pub longs : long ≡ true
  pub room : g.steps ≤ g.limit

pub lent_leaves : (g : Graph) (long : Bool) → lent_number g long ≡ 0 → Lent g long
lent_leaves g long e =
    let p = passed (lent_rules g long) (lent_passes g long e) in
    let n = neither (eqb g.n 0) (ltb max_states g.n) p.0 in
    let l = neither (eqb g.limit 0) (ltb max_steps g.limit) p.1.0 in
    let nz = eqb-false g.n 0 n.0 in
    let lz = eqb-false g.limit 0 l.0 in
    record {
      some_states = omega arith;
      few_states = ltb-false max_states g.n n.1;
      some_limit = omega arith;
      low_limit = ltb-false max_steps g.limit l.1;
      longs = not-false long p.1.1.0;
      room = ltb-false g.limit g.steps p.1.1.1.0;
    }

-- No refusal has the number 0.
pub number_positive : (r : Refusal) → number_of r ≡ 0 → ⊥
number_positive BadStates e = omega arith
number_positive BadLimit e = omega arith
number_positive ShortTable e = omega arith
number_positive ExcessSteps e = omega arith
number_positive OutOfRange e = omega arith
number_positive ClosedSource e = omega arith
number_positive ListFull e = omega arith
number_positive BadKey e = omega arith
number_positive BadNames e = omega arith
number_positive Malformed e = omega arith
number_positive TooManyLines e = omega arith
number_positive BadCount e = omega arith
number_positive ShortBuffer e = omega arith

abbrev nine : Bool → ℕ
nine b = cond b 9 0

lacks_place : (full : Bool) (listed : Edge → Bool) (x : Update) (marks : List ℕ) → nine (lacks full listed x) ≡ cond (is_again x marks listed) 0 (place_number full x)
unfolding lacks is_again place_number
lacks_place full listed (Step e) marks = at full (listed e)
  where
    at : (a b : Bool) → nine (a && not b) ≡ cond b 0 (nine a)
    at true true = refl
    at true false = refl
    at false true = refl
    at false false = refl
lacks_place full listed (Terminal u) marks = refl
lacks_place full listed (Close u) marks = at (has_closed (get_or marks u 0))
  where
    at : (b : Bool) → ◌≡◌ {A = ℕ} 0 (cond b 0 0)
    at true = refl
    at false = refl

-- An update's number on the tables, from the three parts of the tests.
module _ (g : Graph) (t : Tables) (x : Update) where
  pub refused_lent : (k : ℕ) → lent_number g (long_enough g t) ≡ k → (k ≡ 0 → ⊥) → refusal_on g t x ≡ some k
  unfolding refusal
  refused_lent k e n =
      first_some (lent (given g (long_enough g t) (is_full g) (listed_on g t) t.marks))
      (sent (given g (long_enough g t) (is_full g) (listed_on g t) t.marks) x) k
      (lent_refuses g (long_enough g t) k e n)

  module _ (e : lent_number g (long_enough g t) ≡ 0) where
    sent_half : refusal_on g t x ≡ or_nine (lacks (is_full g) (listed_on g t) x) (first (sent (given g true false none_listed t.marks) x))
    unfolding refusal
    sent_half =
        first_none (lent (given g (long_enough g t) (is_full g) (listed_on g t) t.marks))
        (sent (given g (long_enough g t) (is_full g) (listed_on g t) t.marks) x)
        (lent_passes g (long_enough g t) e) ∙
        sent_any g (long_enough g t) (is_full g) (listed_on g t) t.marks x

    pub refused_sent : (k : ℕ) → sent_number g t.marks x ≡ k → (k ≡ 0 → ⊥) → refusal_on g t x ≡ some k
    unfolding sent_number or_nine
    refused_sent k q n = sent_half ∙ ap (or_nine (lacks (is_full g) (listed_on g t) x)) (number_some (first (sent (given g true false none_listed t.marks) x)) k q n)

    module _ (q : sent_number g t.marks x ≡ 0) where
      passes_sent : refusal_on g t x ≡ cond (lacks (is_full g) (listed_on g t) x) (some 9) none
      unfolding or_nine
      passes_sent = sent_half ∙ ap (or_nine (lacks (is_full g) (listed_on g t) x)) (sent_passes g t.marks x q)

      -- 9 where it needs a place and the list is full,
      pub refused_full : (k : ℕ) → is_again x t.marks (listed_on g t) ≡ false → place_number (is_full g) x ≡ k → (k ≡ 0 → ⊥) → refusal_on g t x ≡ some k
      refused_full k a p n = passes_sent ∙ at (lacks (is_full g) (listed_on g t) x) (lacks_place (is_full g) (listed_on g t) x t.marks ∙ rw a p)
        where
          at : (b : Bool) → nine b ≡ k → cond b (some 9) none ≡ some k
          at true z = ap some z
          at false z = absurd (n (sym z))

      -- and else it is accepted.
      accepted_lacks : nine (lacks (is_full g) (listed_on g t) x) ≡ 0 → refusal_on g t x ≡ none
      accepted_lacks z = passes_sent ∙ at (lacks (is_full g) (listed_on g t) x) z
        where
          at : (b : Bool) → nine b ≡ 0 → cond {A = Option ℕ} b (some 9) none ≡ none
          at true z = absurd (omega arith)
          at false z = refl

      pub accepted_again : is_again x t.marks (listed_on g t) ≡ true → refusal_on g t x ≡ none
      accepted_again a = accepted_lacks (lacks_place (is_full g) (listed_on g t) x t.marks ∙ rw a)

      pub accepted_new : is_again x t.marks (listed_on g t) ≡ false → place_number (is_full g) x ≡ 0 → refusal_on g t x ≡ none
      accepted_new a p = accepted_lacks (lacks_place (is_full g) (listed_on g t) x t.marks ∙ rw a p)

split_none : (l m : List Rule) → first (l ++ m) ≡ none → (first l ≡ none) × (first m ≡ none)
split_none [] m e = (refl, e)
split_none (r ∷ l) m e = at r.applies e (split_none l m)
  where
    at : (b : Bool) → cond b (some r.number) (first (l ++ m)) ≡ none → (first (l ++ m) ≡ none → (first l ≡ none) × (first m ≡ none)) → (cond b (some r.number) (first l) ≡ none) × (first m ≡ none)
    at true q i = absurd (let z : ◌≡◌ {A = ℕ} 0 1 = cc in omega arith)
    at false q i = i q

-- An accepted update has passed the tests 1 to 4, and 5, 14 and 6, and needs no place or has one: whatever the visited marks take, and where they are bits.
pub accepted_passes_by : (entries : ℕ → ℕ) (g : Graph) (t : Tables) (x : Update) → refusal_by entries g t x ≡ none → (lent_number g (long_enough_by entries g t) ≡ 0) × (sent_number g t.marks x ≡ 0) × (cond (is_again x t.marks (listed_on g t)) 0 (place_number (is_full g) x) ≡ 0)
unfolding refusal lent_number sent_number or_nine
accepted_passes_by entries g t x e =
    let p = split_none (lent (given g (long_enough_by entries g t) (is_full g) (listed_on g t) t.marks)) (sent (given g (long_enough_by entries g t) (is_full g) (listed_on g t) t.marks) x) e in
    let q = at (first (sent (given g true false none_listed t.marks) x)) (lacks (is_full g) (listed_on g t) x) (sym (sent_any g (long_enough_by entries g t) (is_full g) (listed_on g t) t.marks x) ∙ p.1) in
    (ap number p.0, ap number q.0, sym (lacks_place (is_full g) (listed_on g t) x t.marks) ∙ ap nine q.1)
  where
    at : (o : Option ℕ) (b : Bool) → or_nine b o ≡ none → (o ≡ none) × (b ≡ false)
    at none true z = absurd (let y : ◌≡◌ {A = ℕ} 0 1 = cc in omega arith)
    at none false z = (refl, refl)
    at (some k) b z = absurd (let y : ◌≡◌ {A = ℕ} 0 1 = cc in omega arith)

pub accepted_passes : (g : Graph) (t : Tables) (x : Update) → refusal_on g t x ≡ none → (lent_number g (long_enough g t) ≡ 0) × (sent_number g t.marks x ≡ 0) × (cond (is_again x t.marks (listed_on g t)) 0 (place_number (is_full g) x) ≡ 0)
accepted_passes = accepted_passes_by visited_length
