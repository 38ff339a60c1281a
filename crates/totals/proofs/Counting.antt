-- The laws of the number of states that have a status.
-- Assumes nothing.
use mathlib.Core.Path.{◌≡◌, refl, sym, ◌∙◌, ap, subst}
use mathlib.Core.Bool.{Bool, true, false, cond}
use mathlib.Core.List.{List, [], ◌∷◌, ◌++◌, append_assoc, append-nil}
use Prim.Native.Nat.{ℕ, zero, suc, ◌+◌, ◌-◌, ◌≤◌, ◌<◌}
use native.Mathlib.Omega.{arith}
use native.Mathlib.Numerals.{add-one}
use Rattle.std.proofs.Common.{add-zero}
use lib.Dec.{eqb}
use lib.ListN.{length, get_or, take, length-append, get_or-append, get_or-eq_default}
use Rattle.std.proofs.lemmas.List.{length-take, get_or-take, get_or-append-add, nil_from_length}
use mir.Val.{bool_byte}
use Rattle.gid.specs.News.{below}
use Rattle.gid.proofs.News.{below_same}
use Rattle.totals.specs.declared.Totals.{Totals}
use Rattle.totals.specs.Counting.{having, totals_below}
use Rattle.totals.specs.Blocks.{Adds}

none_below : (f : ℕ → ℕ) (k : ℕ) → having 0 f k ≡ 0
unfolding below
none_below f k = refl

having_more : (n : ℕ) (f : ℕ → ℕ) (k : ℕ) → having (n + 1) f k ≡ having n f k + cond (eqb (f n) k) 1 0
unfolding below
having_more n f k = rw (add-one n, length-append (below n (λ s. eqb (f s) k)) (cond (eqb (f n) k) (n ∷ []) [])) (by (eqb (f n) k))
  where
    by : (b : Bool) → having n f k + length (cond b (n ∷ []) []) ≡ having n f k + cond b 1 0
    by true = refl
    by false = refl

-- Of d states further on, no more than d have a status.
having_further : (start d j : ℕ) (f : ℕ → ℕ) (k : ℕ) → j ≡ start + d → having j f k ≤ having start f k + d
having_further start zero j f k e = let z : j ≡ start = omega arith in rw z (omega arith)
having_further start (suc d) j f k e =
    let z : j ≡ start + d + 1 = omega arith in
    rw z (by (eqb (f (start + d)) k) (having_more (start + d) f k) (having_further start d (start + d) f k refl))
  where
    by : (b : Bool) → having (start + d + 1) f k ≡ having (start + d) f k + cond b 1 0 → having (start + d) f k ≤ having start f k + d → having (start + d + 1) f k ≤ having start f k + suc d
    by true e h = omega arith
    by false e h = omega arith

pub having_few : (n : ℕ) (f : ℕ → ℕ) (k : ℕ) → having n f k ≤ n
having_few n f k = omega (arith, having_further 0 n n f k (omega arith), none_below f k)

-- Past the end of a table no state has a status other than 0.
having_past : (m d n : ℕ) (l : List ℕ) (k : ℕ) → n ≡ m + d → length l ≤ m → eqb 0 k ≡ false → having n (λ s. get_or l s 0) k ≡ having m (λ s. get_or l s 0) k
having_past m zero n l k e h z = let w : n ≡ m = omega arith in rw w refl
having_past m (suc d) n l k e h z =
    let w : n ≡ m + d + 1 = omega arith in
    rw (w, having_more (m + d) (λ s. get_or l s 0) k, get_or-eq_default l 0 {n = m + d} (omega arith), z, having_past m d (m + d) l k refl h z) (omega arith)

-- A total of each status, none above m.
pub record Few (m : ℕ) (t : Totals) : Type 0 where
  pub opens : t.«open» ≤ m
  pub unknowns : t.unknown ≤ m
  pub lives : t.live ≤ m
  pub deads : t.dead ≤ m

pub totals_few : (n m : ℕ) → n ≤ m → (f : ℕ → ℕ) (t : Totals) → t ≡ totals_below n f → Few m t
totals_few n m h f t e =
    rw e (record { opens = omega (arith, having_few n f 1); unknowns = omega (arith, having_few n f 2); lives = omega (arith, having_few n f 3); deads = omega (arith, having_few n f 4) })

-- The totals turn on the statuses of the states below n alone.
pub totals_same : (n : ℕ) (f g : ℕ → ℕ) → ((s : ℕ) → s < n → f s ≡ g s) → totals_below n f ≡ totals_below n g
totals_same n f g e = rw (each 1, each 2, each 3, each 4) refl
  where
    each : (k : ℕ) → below n (λ s. eqb (f s) k) ≡ below n (λ s. eqb (g s) k)
    each k = below_same n (λ s. eqb (f s) k) (λ s. eqb (g s) k) (λ s h. ap (λ (x : ℕ). eqb x k) (e s h))

-- What the states from start up to i add is at most their number.
pub adds_few : (start i m : ℕ) (f : ℕ → ℕ) (t : Totals) → start ≤ i → i ≤ start + m → Adds start i f t → Few m t
adds_few start i m f t l h a =
    let e : i ≡ start + (i - start) = omega arith in
    let few : (k : ℕ) → having i f k ≤ having start f k + (i - start) = λ k. having_further start (i - start) i f k e in
    record { opens = omega (arith, few 1, a.opens); unknowns = omega (arith, few 2, a.unknowns); lives = omega (arith, few 3, a.lives); deads = omega (arith, few 4, a.deads) }

-- One state more.
abbrev pub with_one : ℕ → Totals → Totals
with_one y t =
    record {
      «open» = t.«open» + bool_byte (eqb y 1);
      unknown = t.unknown + bool_byte (eqb y 2);
      live = t.live + bool_byte (eqb y 3);
      dead = t.dead + bool_byte (eqb y 4);
    }

count_one : (start i : ℕ) (f : ℕ → ℕ) (k x : ℕ) → having i f k ≡ having start f k + x → having (i + 1) f k ≡ having start f k + (x + bool_byte (eqb (f i) k))
count_one start i f k x p = by (eqb (f i) k) (having_more i f k)
  where
    by : (b : Bool) → having (i + 1) f k ≡ having i f k + cond b 1 0 → having (i + 1) f k ≡ having start f k + (x + bool_byte b)
    by true e = omega arith
    by false e = omega arith

pub adds_one : (start i j : ℕ) (f : ℕ → ℕ) (t : Totals) → j ≡ i + 1 → Adds start i f t → Adds start j f (with_one (f i) t)
adds_one start i j f t e a =
    rw e
    (record {
      opens = count_one start i f 1 t.«open» a.opens;
      unknowns = count_one start i f 2 t.unknown a.unknowns;
      lives = count_one start i f 3 t.live a.lives;
      deads = count_one start i f 4 t.dead a.deads;
    })

pub one_few : (start i m : ℕ) (f : ℕ → ℕ) (t : Totals) → start ≤ i → i < start + m → Adds start i f t → Few m (with_one (f i) t)
one_few start i m f t l h a = adds_few start (i + 1) m f (with_one (f i) t) (omega arith) (omega arith) (adds_one start i (i + 1) f t refl a)

-- What a comparison adds is 0 or 1.
pub byte_few : {x : ℕ} (b : Bool) → x ≡ bool_byte b → x ≤ 1
byte_few true e = omega arith
byte_few false e = omega arith

-- The states of one block behind those of others.
abbrev pub plus : Totals → Totals → Totals
plus t u =
    record {
      «open» = t.«open» + u.«open»;
      unknown = t.unknown + u.unknown;
      live = t.live + u.live;
      dead = t.dead + u.dead;
    }

pub adds_then : (a b c : ℕ) (f : ℕ → ℕ) (t u : Totals) → Adds a b f t → Adds b c f u → Adds a c f (plus t u)
adds_then a b c f t u p q =
    record {
      opens = omega (arith, p.opens, q.opens);
      unknowns = omega (arith, p.unknowns, q.unknowns);
      lives = omega (arith, p.lives, q.lives);
      deads = omega (arith, p.deads, q.deads);
    }

-- Further states, of which d have the statuses that g has from its start on.
having_shift : (a d : ℕ) (f g : ℕ → ℕ) (k : ℕ) → ((s : ℕ) → s < d → f (a + s) ≡ g s) → having (a + d) f k ≡ having a f k + having d g k
having_shift a zero f g k e = rw (add-zero a) (omega (arith, none_below g k))
having_shift a (suc d) f g k e =
    let ih = having_shift a d f g k (λ s h. e s (omega arith)) in
    let last = e d (omega arith) in
    let z : a + suc d ≡ a + d + 1 = omega arith in
    let y : suc d ≡ d + 1 = omega arith in
    rw (z, y, having_more (a + d) f k, having_more d g k, last) (omega arith)

having_same : (n : ℕ) (f g : ℕ → ℕ) (k : ℕ) → ((s : ℕ) → s < n → f s ≡ g s) → having n f k ≡ having n g k
having_same n f g k e = ap length (below_same n (λ s. eqb (f s) k) (λ s. eqb (g s) k) (λ s h. ap (λ (x : ℕ). eqb x k) (e s h)))

-- What the states of two blocks of a table add, one behind the other.
pub adds_append : (a b : List ℕ) (t u : Totals) → Adds 0 (length a) (λ s. get_or a s 0) t → Adds 0 (length b) (λ s. get_or b s 0) u → Adds 0 (length (a ++ b)) (λ s. get_or (a ++ b) s 0) (plus t u)
adds_append a b t u p q = rw (length-append a b) (adds_then 0 (length a) (length a + length b) f t u front back)
  where
    f : ℕ → ℕ
    f s = get_or (a ++ b) s 0

    first : (k x : ℕ) → having (length a) (λ s. get_or a s 0) k ≡ having 0 (λ s. get_or a s 0) k + x → having (length a) f k ≡ having 0 f k + x
    first k x e = omega (arith, having_same (length a) f (λ s. get_or a s 0) k (λ s h. get_or-append a b 0 s h), none_below f k, none_below (λ s. get_or a s 0) k)

    then : (k y : ℕ) → having (length b) (λ s. get_or b s 0) k ≡ having 0 (λ s. get_or b s 0) k + y → having (length a + length b) f k ≡ having (length a) f k + y
    then k y e = omega (arith, having_shift (length a) (length b) f (λ s. get_or b s 0) k (λ s h. get_or-append-add a b s 0), none_below (λ s. get_or b s 0) k)

    front : Adds 0 (length a) f t
    front = record { opens = first 1 t.«open» p.opens; unknowns = first 2 t.unknown p.unknowns; lives = first 3 t.live p.lives; deads = first 4 t.dead p.deads }

    back : Adds (length a) (length a + length b) f u
    back = record { opens = then 1 u.«open» q.opens; unknowns = then 2 u.unknown q.unknowns; lives = then 3 u.live q.lives; deads = then 4 u.dead q.deads }

-- What the states of a table passed so far add, of which the rest is left.
pub record Passed (all rest : List ℕ) (t : Totals) : Type 0 where
  pub done : List ℕ
  pub parts : all ≡ done ++ rest
  pub adds : Adds 0 (length done) (λ s. get_or done s 0) t

pub passed_block : (all rest block rest' : List ℕ) (t u : Totals) → Passed all rest t → rest ≡ block ++ rest' → Adds 0 (length block) (λ s. get_or block s 0) u → Passed all rest' (plus t u)
passed_block all rest block rest' t u p e a =
    record {
      done = p.done ++ block;
      parts = p.parts ∙ ap (λ (l : List ℕ). p.done ++ l) e ∙ sym (append_assoc p.done block rest');
      adds = adds_append p.done block t u p.adds a;
    }

-- None is above the number of states asked for.
pub block_few : (n : ℕ) (l rest block rest' : List ℕ) (t u : Totals) → Passed (take n l) rest t → rest ≡ block ++ rest' → Adds 0 (length block) (λ s. get_or block s 0) u → Few n (plus t u)
block_few n l rest block rest' t u p e a =
    let q = passed_block (take n l) rest block rest' t u p e a in
    adds_few 0 (length q.done) n (λ s. get_or q.done s 0) (plus t u) (omega arith) (omega (arith, ap length q.parts, length-append q.done rest', length-take n l)) q.adds

-- What the states of the first entries of a table add are the totals of that many states, for all further ones are past its end.
pub passed_all : (n : ℕ) (l rest : List ℕ) (t : Totals) → length rest ≡ 0 → Passed (take n l) rest t → t ≡ totals_below n (λ s. get_or l s 0)
passed_all n l rest t z p i =
    record {
      «open» = each 1 refl t.«open» all.opens i;
      unknown = each 2 refl t.unknown all.unknowns i;
      live = each 3 refl t.live all.lives i;
      dead = each 4 refl t.dead all.deads i;
    }
  where
    f : ℕ → ℕ
    f s = get_or (take n l) s 0

    all : Adds 0 (length (take n l)) f t
    all =
        let e : take n l ≡ p.done = p.parts ∙ ap (λ (r : List ℕ). p.done ++ r) (nil_from_length rest z) ∙ append-nil p.done in
        subst (λ (d : List ℕ). Adds 0 (length d) (λ s. get_or d s 0) t) (sym e) p.adds

    each : (k : ℕ) → eqb 0 k ≡ false → (x : ℕ) → having (length (take n l)) f k ≡ having 0 f k + x → x ≡ having n (λ s. get_or l s 0) k
    each k q x a =
        let h : length (take n l) ≤ n = omega (arith, length-take n l) in
        omega (
          arith,
          having_past (length (take n l)) (n - length (take n l)) n (take n l) k (omega arith) (omega arith) q,
          having_same n f (λ s. get_or l s 0) k (λ s h. get_or-take n l s 0 h),
          none_below f k,
        )
