-- What the bytes of a line are: an update, or none, where the line is malformed; and the count of a record's states. Document 01, "The record"; document 02, #101 and #107. proofs/Reading.antt proves that these are the texts of updates and of counts, and nothing else.
-- Assumes nothing.
use Rattle.std.specs.Prelude.{Bool, cond, ◌&&◌, List, [], ◌∷◌, ℕ, ◌+◌, ◌*◌, ◌-◌, leb, eqb, length}
use Rattle.std.proofs.Math.Option.{Option, some, none}
use Rattle.gid.specs.declared.Update.{Update}
use Rattle.gid.specs.declared.Update.TheVariants.{Step, Terminal, Close}
use Rattle.gid.specs.Updates.{edge}
use Rattle.gid.specs.Refusals.{max_states}
use Rattle.record.specs.declared.line.Form.{Form}
use Rattle.record.specs.declared.line.Form.TheVariants.{Plain, Keyed}
use Rattle.record.specs.Text.{max_value}

-- What was read at the front of some bytes, and the bytes behind it.
pub record Front : Type 0 where
  pub number : ℕ
  pub rest : List ℕ

abbrev pub is_digit : ℕ → Bool
is_digit b = leb 48 b && leb b 57

-- The rest of a value, the digits read so far being n: all digits that follow. "0 to 65,535"
unfoldable pub digits : ℕ → List ℕ → Option Front
digits n [] = some (record { number = n; rest = [] })
digits n (b ∷ l) =
    cond (is_digit b)
    (cond (leb (n * 10 + (b - 48)) max_value) (digits (n * 10 + (b - 48)) l) none)
    (some (record { number = n; rest = b ∷ l }))

-- "A value is decimal, 0 to 65,535, without leading zeros": a zero is a value by itself, and any other digit starts one.
unfoldable pub value : List ℕ → Option Front
value [] = none
value (b ∷ l) = cond (eqb b 48) (some (record { number = 0; rest = l })) (cond (is_digit b) (digits (b - 48) l) none)

-- What follows the byte b, where the bytes start with it.
unfoldable pub behind : ℕ → List ℕ → Option (List ℕ)
behind b [] = none
behind b (c ∷ l) = cond (eqb c b) (some l) none

infixl 20 ◌and_then◌
-- Where the first reading fails, all fails; else the second goes on with what was read.
abbrev pub ◌and_then◌ : {A B : Type 0} → Option A → (A → Option B) → Option B
◌and_then◌ none f = none
◌and_then◌ (some a) f = f a

-- The line ends here.
abbrev pub whole : Update → List ℕ → Option Update
whole x [] = some x
whole x (b ∷ l) = none

-- A step's key, behind `to`: a space and a value. "A record with the old names line gives every step key 0".
unfoldable pub key_of : Form → List ℕ → Option Front
key_of Plain l = some (record { number = 0; rest = l })
key_of Keyed l = behind 32 l and_then value

-- "`E 3 4` a step": `to` is a value.
unfoldable pub step : Form → ℕ → List ℕ → Option Update
step f from l = value l and_then λ to. key_of f to.rest and_then λ key. whole (Step (edge from to.number key.number)) key.rest

-- The key of a terminal mark or a close, behind `to`: a space and a dash. "T and C lines have `-` there."
unfoldable pub no_key : Form → List ℕ → Option (List ℕ)
no_key Plain l = some l
no_key Keyed l = behind 32 l and_then behind 45

-- "`T 3 -` a terminal mark, `C 3 -` a close": "`to` is `-` exactly for T and C."
unfoldable pub mark_with : Form → Update → List ℕ → Option Update
mark_with f x l = behind 45 l and_then no_key f and_then whole x

-- By the kind, E, T or C: the update from a value, with the bytes from `to` on.
unfoldable pub update : Form → ℕ → ℕ → List ℕ → Option Update
update f kind from l =
    cond (eqb kind 69) (step f from l) (cond (eqb kind 84) (mark_with f (Terminal from) l) (cond (eqb kind 67) (mark_with f (Close from) l) none))

-- The kind, a space, a value, a space, and the rest: "one space between".
unfoldable pub fields : Form → List ℕ → Option Update
fields f [] = none
fields f (kind ∷ l) = behind 32 l and_then value and_then λ from. behind 32 from.rest and_then update f kind from.number

-- "A line of more than 16 bytes, a blank line or a carriage return is malformed."
unfoldable pub line_of : Form → List ℕ → Option Update
line_of f l = cond (leb (length l) 16) (fields f l) none

-- "a line with the count", which is "a number from 1 to 2,048": a value, and the line ends behind it.
unfoldable pub count_of : List ℕ → Option ℕ
count_of l = value l and_then λ c. cond (leb (length c.rest) 0 && (leb 1 c.number && leb c.number max_states)) (some c.number) none
