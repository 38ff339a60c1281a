-- The text of a record's lines, as bytes. Document 01, "The record"; document 02, #101 and #107.
-- Assumes nothing.
use Rattle.std.specs.Prelude.{◌≡◌, cond, List, [], ◌∷◌, ◌++◌, ℕ, zero, suc, ◌+◌, ◌/◌, ◌%◌, ◌≤◌, ltb, length, take, drop}
use Rattle.std.proofs.Math.Option.{Option, some, none}
use Rattle.gid.specs.declared.Update.{Update}
use Rattle.gid.specs.declared.Update.TheVariants.{Step, Terminal, Close}
use Rattle.gid.specs.Updates.{values}
use Rattle.record.specs.declared.line.Form.{Form}
use Rattle.record.specs.declared.line.Form.TheVariants.{Plain, Keyed}

-- The digits of n, the last one behind those of n / 10. The first argument bounds their number.
unfoldable pub digits_of : ℕ → ℕ → List ℕ
digits_of zero n = (48 + n) ∷ []
digits_of (suc k) n =
    let more = digits_of k (n / 10) ++ ((48 + n % 10) ∷ []) in
    cond (ltb n 10) ((48 + n) ∷ []) more

-- "A value is decimal, .. without leading zeros." `0` is one digit.
unfoldable pub decimal : ℕ → List ℕ
decimal n = digits_of n n

-- What only the keyed form has, at the end of its names line and of each further line: a space, and the bytes of the key.
abbrev pub keyed : Form → List ℕ → List ℕ
keyed Plain key = []
keyed Keyed key = 32 ∷ key

-- "The first line is `kind from to`." "A record may begin with `kind from to key`".
abbrev pub names : Form → List ℕ
names f = (107 ∷ 105 ∷ 110 ∷ 100 ∷ 32 ∷ 102 ∷ 114 ∷ 111 ∷ 109 ∷ 32 ∷ 116 ∷ 111 ∷ []) ++ keyed f (107 ∷ 101 ∷ 121 ∷ [])

-- "a line `states`"
abbrev pub states_line : List ℕ
states_line = 115 ∷ 116 ∷ 97 ∷ 116 ∷ 101 ∷ 115 ∷ []

-- A line up to `to`: the kind, a space, `from`, a space.
abbrev pub head : ℕ → ℕ → List ℕ
head kind from = kind ∷ 32 ∷ decimal from ++ (32 ∷ [])

-- "`to` is `-` exactly for T and C." The key: "T and C lines have `-` there."
abbrev pub field : Option ℕ → List ℕ
field none = 45 ∷ []
field (some v) = decimal v

-- "Each further line is an update with these values, one space between: `E 3 4` a step, `T 3 -` a terminal mark, `C 3 -` a close." With keys: `E 3 4 7`, `T 3 - -`, `C 3 - -`. Without the newline.
abbrev pub text : Form → Update → List ℕ
text f x = head (values x).kind (values x).from ++ field (values x).to ++ keyed f (field (values x).key)

-- "A value is decimal, 0 to 65,535"
abbrev pub max_value : ℕ
max_value = 65535

-- "A record with the old names line gives every step key 0".
abbrev pub KeyWithin : Form → ℕ → Type 0
KeyWithin Plain k = k ≡ 0
KeyWithin Keyed k = k ≤ max_value

abbrev pub Within : Form → Update → Type 0
Within f (Step e) = (e.from ≤ max_value) × (e.to ≤ max_value) × KeyWithin f e.key
Within f (Terminal u) = u ≤ max_value
Within f (Close u) = u ≤ max_value

-- A call wrote the bytes t at the front of a buffer, left the others, and returned the number of bytes.
pub record Wrote (t entry exit : List ℕ) (r : ℕ) : Type 0 where
  pub bytes : exit ≡ t ++ drop (length t) entry
  pub count : r ≡ length t

-- The same at a place of the buffer. The answer is the place after the bytes.
pub record WroteAt (at : ℕ) (t entry exit : List ℕ) (r : ℕ) : Type 0 where
  pub bytes : exit ≡ take at entry ++ (t ++ drop (at + length t) entry)
  pub after : r ≡ at + length t
