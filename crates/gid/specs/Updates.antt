-- Updates: what the explorer sends. Document 01, "The record": "`E 3 4` a step, `T 3 -` a terminal mark, `C 3 -` a close". Document 02, #101: "Each step now carries a key".
-- Assumes nothing.
use Rattle.std.specs.Prelude.{◌≡◌, ◌⊎◌, ℕ}
use Rattle.std.proofs.Math.Option.{Option, some, none}
use Rattle.gid.specs.declared.Edge.{Edge}
use Rattle.gid.specs.declared.Update.{Update}
use Rattle.gid.specs.declared.Update.TheVariants.{Step, Terminal, Close}

-- The step from u to v by the key k. "two steps that differ only in key are two steps"
abbrev pub edge : ℕ → ℕ → ℕ → Edge
edge u v k = record { from = u; to = v; key = k }

-- "An update is sent from its first state."
abbrev pub source : Update → ℕ
source (Step e) = e.from
source (Terminal u) = u
source (Close u) = u

-- "A state is named when an accepted update mentions it."
abbrev pub Mentions : Update → ℕ → Type 0
Mentions (Step e) s = (e.from ≡ s) ⊎ (e.to ≡ s)
Mentions (Terminal u) s = u ≡ s
Mentions (Close u) s = u ≡ s

-- The values of a record's line: the byte of its kind (E, T or C), from, to and key. To is absent, written `-`, "exactly for T and C", and so is the key: "T and C lines have `-` there".
pub record Values : Type 0 where
  pub kind : ℕ
  pub from : ℕ
  pub to : Option ℕ
  pub key : Option ℕ

abbrev pub values : Update → Values
values (Step e) = record { kind = 69; from = e.from; to = some e.to; key = some e.key }
values (Terminal u) = record { kind = 84; from = u; to = none; key = none }
values (Close u) = record { kind = 67; from = u; to = none; key = none }
