-- Document 01's numbers of refusals, and the lesser of two numbers, as of what is asked for and what a table has.
-- Assumes nothing.
use Rattle.std.specs.Prelude.{cond, ℕ, leb}
use Rattle.tables.specs.declared.refusal.Refusal.{Refusal}
use Rattle.tables.specs.declared.refusal.Refusal.TheVariants.{BadStates, BadLimit, ShortTable, ExcessSteps, OutOfRange, ClosedSource, ListFull, BadKey, BadNames, Malformed, TooManyLines, BadCount, ShortBuffer}

abbrev pub number_of : Refusal → ℕ
number_of BadStates = 1
number_of BadLimit = 2
number_of ShortTable = 3
number_of ExcessSteps = 4
number_of OutOfRange = 5
number_of ClosedSource = 6
number_of ListFull = 9
number_of BadKey = 14
number_of BadNames = 10
number_of Malformed = 11
number_of TooManyLines = 12
number_of BadCount = 17
number_of ShortBuffer = 13

abbrev pub least : ℕ → ℕ → ℕ
least a b = cond (leb a b) a b
