-- What an update answers, in document 01's terms: a number, and the news.
-- Assumes nothing.
use Rattle.std.specs.Prelude.{List, [], ℕ, take, Result, Ok as Accepted, Err as Refused}
use Rattle.std.proofs.Math.Option.{Option, some, none}
use Rattle.gid.specs.Outcomes.{Outcome, by_number}
use Rattle.tables.specs.declared.refusal.Refusal.{Refusal}
use Rattle.tables.specs.Numbers.{number_of}

-- The number of its news, or a refusal.
abbrev pub Answer : Type 0
Answer = Result ℕ Refusal

-- The number of a refusal, none where the update is accepted.
abbrev pub answer_number : Answer → Option ℕ
answer_number (Accepted k) = none
answer_number (Refused r) = some (number_of r)

-- The number of news.
abbrev pub news_count : Answer → ℕ
news_count (Accepted k) = k
news_count (Refused r) = 0

-- "The news comes back as the filled front part of the lent news list." A refusal has "an empty news list".
abbrev pub news_of : Answer → List ℕ → List ℕ
news_of (Accepted k) news = take k news
news_of (Refused r) news = []

-- What came of the update, by the news list after it.
abbrev pub answer_outcome : Answer → List ℕ → Outcome (List ℕ)
answer_outcome a news = by_number (answer_number a) (news_of a news)
