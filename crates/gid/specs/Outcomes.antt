-- What comes of an update after a history, by the definitions alone: refused with a number, or accepted with its news.
-- Assumes nothing.
use Rattle.std.specs.Prelude.{true, List, [], ◌∷◌, ℕ, eqb, length}
use Rattle.std.proofs.Math.Option.{Option, some, none}
use Rattle.gid.specs.declared.Update.{Update}
use Rattle.gid.specs.Histories.{History, is_in, listed}
use Rattle.gid.specs.Statuses.{is_closed}
use Rattle.gid.specs.News.{news}
use Rattle.gid.specs.Refusals.{Given, refusal}

-- What comes of a call: it is refused with a number, or accepted, with what it gives. An update gives its news.
pub data Outcome (A : Type 0) : Type 0 where
  refused : ℕ → Outcome A
  accepted : A → Outcome A

-- By the number of the first test that applies, if one does.
abbrev pub by_number : {A : Type 0} → Option ℕ → A → Outcome A
by_number none a = accepted a
by_number (some k) a = refused k

-- What the tables say after a history, with tables that are long enough.
unfoldable pub given_after : ℕ → ℕ → History → Given
given_after n limit h = record { n = n; limit = limit; steps = length (listed h); long = true; full = eqb (length (listed h)) limit; listed = is_in (listed h); closed = is_closed h }

-- The outcome of an update after a history, and the history after it.
unfoldable pub outcome : ℕ → ℕ → History → Update → Outcome (List ℕ)
outcome n limit h x = by_number (refusal (given_after n limit h) x) (news n h x)

unfoldable pub after : ℕ → ℕ → History → Update → History
after n limit h x = elim (refusal (given_after n limit h) x) [ none ↦ x ∷ h | some k ↦ h ]

unfoldable pub after_all : ℕ → ℕ → History → List Update → History
after_all n limit h [] = h
after_all n limit h (x ∷ l) = after_all n limit (after n limit h x) l
