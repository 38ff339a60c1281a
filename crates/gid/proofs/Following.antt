-- Which updates may follow a history.
-- Assumes nothing.
use Rattle.gid.specs.declared.Update.{Update}
use Rattle.gid.specs.declared.Update.TheVariants.{Step, Terminal, Close}
use Rattle.gid.specs.Updates.{source}
use Rattle.gid.specs.Histories.{History, IsClosed, MayFollow}
use Rattle.gid.proofs.Paths.{Inside}

-- What is sent from a state that is not closed may follow.
pub unclosed_follows : {h : History} (x : Update) → (IsClosed h (source x) → ⊥) → MayFollow h x
unclosed_follows (Step e) n = n
unclosed_follows (Terminal u) n = n
unclosed_follows (Close u) n = tt

-- What may follow a history may follow a part of it.
pub follows_within : {h g : History} → Inside h g → (x : Update) → MayFollow g x → MayFollow h x
follows_within i (Step e) f = λ m. f (i (Close e.from) m)
follows_within i (Terminal u) f = λ m. f (i (Close u) m)
follows_within i (Close u) f = tt
