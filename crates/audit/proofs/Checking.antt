-- A check between two calls of a run leaves what runs ask of it, whatever it answered.
-- Assumes nothing.
use mathlib.Core.Path.{◌≡◌, refl}
use mathlib.Core.List.{List}
use mathlib.Core.Option.{Option, some, none}
use Prim.Native.Nat.{ℕ}
use native.Mathlib.Omega.{arith}
use Rattle.gid.specs.Histories.{History, Legal}
use Rattle.std.specs.Prelude.{Result, Ok, Err, Bool, true, false}
use Rattle.tables.specs.declared.Graph.{Graph}
use Rattle.tables.specs.declared.refusal.Refusal.{Refusal}
use Rattle.tables.specs.Numbers.{number_of}
use Rattle.tables.specs.Tables.{Tables}
use Rattle.tables.specs.Fitting.{Checked, Consistent}
use Rattle.audit.specs.Audited.{audit_outcome, audit_refusal, after_check, Audited}

pub checked : {g : Graph} {t : Tables} {answer : Result Bool Refusal} {queue visited : List ℕ} → Audited g t answer queue visited → Checked g t (after_check t queue visited)
checked {g} {t} {answer} {queue} {visited} a =
    record {
      status = refl;
      marks = refl;
      from = refl;
      to = refl;
      key = refl;
      successor = refl;
      news = refl;
      sizes = rw (a.queue.size, a.visited.size);
      fits = λ h l c. by_answer answer refl h l c;
    }
  where
    by_answer : (x : Result Bool Refusal) → audit_outcome answer ≡ audit_outcome x → (h : History) → Legal h → Consistent h g t → Consistent h g (after_check t queue visited)
    by_answer (Ok true) e h l c = a.still e h c
    by_answer (Ok false) e h l c = absurd (by_refusal (audit_refusal g t) refl)
      where
        by_refusal : (o : Option ℕ) → audit_refusal g t ≡ o → ⊥
        by_refusal none q = (a.no q).0 e (h, l, c)
        by_refusal (some k) q = let r = (a.refused k).1 q in let z : ◌≡◌ {A = ℕ} 0 1 = cc in omega arith
    by_answer (Err r) e h l c = let u = a.unchanged (number_of r) e in rw (u.0, u.1) c
