-- The number of news fits every answer: it is at most 2,048. The number of a kind that is no update's.
-- Assumes nothing.
use mathlib.Core.Path.{◌≡◌, sym}
use mathlib.Core.Bool.{Bool, true}
use mathlib.Core.List.{List, [], ◌∷◌}
use mathlib.Core.Option.{some}
use Prim.Native.Nat.{ℕ, ◌≤◌}
use native.Mathlib.Omega.{arith}
use Rattle.gid.specs.declared.Update.{Update}
use Rattle.gid.specs.Refusals.{Rule, max_states}
use Rattle.tables.specs.declared.Graph.{Graph}
use Rattle.tables.specs.declared.lengths.Lengths.{Lengths}
use Rattle.tables.specs.Tables.{Tables, tables_of, nodes_of, enough, needs, long_enough}
use Rattle.tables.specs.declared.refusal.Refusal.{Refusal}
use Rattle.tables.specs.Numbers.{number_of}
use Rattle.tables.specs.Refused.{lent_rules, lent_number}
use Rattle.tables.proofs.Refusing.{first_some, first_none, lent_passes, lent_refuses, number_positive, lent_leaves, accepted_passes}
use Rattle.std.specs.Prelude.{Ok as Accepted, Err as Refused, Some as Known}
use Rattle.gid.specs.Outcomes.{by_number}
use Rattle.tables.specs.Lending.{contents}
use Rattle.tables.specs.declared.lent.LentTables.{LentTables}
use Rattle.engine.specs.Answers.{Answer, answer_number, news_count}
use Rattle.engine.specs.Promise.{Promise}
use Rattle.engine.proofs.Running.{was_accepted}
use Rattle.capi.specs.Calls.{kind_refusal, code_by, Called, answered}

pub few_news : {g g' : Graph} {x : Update} {t t' : Tables} (a : Answer) → Promise g x t g' a t' → news_count a ≤ max_states
few_news (Refused k) p = omega arith
few_news {g} {x = x} {t = t} (Accepted k) p =
    let w = was_accepted p in
    let l = lent_leaves g (long_enough g t) (accepted_passes g t x w.0).0 in
    omega (arith, w.1.named.few, l.few_states)

-- a kind that is no update's: the tests 1 to 4 come first
module _ (g : Graph) (l : Lengths) where
  abbrev long : Bool
  long = enough (needs g.n (nodes_of g) g.limit l)

  abbrev malformed : List Rule
  malformed = record { applies = true; number = 11 } ∷ []

  pub kind_refused : (r : Refusal) → number_of r ≡ lent_number g (enough (needs g.n (nodes_of g) g.limit l)) → kind_refusal g l ≡ some (number_of r)
  unfolding kind_refusal
  kind_refused r e = first_some (lent_rules g long) malformed (number_of r) (lent_refuses g long (number_of r) (sym e) (number_positive r))

  pub kind_malformed : 0 ≡ lent_number g (enough (needs g.n (nodes_of g) g.limit l)) → kind_refusal g l ≡ some 11
  unfolding kind_refusal
  kind_malformed e = first_none (lent_rules g long) malformed (lent_passes g long (sym e))

-- an update's answer: the tables after the call, slice by slice, and the number of news as a word
module _ {n limit m : ℕ} {x : Update} {t : Tables} {g' : Graph} where
  pub answered_by :
      {status marks from to key successor news in_head out_head queue visited in_next out_next : List ℕ} {m' r : ℕ} {a : Answer} (t' : LentTables) →
      Promise (record { n = n; limit = limit; steps = m }) x t g' a (contents t') → m' ≡ g'.steps → r ≡ code_by (λ k. k) (by_number (answer_number a) (news_count a)) →
      status ≡ t'.status.now → marks ≡ t'.marks.now → from ≡ t'.from.now → to ≡ t'.to.now → key ≡ t'.key.now → successor ≡ t'.successor.now → news ≡ t'.news.now →
      in_head ≡ t'.in_head.now → out_head ≡ t'.out_head.now → queue ≡ t'.queue.now → visited ≡ t'.visited.now → in_next ≡ t'.in_next.now → out_next ≡ t'.out_next.now →
      Called n limit m (Known x) t m' (tables_of status marks from to key successor news in_head out_head queue visited in_next out_next) r
  answered_by t' p q r a b c d e f g h i j k l o = rw (a, b, c, d, e, f, g, h, i, j, k, l, o) (answered p q r)
