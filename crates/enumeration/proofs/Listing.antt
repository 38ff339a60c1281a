-- The list of the small histories: it has exactly these, in their order, each once (document 02, #114).
-- Assumes nothing.
use mathlib.Core.Path.{◌≡◌, subst}
use mathlib.Core.Logic.{◌↔◌}
use mathlib.Core.Bool.{true}
use mathlib.Core.List.Memᴰ
use mathlib.Core.List.{List, [], ◌∷◌, map, Memᴰ}
use Prim.Native.Nat.{ℕ, ◌<◌}
use Rattle.gid.specs.Histories.{History}
use Rattle.gid.specs.News.{Rising}
use Rattle.gid.proofs.News.{below_mem, below_rising}
use Rattle.enumeration.specs.Small.{SmallHistory, Ordered, EachOnce}
use Rattle.enumeration.specs.Ranking.{unranked, is_legal, legal_ranks, rank_count, histories}
use Rattle.enumeration.proofs.Ranking.{rank, unranked_rank, rank_below, unranked_short, unranked_small, unranked_before, not_before}
use Rattle.enumeration.proofs.Legality.{decides_legal}

-- the history of a legal rank is small
pub small_ranked : (i : ℕ) → i < rank_count → is_legal (unranked i) ≡ true → SmallHistory (unranked i)
small_ranked i l e = record { legal = (decides_legal (unranked i)).sound e; short = unranked_short 3 i l; small = unranked_small i }

-- "every legal history .. Each, repeats of an update included, and no other"
pub histories_exact : (h : History) → Memᴰ h histories ↔ SmallHistory h
unfolding histories
histories_exact h = (to, of)
  where
    to : Memᴰ h (map unranked (legal_ranks rank_count)) → SmallHistory h
    to m =
        let p = Memᴰ.of_map unranked (legal_ranks rank_count) m in
        let q = (below_mem rank_count (λ i. is_legal (unranked i)) p.0).0 p.1 in
        subst (λ (g : History). SmallHistory g) p.2 (small_ranked p.0 q.0 q.1)

    of : SmallHistory h → Memᴰ h (map unranked (legal_ranks rank_count))
    of s =
        let e = unranked_rank h s.small in
        let legal : is_legal (unranked (rank h)) ≡ true = rw e ((decides_legal h).complete s.legal) in
        subst (λ (g : History). Memᴰ g (map unranked (legal_ranks rank_count))) e
        (Memᴰ.map unranked ((below_mem rank_count (λ i. is_legal (unranked i)) (rank h)).1 (rank_below 3 h s.short s.small, legal)))

-- "shorter ones first, then update by update"
ordered : (l : List ℕ) → Rising l → Ordered (map unranked l)
ordered [] r = tt
ordered (i ∷ l) r = (
  λ g m. let p = Memᴰ.of_map unranked l m in rw (← p.2) (unranked_before i p.0 (r.0 p.0 p.1)),
  ordered l r.1,
)

pub histories_ordered : Ordered histories
unfolding histories
histories_ordered = ordered (legal_ranks rank_count) (below_rising rank_count (λ i. is_legal (unranked i)))

-- "exactly one time"
once : (l : List History) → Ordered l → EachOnce l
once [] o = tt
once (h ∷ l) o = (λ m. not_before h (o.0 h m), once l o.1)

pub histories_once : EachOnce histories
histories_once = once histories histories_ordered
