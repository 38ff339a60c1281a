-- The laws of systems of arcs: live is the least set and dead the largest, the two are apart, verdicts stay where a system grows at nodes that are not final, and pruning changes none.
-- Assumes nothing.
use Prim.Native.Nat.{ℕ}
use Rattle.gid.specs.Systems.{System, LiveIn, goal, by_arc, ReachesIn, here, along, DeadIn, Within, Grows, Prunes}

module _ (S : System) where
  -- Live is the least set that holds the goals and, with all targets of an arc, the node that it leaves.
  pub live_least : (P : ℕ → Type 0) → ((s : ℕ) → S.Goal s → P s) → ((s p t : ℕ) → S.Arc s p t → ((v : ℕ) → S.Arc s p v → P v) → P s) → {s : ℕ} → LiveIn S s → P s
  live_least P g c (goal {s = s} h) = g s h
  live_least P g c (by_arc {s = s} {p = p} {t = t} a f) = c s p t a (λ v b. live_least P g c (f v b))

  -- Dead is the largest set of final nodes, none of them a goal, that holds the targets of its members' arcs.
  pub dead_final : {s : ℕ} → DeadIn S s → S.Final s
  dead_final d = (d _ here).0

  pub dead_target : {s p t : ℕ} → S.Arc s p t → DeadIn S s → DeadIn S t
  dead_target a d v r = d v (along a r)

  pub dead_greatest : (P : ℕ → Type 0) → ((s : ℕ) → P s → S.Final s) → ((s : ℕ) → P s → S.Goal s → ⊥) → ((s p t : ℕ) → S.Arc s p t → P s → P t) → {s : ℕ} → P s → DeadIn S s
  dead_greatest P f g c q v r = let k = forth r q in (f v k, g v k)
    where
      forth : {u w : ℕ} → ReachesIn S u w → P u → P w
      forth here q = q
      forth (along a r) q = forth r (c _ _ _ a q)

  pub dead_not_live : {s : ℕ} → DeadIn S s → LiveIn S s → ⊥
  dead_not_live d (goal h) = (d _ here).1 h
  dead_not_live d (by_arc {t = t} a f) = dead_not_live (dead_target a d) (f t a)

module _ (S S' : System) where
  -- Where all targets of an arc of S are live in S', and the arc is one of S', its node is live there.
  pub live_by : {s p t : ℕ} → Within S S' s → S.Arc s p t → ((v : ℕ) → S.Arc s p v → LiveIn S' v) → LiveIn S' s
  live_by {s} {p} {t} w a f = let q = w p t a in by_arc ((q.1 t).0 a) (λ v b. f v ((q.1 v).1 b))

  -- The target of an arc of S is one of an arc of S'.
  pub target_within : {s p t : ℕ} → Within S S' s → S.Arc s p t → (q : ℕ) × S'.Arc s q t
  target_within {p = p} {t = t} w a = let q = w p t a in (q.0, (q.1 t).0 a)

  -- What is live stays live, and what is dead stays dead, where a system grows at nodes that are not final.
  pub live_grows : Grows S S' → {s : ℕ} → LiveIn S s → LiveIn S' s
  live_grows g = live_least S (LiveIn S') (λ s h. goal (g.goals s h)) (λ s p t a f. live_by (g.arcs s) a f)

  pub dead_grows : Grows S S' → {s : ℕ} → DeadIn S s → DeadIn S' s
  dead_grows g =
      dead_greatest S' (DeadIn S) (λ s d. g.finals s (dead_final S d)) (λ s d h. (d s here).1 (g.late_goals s (dead_final S d) h))
      (λ s p t a d. dead_target S (back s p t a d).1 d)
    where
      back : (s p t : ℕ) → S'.Arc s p t → DeadIn S s → (q : ℕ) × S.Arc s q t
      back s p t a d = let q = g.late_arcs s (dead_final S d) p t a in (q.0, (q.1 t).0 a)

-- What is new in F' at nodes that were live in F makes none live: what is live in F' is live in P', where P' has what F' has at the other nodes, and all that is live in F is live in P'.
pub live_carried : (F F' P' : System) → ((s : ℕ) → Dec (LiveIn F s)) → ((s : ℕ) → LiveIn F s → LiveIn P' s) → ((s : ℕ) → (LiveIn F s → ⊥) → F'.Goal s → P'.Goal s) → ((s : ℕ) → (LiveIn F s → ⊥) → Within F' P' s) → {s : ℕ} → LiveIn F' s → LiveIn P' s
live_carried F F' P' d o g w = live_least F' (LiveIn P') (λ s h. goals s h (d s)) (λ s p t a f. arcs s p t a f (d s))
  where
    goals : (s : ℕ) → F'.Goal s → Dec (LiveIn F s) → LiveIn P' s
    goals s h (yes l) = o s l
    goals s h (no n) = goal (g s n h)

    arcs : (s p t : ℕ) → F'.Arc s p t → ((v : ℕ) → F'.Arc s p v → LiveIn P' v) → Dec (LiveIn F s) → LiveIn P' s
    arcs s p t a f (yes l) = o s l
    arcs s p t a f (no n) = live_by F' P' (w s n) a f

-- Pruning changes no verdict.
module _ (F P : System) (k : Prunes F P) where
  pub live_full : {s : ℕ} → LiveIn P s → LiveIn F s
  live_full = live_least P (LiveIn F) (λ s h. goal (k.goals s h)) (λ s p t a f. live_by P F (k.arcs s) a f)

  pub dead_pruned : {s : ℕ} → DeadIn F s → DeadIn P s
  dead_pruned =
      dead_greatest P (DeadIn F) (λ s d. k.kept_finals s (dead_not_live F d) (dead_final F d)) (λ s d h. (d s here).1 (k.goals s h))
      (λ s p t a d. dead_target F (target_within P F (k.arcs s) a).1 d)

  pub dead_full : {s : ℕ} → DeadIn P s → DeadIn F s
  dead_full =
      dead_greatest F (DeadIn P) (λ s d. k.finals s (dead_final P d)) (λ s d h. dead_not_live P d (k.live s (goal h)))
      (λ s p t a d. dead_target P (target_within F P (k.kept_arcs s (λ l. dead_not_live P d (k.live s l))) a).1 d)
