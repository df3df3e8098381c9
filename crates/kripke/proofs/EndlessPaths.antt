-- E and A over walks of S states say what endless paths say, at every level.
use mathlib.Core.Path.{◌≡◌, refl, sym, ap, ◌∙◌, subst}
use Prim.Native.Nat.{ℕ, zero, suc, ◌≤◌, ◌<◌, min, max}
use mathlib.Core.List.{List, map}
use mathlib.Core.Bool.{Bool, true, false}
use mathlib.Core.Logic.{◌⊎◌, inl, inr, ⊎_elim, ◌↔◌}
use native.Mathlib.Omega.{arith}
use native.Mathlib.Nat.{le_trans, le_of_eq}
use native.Mathlib.Numerals.{add-one}
use Rattle.kripke.specs.Endless.{Endless, Settles}
use Rattle.kripke.specs.Transitions.{Edge, Graph, succs}
use Rattle.kripke.specs.Until.{step, until}
use Rattle.values.specs.Values.{choose}
use Rattle.lists.specs.Choosing.{best}
use Rattle.lists.specs.Entries.{at}
use Rattle.kripke.proofs.Rest.{enough, never_above, settled}
use Rattle.kripke.proofs.Steps.{choose_picks, until_one, until_step}
use Rattle.kripke.proofs.Successors.{edge_state, edge_succ, succ_edge}
use Rattle.lists.proofs.Choosing.{best_picked, greatest_bounds, least_bounds}
use Rattle.lists.proofs.Numbers.{lt_or_le, reach_max}

-- a path begun one state earlier, and one whose first state is left off
ahead : ℕ → (ℕ → ℕ) → ℕ → ℕ
ahead s π zero = s
ahead s π (suc i) = π i

behind : (ℕ → ℕ) → ℕ → ℕ
behind π i = π (suc i)

-- a rule followed from s on
follow : (ℕ → ℕ) → ℕ → ℕ → ℕ
follow f s zero = s
follow f s (suc i) = f (follow f s i)

ahead_endless : (es : List ℕ) (s t : ℕ) (π : ℕ → ℕ) → Edge es s t → Endless es t π → Endless es s (ahead s π)
unfolding ahead
ahead_endless es s t π e p = record { begins = refl; joined = joined }
  where
    joined : (i : ℕ) → Edge es (ahead s π i) (ahead s π (suc i))
    joined zero = subst (Edge es s) (sym p.begins) e
    joined (suc i) = p.joined i

ahead_settles : (L R : List ℕ) (w s : ℕ) (π : ℕ → ℕ) (i : ℕ) → w ≤ at L s → Settles L R w π i → Settles L R w (ahead s π) (suc i)
unfolding ahead
ahead_settles L R w s π i l p = record { right = p.right; left = left }
  where
    left : (j : ℕ) → j < suc i → w ≤ at L (ahead s π j)
    left zero h = l
    left (suc j) h = p.left j (omega arith)

behind_endless : (es : List ℕ) (s : ℕ) (π : ℕ → ℕ) → Endless es s π → Endless es (π 1) (behind π)
unfolding behind
behind_endless es s π p = record { begins = refl; joined = λ i. p.joined (suc i) }

module _ (S : ℕ) (es : List ℕ) (G : Graph S es) where
  -- a rule that goes to successors makes endless paths through the states
  follow_state : (f : ℕ → ℕ) → ((s : ℕ) → s < S → Edge es s (f s)) → (s : ℕ) → s < S → (i : ℕ) → follow f s i < S
  unfolding follow
  follow_state f go s h zero = h
  follow_state f go s h (suc i) = let here = follow_state f go s h i in edge_state S es G (follow f s i) (f (follow f s i)) (go (follow f s i) here)

  follow_endless : (f : ℕ → ℕ) → ((s : ℕ) → s < S → Edge es s (f s)) → (s : ℕ) → s < S → Endless es s (follow f s)
  unfolding follow
  follow_endless f go s h = record { begins = refl; joined = λ i. go (follow f s i) (follow_state f go s h i) }

  module _ (all : Bool) (L R : List ℕ) where
    -- the successor that the choice takes its value from
    pub chosen : (f : ℕ → ℕ) (s : ℕ) → s < S → (t : ℕ) × Edge es s t × (best (choose all) (map f (succs es s)) ≡ f t)
    chosen f s h = let p = best_picked (choose all) f (choose_picks all) (succs es s) (G.out s h) in (p.0, succ_edge es s p.0 p.1, p.2)

    -- that successor by walks of S states; past the states, anything
    guide : ℕ → ℕ
    guide s = ⊎_elim (λ (h : s < S). (chosen (until all es L R S) s h).0) (λ (h : S ≤ s). 0) (lt_or_le s S)

    guide_chosen : (s : ℕ) → s < S → Edge es s (guide s) × (until all es L R S s ≡ step (at L s) (at R s) (until all es L R S (guide s)))
    unfolding guide
    guide_chosen s h = go (lt_or_le s S)
      where
        go : (d : (s < S) ⊎ (S ≤ s)) → Edge es s (⊎_elim (λ (h : s < S). (chosen (until all es L R S) s h).0) (λ (h : S ≤ s). 0) d) × (until all es L R S s ≡ step (at L s) (at R s) (until all es L R S (⊎_elim (λ (h : s < S). (chosen (until all es L R S) s h).0) (λ (h : S ≤ s). 0) d)))
        go (inl k) = let p = chosen (until all es L R S) s k in (p.1, settled all S es G L R s h ∙ ap (step (at L s) (at R s)) p.2)
        go (inr k) = absurd (omega arith)

  module _ (L R : List ℕ) (w : ℕ) where
    -- some endless path from s settles the until at the level
    abbrev Reachable : ℕ → Type 0
    Reachable s = (π : ℕ → ℕ) × (i : ℕ) × Endless es s π × Settles L R w π i

    at_once_lem : (s : ℕ) → s < S → w ≤ at R s → Reachable s
    unfolding follow
    at_once_lem s h r = (follow (guide false L R) s, 0, follow_endless (guide false L R) (λ t l. (guide_chosen false L R t l).0) s h, record { right = r; left = λ j l. absurd (omega arith) })

    later : (s t : ℕ) → Edge es s t → w ≤ at L s → Reachable t → Reachable s
    later s t e l p = (ahead s p.0, suc p.1, ahead_endless es s t p.0 e p.2, ahead_settles L R w s p.0 p.1 l p.3)

    -- where E reaches the level some endless path settles it
    pub exists_path : (n s : ℕ) → s < S → w ≤ until false es L R (suc n) s → Reachable s
    exists_path zero s h v = at_once_lem s h (rw (until_one false es L R s) at v)
    exists_path (suc n) s h v =
        let c = chosen false L R (until false es L R (suc n)) s h in
        let u : w ≤ step (at L s) (at R s) (until false es L R (suc n) c.0) = subst (λ (x : ℕ). w ≤ x) (until_step false S es G L R n s h ∙ ap (step (at L s) (at R s)) c.2) v in
        ⊎_elim
        (at_once_lem s h)
        (λ (m : w ≤ min (at L s) (until false es L R (suc n) c.0)). later s c.0 c.1 (omega arith) (exists_path n c.0 (edge_state S es G s c.0 c.1) (omega arith)))
        (reach_max w (at R s) (min (at L s) (until false es L R (suc n) c.0)) u)

    -- and only there
    path_exists : (i s : ℕ) (π : ℕ → ℕ) → s < S → Endless es s π → Settles L R w π i → w ≤ until false es L R (suc i) s
    unfolding behind
    path_exists zero s π h p q = rw (until_one false es L R s) (subst (λ (x : ℕ). w ≤ at R x) p.begins q.right)
    path_exists (suc i) s π h p q =
        let e : Edge es s (π 1) = subst (λ (x : ℕ). Edge es x (π 1)) p.begins (p.joined 0) in
        let v : w ≤ until false es L R (suc i) (π 1) = path_exists i (π 1) (behind π) (edge_state S es G s (π 1) e) (behind_endless es s π p) (record { right = q.right; left = λ j l. q.left (suc j) (omega arith) }) in
        let l : w ≤ at L s = subst (λ (x : ℕ). w ≤ at L x) p.begins (q.left 0 (omega arith)) in
        let b : until false es L R (suc i) (π 1) ≤ best max (map (until false es L R (suc i)) (succs es s)) = greatest_bounds (until false es L R (suc i)) (succs es s) (π 1) (edge_succ es s (π 1) e) in
        rw (until_step false S es G L R i s h) (omega arith)

    pub E-paths : (s : ℕ) → s < S → (w ≤ until false es L R S s) ↔ Reachable s
    E-paths s h = (λ v. exists_path S s h (le_trans v (le_of_eq more)), λ p. le_trans (path_exists p.1 s p.0 h p.2 p.3) (never_above false S es G L R p.1 s h))
      where
        more : until false es L R S s ≡ until false es L R (suc S) s
        more = enough false S es G L R 1 s h ∙ ap (λ (k : ℕ). until false es L R k s) (add-one S)

    -- where A reaches the level every endless path settles it
    every_path : (n s : ℕ) (π : ℕ → ℕ) → s < S → w ≤ until true es L R (suc n) s → Endless es s π → (i : ℕ) × Settles L R w π i
    unfolding behind
    every_path zero s π h v p = (0, record { right = subst (λ (x : ℕ). w ≤ at R x) (sym p.begins) (rw (until_one true es L R s) at v); left = λ j l. absurd (omega arith) })
    every_path (suc n) s π h v p =
        let e : Edge es s (π 1) = subst (λ (x : ℕ). Edge es x (π 1)) p.begins (p.joined 0) in
        let b : best min (map (until true es L R (suc n)) (succs es s)) ≤ until true es L R (suc n) (π 1) = least_bounds (until true es L R (suc n)) (succs es s) (π 1) (edge_succ es s (π 1) e) in
        let u : w ≤ step (at L s) (at R s) (best min (map (until true es L R (suc n)) (succs es s))) = subst (λ (x : ℕ). w ≤ x) (until_step true S es G L R n s h) v in
        ⊎_elim
        (λ (r : w ≤ at R s). (0, record { right = subst (λ (x : ℕ). w ≤ at R x) (sym p.begins) r; left = λ j l. absurd (omega arith) }))
        (λ (m : w ≤ min (at L s) (best min (map (until true es L R (suc n)) (succs es s)))).
        let q = every_path n (π 1) (behind π) (edge_state S es G s (π 1) e) (omega arith) (behind_endless es s π p) in
        (suc q.0, record { right = q.1.right; left = first π q.0 (subst (λ (x : ℕ). w ≤ at L x) (sym p.begins) (omega arith)) q.1.left }))
        (reach_max w (at R s) (min (at L s) (best min (map (until true es L R (suc n)) (succs es s)))) u)
      where
        first : (π : ℕ → ℕ) (i : ℕ) → w ≤ at L (π 0) → ((j : ℕ) → j < i → w ≤ at L (π (suc j))) → (j : ℕ) → j < suc i → w ≤ at L (π j)
        first π i l r zero h = l
        first π i l r (suc j) h = r j (omega arith)

    pub A-paths : (s : ℕ) → s < S → w ≤ until true es L R S s → (π : ℕ → ℕ) → Endless es s π → (i : ℕ) × Settles L R w π i
    A-paths s h v π p = every_path S s π h (le_trans v (le_of_eq (enough true S es G L R 1 s h ∙ ap (λ (k : ℕ). until true es L R k s) (add-one S)))) p

    -- where A misses the level, the path by the worst successors never settles it
    stays_low : (s : ℕ) → s < S → until true es L R S s < w → (i : ℕ) → ((j : ℕ) → j < i → w ≤ at L (follow (guide true L R) s j)) → until true es L R S (follow (guide true L R) s i) < w
    unfolding follow
    stays_low s h v zero l = v
    stays_low s h v (suc i) l =
        let x : ℕ = follow (guide true L R) s i in
        let low : until true es L R S x < w = stays_low s h v i (λ j k. l j (omega arith)) in
        let eq : until true es L R S x ≡ step (at L x) (at R x) (until true es L R S (guide true L R x)) = (guide_chosen true L R x (follow_state (guide true L R) (λ t k. (guide_chosen true L R t k).0) s h i)).1 in
        omega (arith, l i (omega arith))

    pub A-misses : (s : ℕ) → s < S → until true es L R S s < w → (π : ℕ → ℕ) × Endless es s π × ((i : ℕ) → Settles L R w π i → ⊥)
    A-misses s h v =
        let go : (t : ℕ) → t < S → Edge es t (guide true L R t) = λ t k. (guide_chosen true L R t k).0 in (
          follow (guide true L R) s,
          follow_endless (guide true L R) go s h,
          λ i q.
              let x : ℕ = follow (guide true L R) s i in
              let low : until true es L R S x < w = stays_low s h v i q.left in
              let eq : until true es L R S x ≡ step (at L x) (at R x) (until true es L R S (guide true L R x)) = (guide_chosen true L R x (follow_state (guide true L R) go s h i)).1 in
              omega (arith, q.right),
        )
