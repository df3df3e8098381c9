-- A(left U right) is false exactly on the largest set of states that goes on: at each the right value is 0, and the left value is 0
-- or a successor belongs to it.
use mathlib.Core.Path.{◌≡◌, refl, sym, ap, ◌∙◌, subst}
use Prim.Native.Nat.{ℕ, zero, suc, ◌≤◌, ◌<◌, min}
use mathlib.Core.List.{List, map}
use mathlib.Core.Bool.{true}
use mathlib.Core.Logic.{◌⊎◌, inl, inr, ⊎_elim}
use native.Mathlib.Omega.{arith}
use native.Mathlib.Nat.{eq-zero-or-pos}
use Rattle.lists.specs.Choosing.{best}
use Rattle.lists.specs.Entries.{at}
use Rattle.lists.proofs.Choosing.{best_bounds}
use Rattle.kripke.specs.Transitions.{Edge, Graph, succs}
use Rattle.kripke.specs.Until.{step, until}
use Rattle.kripke.proofs.EndlessPaths.{chosen}
use Rattle.kripke.proofs.Rest.{settled}
use Rattle.kripke.proofs.Steps.{until_one, until_step}
use Rattle.kripke.proofs.Successors.{edge_state, edge_succ}
use Rattle.pictures.specs.Inside.{Goes}

module _ (S : ℕ) (es : List ℕ) (G : Graph S es) (L R : List ℕ) where
  -- A over walks of n states
  abbrev A : ℕ → ℕ → ℕ
  A n s = until true es L R n s

  -- a set that goes on lies within, over walks of any length
  module _ (P : ℕ → Type 0) (inside : (s : ℕ) → P s → s < S) (low : (s : ℕ) → P s → at R s ≡ 0) (goes : (s : ℕ) → P s → Goes es (at L) P s) where
    goes_low : (n s : ℕ) → P s → A (suc n) s ≡ 0
    goes_low zero s p = until_one true es L R s ∙ low s p
    goes_low (suc n) s p = until_step true S es G L R n s (inside s p) ∙ ⊎_elim fallen (λ x. further x.0 x.1 (goes_low n x.0 x.2)) (goes s p)
      where
        fallen : at L s ≡ 0 → step (at L s) (at R s) (best min (map (A (suc n)) (succs es s))) ≡ 0
        fallen l = omega (arith, low s p)

        further : (t : ℕ) → Edge es s t → A (suc n) t ≡ 0 → step (at L s) (at R s) (best min (map (A (suc n)) (succs es s))) ≡ 0
        further t e z =
            let b : best min (map (A (suc n)) (succs es s)) ≤ A (suc n) t = best_bounds min (A (suc n)) (λ (x y : ℕ). x ≤ y) (λ a. omega arith) (λ a b c k. omega arith) (λ a b. omega arith) (succs es s) t (edge_succ es s t e) in
            omega (arith, low s p)

    pub goes_false : (s : ℕ) → P s → A S s ≡ 0
    goes_false s p = go S refl
      where
        go : (k : ℕ) → S ≡ k → A S s ≡ 0
        go zero e = absurd (omega (arith, inside s p))
        go (suc m) e = subst (λ (k : ℕ). A k s ≡ 0) (sym e) (goes_low m s p)

  -- s is a state where it is false
  abbrev pub False : ℕ → Type 0
  False s = (s < S) × (A S s ≡ 0)

  -- and these states go on
  module _ (s : ℕ) (f : False s) where
    step_zero : (l r v : ℕ) → step l r v ≡ 0 → (r ≡ 0) × ((l ≡ 0) ⊎ (v ≡ 0))
    step_zero l r v e = (omega arith, ⊎_elim inl (λ (k : 0 < l). inr (omega arith)) (eq-zero-or-pos l))

    worst : (t : ℕ) × Edge es s t × (A S s ≡ step (at L s) (at R s) (A S t))
    worst = let c = chosen S es G true L R (A S) s f.0 in (c.0, c.1, settled true S es G L R s f.0 ∙ ap (step (at L s) (at R s)) c.2)

    pub false_low : at R s ≡ 0
    false_low = (step_zero (at L s) (at R s) _ (sym worst.2 ∙ f.1)).0

    pub false_goes : Goes es (at L) False s
    false_goes = ⊎_elim inl (λ v. inr (worst.0, worst.1, (edge_state S es G s worst.0 worst.1, v))) (step_zero (at L s) (at R s) _ (sym worst.2 ∙ f.1)).1
