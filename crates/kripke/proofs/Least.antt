-- E and A are the least solutions of their equation: right, or left and the best of the successors.
use mathlib.Core.Path.{◌≡◌, sym, ap, ◌∙◌, subst}
use Prim.Native.Nat.{ℕ, zero, suc, ◌≤◌, ◌<◌}
use mathlib.Core.List.{List}
use mathlib.Core.Bool.{Bool}
use native.Mathlib.Omega.{arith}
use native.Mathlib.Nat.{le_trans}
use native.Mathlib.Numerals.{add-one}
use Rattle.kripke.specs.Transitions.{Graph, succs}
use Rattle.kripke.specs.Until.{next, step, until}
use Rattle.values.specs.Values.{choose}
use Rattle.lists.specs.Choosing.{best}
use Rattle.lists.specs.Entries.{at}
use Rattle.lists.specs.Rows.{tab}
use Rattle.kripke.proofs.Rest.{choose_mono, enough, settled, step_mono}
use Rattle.kripke.proofs.Steps.{until_one, until_step}
use Rattle.kripke.proofs.Successors.{succs_states}
use Rattle.lists.proofs.Choosing.{best_related}
use Rattle.lists.proofs.Entries.{all_weaken, map_all}
use Rattle.lists.proofs.Rows.{tab_at}

module _ (all : Bool) (S : ℕ) (es : List ℕ) (G : Graph S es) (L R : List ℕ) where
  -- they solve it
  pub solves : (s : ℕ) → s < S → until all es L R S s ≡ step (at L s) (at R s) (next all es (tab (until all es L R S) S) s)
  unfolding next
  solves s h =
      settled all S es G L R s h
      ∙ ap (λ (vs : List ℕ). step (at L s) (at R s) (best (choose all) vs)) (sym (map_all (λ (t : ℕ). t < S) (at (tab (until all es L R S) S)) (until all es L R S) (tab_at (until all es L R S) S) (succs es s) (succs_states S es G s)))

  -- no row that the equation does not raise is smaller, over walks of any length
  below : (X : List ℕ) → ((s : ℕ) → s < S → step (at L s) (at R s) (next all es X s) ≤ at X s) → (n s : ℕ) → s < S → until all es L R (suc n) s ≤ at X s
  unfolding next
  below X h zero s l = rw (until_one all es L R s) (omega (arith, h s l))
  below X h (suc n) s l =
      rw (until_step all S es G L R n s l)
      (le_trans
      (step_mono (at L s) (at R s) _ _
      (best_related (choose all) (until all es L R (suc n)) (at X) (λ (a b : ℕ). a ≤ b) (omega arith) (choose_mono all) (succs es s)
      (all_weaken (λ (t : ℕ). t < S) (λ (t : ℕ). until all es L R (suc n) t ≤ at X t) (below X h n) (succs es s) (succs_states S es G s))))
      (h s l))

  pub least : (X : List ℕ) → ((s : ℕ) → s < S → step (at L s) (at R s) (next all es X s) ≤ at X s) → (s : ℕ) → s < S → until all es L R S s ≤ at X s
  least X h s l = subst (λ (v : ℕ). v ≤ at X s) (sym (enough all S es G L R 1 s l ∙ ap (λ (k : ℕ). until all es L R k s) (add-one S))) (below X h S s l)
