-- Rounds over a graph: a family of rows, each made from the successors' values in the one before, that has come to rest stays so.
use mathlib.Core.Path.{◌≡◌, sym, ap, ◌∙◌}
use Prim.Native.Nat.{ℕ, zero, suc, ◌+◌, ◌<◌}
use mathlib.Core.List.{List, map}
use native.Mathlib.Omega.{arith}
use Rattle.kripke.specs.Transitions.{Graph, succs}
use Rattle.kripke.proofs.Successors.{succs_states}
use Rattle.lists.proofs.Entries.{map_all}

module _ (S : ℕ) (es : List ℕ) (G : Graph S es) (F : ℕ → ℕ → ℕ) (made : ℕ → List ℕ → ℕ) (rounds : (n s : ℕ) → s < S → F (suc n) s ≡ made s (map (F n) (succs es s))) where
  -- round n + 1 changes nothing
  abbrev pub Rests : ℕ → Type 0
  Rests n = (s : ℕ) → s < S → F n s ≡ F (suc n) s

  pub rests_on : (n : ℕ) → Rests n → Rests (suc n)
  rests_on n r s h = rounds n s h ∙ ap (made s) (map_all (λ (t : ℕ). t < S) (F n) (F (suc n)) r (succs es s) (succs_states S es G s)) ∙ sym (rounds (suc n) s h)

  pub rests_after : (d n : ℕ) → Rests n → (s : ℕ) → s < S → F n s ≡ F (n + d) s
  rests_after zero n r s h = let e : n ≡ n + 0 = omega arith in ap (λ (k : ℕ). F k s) e
  rests_after (suc d) n r s h = let e : suc n + d ≡ n + suc d = omega arith in r s h ∙ rests_after d (suc n) (rests_on n r) s h ∙ ap (λ (k : ℕ). F k s) e
