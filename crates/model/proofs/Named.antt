-- Which node names an atom: what the test says of a node, and of all of them.
use mathlib.Core.Path.{◌≡◌, sym, ap, ◌∙◌}
use Prim.Native.Nat.{ℕ, ◌<◌}
use mathlib.Core.List.{List}
use mathlib.Core.Bool.{Bool, true, false, ◌&&◌, true≢false}
use lib.Dec.{eqb}
use borrow.Author.Tests.{eq-eqb, ne_eqb, eqb-true, not-false, not-true}
use Rattle.model.specs.Model.{kind_at, left_at, node_count}
use Rattle.model.specs.Refusals.{names, unnamed}
use Rattle.lists.proofs.Search.{any_none, any_where}
use Rattle.lists.proofs.Tests.{and_both, and_fails, and_parts}

-- a node of another kind names nothing, whatever its numbers are
pub other_kind : (ns : List ℕ) (a i : ℕ) → (kind_at ns i ≡ 1 → ⊥) → names ns a i ≡ false
unfolding names
other_kind ns a i n = and_fails _ _ (ne_eqb _ _ n)

-- a node of kind 1 names what its left number is, and nothing else
pub naming : (ns : List ℕ) (a i : ℕ) → kind_at ns i ≡ 1 → left_at ns i ≡ a → names ns a i ≡ true
unfolding names
naming ns a i k e = and_both _ _ (eq-eqb _ _ k) (eq-eqb _ _ e)

pub other_atom : (ns : List ℕ) (a i : ℕ) → kind_at ns i ≡ 1 → (left_at ns i ≡ a → ⊥) → names ns a i ≡ false
unfolding names
other_atom ns a i k n = ap (λ (b : Bool). b && eqb (left_at ns i) a) (eq-eqb _ _ k) ∙ ne_eqb _ _ n

-- an atom that is not unnamed stands in a node of kind 1
pub named_there : (ns : List ℕ) (a : ℕ) → unnamed ns a ≡ false → (i : ℕ) × (i < node_count ns) × (kind_at ns i ≡ 1) × (left_at ns i ≡ a)
unfolding names
named_there ns a e =
    let found = any_where (names ns a) (node_count ns) (not-false _ e) in
    let both = and_parts _ _ found.2 in
    (found.0, found.1, eqb-true _ _ both.0, eqb-true _ _ both.1)

-- and an unnamed one in none
pub named_nowhere : (ns : List ℕ) (a : ℕ) → unnamed ns a ≡ true → (i : ℕ) → i < node_count ns → kind_at ns i ≡ 1 → left_at ns i ≡ a → ⊥
named_nowhere ns a e i h k l = true≢false (sym (naming ns a i k l) ∙ any_none (names ns a) (node_count ns) (not-true _ e) i h)
