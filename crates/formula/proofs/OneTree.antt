-- At most one formula ends at a node of a list: the node's own numbers tell it.
use Prim.Native.Nat.{ℕ, zero, suc, ◌+◌, ◌-◌, ◌*◌, ◌≤◌}
use mathlib.Core.Path.{◌≡◌, ap, ap₂, sym, ◌∙◌}
use mathlib.Core.List.{List}
use native.Mathlib.Omega.{arith}
use Rattle.lists.specs.Entries.{at}
use Rattle.model.specs.Kinds.{kind_of}
use Rattle.formula.specs.Tree.{Formula, TRUE, ATOM, one, two, size}
use Rattle.formula.specs.Answers.{PartAt}
use Rattle.formula.specs.InsidePrinting.{Sort, truth, atom, prefix, pair, sort_of, Triple, Stands}
use Rattle.formula.proofs.Sizes.{size_some}
use Rattle.formula.proofs.Standing.{stands_whole, part_stands}
use Rattle.formula.proofs.Sorts.{sort_in, stands_sort}

-- the formula that a node's numbers tell, from its left number and from what its operands tell
abbrev grown : Sort → ℕ → Formula → Formula → Formula
grown truth a f g = TRUE
grown atom a f g = ATOM a
grown (prefix p) a f g = one p f
grown (pair q) a f g = two q f g

unfoldable told : ℕ → List ℕ → ℕ → Formula
told zero nodes k = TRUE
told (suc n) nodes k = grown (sort_of (kind_of (at nodes (3 * k)))) (at nodes (3 * k + 1)) (told n nodes (at nodes (3 * k + 1))) (told n nodes (at nodes (3 * k + 2)))

by_sort : (n : ℕ) (nodes : List ℕ) (f : Formula) (k first : ℕ) → Stands nodes k first f
    → told (suc n) nodes k ≡ grown (sort_in f) (at nodes (3 * k + 1)) (told n nodes (at nodes (3 * k + 1))) (told n nodes (at nodes (3 * k + 2)))
unfolding told
by_sort n nodes f k first s = ap (λ (x : Sort). grown x (at nodes (3 * k + 1)) (told n nodes (at nodes (3 * k + 1))) (told n nodes (at nodes (3 * k + 2)))) (stands_sort nodes f k first s)

told_stands : (n : ℕ) (nodes : List ℕ) (f : Formula) (k first : ℕ) → size f ≤ n → Stands nodes k first f → told n nodes k ≡ f
unfolding Stands size sort_in
told_stands zero nodes f k first h s = absurd (omega (arith, size_some f))
told_stands (suc n) nodes TRUE k first h s = by_sort n nodes TRUE k first s
told_stands (suc n) nodes (ATOM a) k first h s = by_sort n nodes (ATOM a) k first s ∙ ap ATOM s.0.left
told_stands (suc n) nodes (one p f) k first h s =
    by_sort n nodes (one p f) k first s ∙ ap (one p) (ap (told n nodes) s.1.0.left ∙ told_stands n nodes f (k - 1) first (omega arith) s.1.1)
told_stands (suc n) nodes (two q f g) k first h s =
    let i : ℕ = s.1.0 in
    let t : Triple nodes k _ i (k - 1) = s.1.1.0 in
    by_sort n nodes (two q f g) k first s
    ∙ ap₂ (two q)
    (ap (told n nodes) t.left ∙ told_stands n nodes f i first (omega arith) s.1.1.1.0)
    (ap (told n nodes) t.right ∙ told_stands n nodes g (k - 1) (i + 1) (omega arith) s.1.1.1.1)

pub stands_one : (nodes : List ℕ) (k a b : ℕ) (f g : Formula) → Stands nodes k a f → Stands nodes k b g → (f ≡ g) × (a ≡ b)
stands_one nodes k a b f g s t =
    let n = size f + size g in
    let e : f ≡ g = sym (told_stands n nodes f k a (omega arith) s) ∙ told_stands n nodes g k b (omega arith) t in
    (e, omega (arith, stands_whole nodes f k a s, stands_whole nodes g k b t, ap size e))

-- what prints is the list of exactly one tree
pub part_one : {nodes : List ℕ} {k a b : ℕ} {f g : Formula} → PartAt nodes k a f → PartAt nodes k b g → (f ≡ g) × (a ≡ b)
part_one {nodes} {k} {a} {b} {f} {g} p q = stands_one nodes k a b f g (part_stands nodes f k a p) (part_stands nodes g k b q)
