-- A formula names an atom exactly if a node of its list does.
use Prim.Native.Nat.{ℕ, ◌+◌, ◌-◌, ◌<◌, ◌≤◌}
use mathlib.Core.Path.{◌≡◌, sym, ◌∙◌, refl}
use mathlib.Core.List.{List}
use mathlib.Core.Logic.{inl, inr}
use native.Mathlib.Omega.{arith}
use Rattle.model.specs.Model.{kind_at, left_at}
use Rattle.formula.specs.Tree.{Prefix, Pair, Formula, TRUE, ATOM, one, two, size, Names}
use Rattle.formula.specs.Nodes.{prefix_kind, pair_kind, nodes_of}
use Rattle.formula.specs.InsidePrinting.{Stands}
use Rattle.formula.proofs.EachPart.{part_ends}
use Rattle.formula.proofs.Operators.{each_prefix, each_pair}
use Rattle.formula.proofs.PrintingLaws.{whole_part}
use Rattle.formula.proofs.Sizes.{size_some}
use Rattle.formula.proofs.Standing.{part_stands, stands_whole}

-- a node up to k that names a
abbrev NamedUpto : List ℕ → ℕ → ℕ → Type 0
NamedUpto nodes k a = (i : ℕ) × (i ≤ k) × (kind_at nodes i ≡ 1) × (left_at nodes i ≡ a)

later : (nodes : List ℕ) (k k' a : ℕ) → k ≤ k' → NamedUpto nodes k a → NamedUpto nodes k' a
later nodes k k' a h n = (n.0, omega (arith, h, n.1), n.2, n.3)

named_upto : (nodes : List ℕ) (f : Formula) (k first a : ℕ) → Stands nodes k first f → Names f a → NamedUpto nodes k a
unfolding Stands Names
named_upto nodes TRUE k first a s n = absurd n
named_upto nodes (ATOM b) k first a s n = (k, omega arith, s.0.kind, s.0.left ∙ n)
named_upto nodes (one p f) k first a s n = later nodes (k - 1) k a (omega arith) (named_upto nodes f (k - 1) first a s.1.1 n)
named_upto nodes (two q f g) k first a s (inl n) =
    let w = stands_whole nodes g (k - 1) (s.1.0 + 1) s.1.1.1.1 in
    later nodes s.1.0 k a (omega (arith, s.0, w)) (named_upto nodes f s.1.0 first a s.1.1.1.0 n)
named_upto nodes (two q f g) k first a s (inr n) = later nodes (k - 1) k a (omega arith) (named_upto nodes g (k - 1) (s.1.0 + 1) a s.1.1.1.1 n)

pub named_node : (f : Formula) (a : ℕ) → Names f a → (i : ℕ) × (i < size f) × (kind_at (nodes_of f) i ≡ 1) × (left_at (nodes_of f) i ≡ a)
named_node f a n =
    let some = size_some f in
    let s = part_stands (nodes_of f) f (size f - 1) 0 (whole_part (nodes_of f) (size f - 1) f (omega arith) refl) in
    let found = named_upto (nodes_of f) f (size f - 1) 0 a s n in
    (found.0, omega (arith, found.1), found.2, found.3)

-- no other kind is that of an atom
prefix_other : (p : Prefix) → prefix_kind p ≡ 1 → ⊥
prefix_other = each_prefix (λ (p : Prefix). prefix_kind p ≡ 1 → ⊥) (λ e. omega arith) (λ e. omega arith) (λ e. omega arith) (λ e. omega arith) (λ e. omega arith) (λ e. omega arith) (λ e. omega arith)

pair_other : (q : Pair) → pair_kind q ≡ 1 → ⊥
pair_other = each_pair (λ (q : Pair). pair_kind q ≡ 1 → ⊥) (λ e. omega arith) (λ e. omega arith) (λ e. omega arith) (λ e. omega arith) (λ e. omega arith)

names_itself : (nodes : List ℕ) (j first a : ℕ) (g : Formula) → Stands nodes j first g → kind_at nodes j ≡ 1 → left_at nodes j ≡ a → Names g a
unfolding Stands Names
names_itself nodes j first a TRUE s k l = absurd (omega (arith, k, s.0.kind))
names_itself nodes j first a (ATOM b) s k l = sym s.0.left ∙ l
names_itself nodes j first a (one p g) s k l = absurd (prefix_other p (sym s.1.0.kind ∙ k))
names_itself nodes j first a (two q g h) s k l = absurd (pair_other q (sym s.1.1.0.kind ∙ k))

pub node_named : (f : Formula) (a j : ℕ) → j < size f → kind_at (nodes_of f) j ≡ 1 → left_at (nodes_of f) j ≡ a → Names f a
node_named f a j h k l = let p = part_ends f j h in p.names a (names_itself (nodes_of f) j p.first a p.part p.stands k l)
