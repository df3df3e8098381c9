-- What a node tells of the formula that ends there, by how many operands its kind has.
use Prim.Native.Nat.{ℕ, ◌+◌, ◌-◌, ◌<◌}
use mathlib.Core.Path.{◌≡◌, refl, ap, sym, ◌∙◌, subst}
use mathlib.Core.List.{List}
use native.Mathlib.Omega.{arith}
use Rattle.formula.specs.Tree.{Prefix, Pair, Formula, TRUE, ATOM, one, two}
use Rattle.model.specs.Kinds.{kind_of}
use Rattle.model.specs.declared.kinds.Kind.TheVariants.{True, Atom}
use Rattle.formula.specs.declared.parts.Node.{Node}
use Rattle.formula.specs.InsidePrinting.{prefix, pair, sort_of, takes, NodeAt, Stands}
use Rattle.formula.proofs.Sorts.{sort_in, stands_sort, kind_told, true_kind, atom_kind}

pub node_sort : (nodes : List ℕ) (k first : ℕ) (node : Node) (f : Formula) → NodeAt nodes k node → Stands nodes k first f → sort_of node.kind ≡ sort_in f
node_sort nodes k first node f t s = ap sort_of (sym (kind_told node.kind) ∙ ap kind_of (sym t.kind)) ∙ stands_sort nodes f k first s

-- no operand: true, or an atom
pub data LeafRoot (node : Node) (f : Formula) : Type 0 where
  is_truth : f ≡ TRUE → node.kind ≡ True → node.left ≡ 0 → node.right ≡ 0 → LeafRoot node f
  is_atom : f ≡ ATOM node.left → node.kind ≡ Atom → node.right ≡ 0 → LeafRoot node f

pub leaf_root : (nodes : List ℕ) (k first : ℕ) (node : Node) (f : Formula) → takes (sort_of node.kind) ≡ 0 → NodeAt nodes k node → Stands nodes k first f → LeafRoot node f
unfolding Stands sort_in
leaf_root nodes k first node TRUE e t s = is_truth refl (true_kind node.kind (sym t.kind ∙ s.0.kind)) (sym t.left ∙ s.0.left) (sym t.right ∙ s.0.right)
leaf_root nodes k first node (ATOM a) e t s = is_atom (ap ATOM (sym s.0.left ∙ t.left)) (atom_kind node.kind (sym t.kind ∙ s.0.kind)) (sym t.right ∙ s.0.right)
leaf_root nodes k first node (one p f) e t s = absurd (omega (arith, e, ap takes (node_sort nodes k first node (one p f) t s)))
leaf_root nodes k first node (two q f g) e t s = absurd (omega (arith, e, ap takes (node_sort nodes k first node (two q f g) t s)))

-- one operand: it is the node before
pub record PrefixRoot (nodes : List ℕ) (k first : ℕ) (node : Node) (f : Formula) : Type 0 where
  pub sign : Prefix
  pub under : Formula
  pub whole : f ≡ one sign under
  pub sort : sort_of node.kind ≡ prefix sign
  pub later : 0 < k
  pub left : node.left ≡ k - 1
  pub right : node.right ≡ 0
  pub stands : Stands nodes (k - 1) first under

pub prefix_root : (nodes : List ℕ) (k first : ℕ) (node : Node) (f : Formula) → takes (sort_of node.kind) ≡ 1 → NodeAt nodes k node → Stands nodes k first f → PrefixRoot nodes k first node f
unfolding Stands sort_in
prefix_root nodes k first node TRUE e t s = absurd (omega (arith, e, ap takes (node_sort nodes k first node TRUE t s)))
prefix_root nodes k first node (ATOM a) e t s = absurd (omega (arith, e, ap takes (node_sort nodes k first node (ATOM a) t s)))
prefix_root nodes k first node (one p f) e t s = record {
  sign = p;
  under = f;
  whole = refl;
  sort = node_sort nodes k first node (one p f) t s;
  later = s.0;
  left = sym t.left ∙ s.1.0.left;
  right = sym t.right ∙ s.1.0.right;
  stands = s.1.1;
}
prefix_root nodes k first node (two q f g) e t s = absurd (omega (arith, e, ap takes (node_sort nodes k first node (two q f g) t s)))

-- two operands: the right one is the node before, and the left one ends where that begins
pub record PairRoot (nodes : List ℕ) (k first : ℕ) (node : Node) (f : Formula) : Type 0 where
  pub join : Pair
  pub one_side : Formula
  pub other_side : Formula
  pub whole : f ≡ two join one_side other_side
  pub sort : sort_of node.kind ≡ pair join
  pub later : 0 < k
  pub right : node.right ≡ k - 1
  pub one_stands : Stands nodes node.left first one_side
  pub other_stands : Stands nodes (k - 1) (node.left + 1) other_side

pub pair_root : (nodes : List ℕ) (k first : ℕ) (node : Node) (f : Formula) → takes (sort_of node.kind) ≡ 2 → NodeAt nodes k node → Stands nodes k first f → PairRoot nodes k first node f
unfolding Stands sort_in
pair_root nodes k first node TRUE e t s = absurd (omega (arith, e, ap takes (node_sort nodes k first node TRUE t s)))
pair_root nodes k first node (ATOM a) e t s = absurd (omega (arith, e, ap takes (node_sort nodes k first node (ATOM a) t s)))
pair_root nodes k first node (one p f) e t s = absurd (omega (arith, e, ap takes (node_sort nodes k first node (one p f) t s)))
pair_root nodes k first node (two q f g) e t s =
    let i : s.1.0 ≡ node.left = sym s.1.1.0.left ∙ t.left in
    record {
      join = q;
      one_side = f;
      other_side = g;
      whole = refl;
      sort = node_sort nodes k first node (two q f g) t s;
      later = s.0;
      right = sym t.right ∙ s.1.1.0.right;
      one_stands = subst (λ (x : ℕ). Stands nodes x first f) i s.1.1.1.0;
      other_stands = subst (λ (x : ℕ). Stands nodes (k - 1) (x + 1) g) i s.1.1.1.1;
    }
