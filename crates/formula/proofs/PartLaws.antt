-- The formula that ends at a node, from its node's numbers and what ends at its operands.
use Prim.Native.Nat.{ℕ, ◌+◌, ◌-◌, ◌*◌, ◌<◌, ◌≤◌}
use mathlib.Core.Path.{◌≡◌, refl, ap, sym, ◌∙◌, subst}
use mathlib.Core.List.{List}
use native.Mathlib.Omega.{arith}
use lib.ListN.{length}
use Rattle.values.specs.Limits.{greatest_kind, most_atoms, most_nodes}
use Rattle.values.specs.Signs.{decimal}
use Rattle.lists.specs.Entries.{at}
use Rattle.model.specs.Kinds.{kind_number}
use Rattle.model.specs.declared.kinds.Kind.TheVariants.{True, Atom}
use Rattle.formula.specs.Tree.{Formula, TRUE, ATOM, one, two, Named, AtomsBelow}
use Rattle.formula.specs.Text.{text_of}
use Rattle.formula.specs.declared.parts.Node.{Node}
use Rattle.std.specs.Prelude.{Some, None}
use Rattle.formula.specs.InsidePrinting.{sort_of, takes, signs, NodeAt, Stands, Inside, Ended, NoneEnded, LeafFound, PrefixAsked, PrefixFound}
use Rattle.formula.proofs.Sizes.{length_prefixed, length_joined, text_short}
use Rattle.formula.proofs.Standing.{stands_whole}
use Rattle.formula.proofs.Sorts.{sort_in, stands_known, one_operand, two_operands}
use Rattle.formula.proofs.OneTree.{stands_one}
use Rattle.formula.proofs.Roots.{node_sort, LeafRoot, is_truth, is_atom, leaf_root, prefix_root, PairRoot, pair_root}

-- how long its text can be, and that it begins no later than it ends
pub found_short : {nodes : List ℕ} {k first bytes : ℕ} → Inside nodes k → Ended nodes k first bytes → bytes ≤ 6 * most_nodes
found_short {nodes} {k} {first} inside f = omega (arith, f.long, text_short f.formula, stands_whole nodes f.formula k first f.stands, inside.there, inside.few)

pub found_begins : {nodes : List ℕ} {k first bytes : ℕ} → Ended nodes k first bytes → first ≤ k + 1
found_begins {nodes} {k} {first} f = omega (arith, stands_whole nodes f.formula k first f.stands)

-- ---- no operand

module _ (node : Node) (k : ℕ) where
  leaf_none : takes (sort_of node.kind) ≡ 0 → ((f : Formula) → Named f → LeafRoot node f → ⊥) → LeafFound node k None
  leaf_none e h = record { tells = λ nodes t. (λ f first named s. h f named (leaf_root nodes k first node f e t s)) }

  pub leaf_right : takes (sort_of node.kind) ≡ 0 → (node.right ≡ 0 → ⊥) → LeafFound node k None
  leaf_right e h = leaf_none e (λ f named r. go f r)
    where
      go : (f : Formula) → LeafRoot node f → ⊥
      go f (is_truth w a b c) = h c
      go f (is_atom w a c) = h c

  pub leaf_high : takes (sort_of node.kind) ≡ 0 → node.kind ≡ Atom → most_atoms ≤ node.left → LeafFound node k None
  unfolding AtomsBelow
  leaf_high e one-kind h = leaf_none e go
    where
      go : (f : Formula) → Named f → LeafRoot node f → ⊥
      go f named (is_truth w a b c) = omega arith
      go f named (is_atom w a c) = let low : node.left < most_atoms = subst Named w named in omega arith

  pub leaf_left : takes (sort_of node.kind) ≡ 0 → (node.kind ≡ Atom → ⊥) → (node.left ≡ 0 → ⊥) → LeafFound node k None
  leaf_left e other h = leaf_none e (λ f named r. go f r)
    where
      go : (f : Formula) → LeafRoot node f → ⊥
      go f (is_truth w a b c) = h b
      go f (is_atom w a c) = other a

  pub leaf_atom : {bytes : ℕ} → node.kind ≡ Atom → node.right ≡ 0 → node.left < most_atoms → bytes ≡ length (decimal node.left) + 1 → LeafFound node k (Some (record { first = k; bytes = bytes }))
  unfolding Stands AtomsBelow text_of
  leaf_atom one-kind none low e = record {
    tells = λ nodes t. record {
      formula = ATOM node.left;
      named = low;
      stands = (record { kind = t.kind ∙ ap kind_number one-kind; left = t.left; right = t.right ∙ none }, refl);
      long = omega arith;
    };
  }

  pub leaf_true : node.kind ≡ True → node.left ≡ 0 → node.right ≡ 0 → LeafFound node k (Some (record { first = k; bytes = 1 }))
  unfolding Stands AtomsBelow text_of
  leaf_true a b c = record {
    tells = λ nodes t. record {
      formula = TRUE;
      named = tt;
      stands = (record { kind = t.kind ∙ ap kind_number a; left = t.left ∙ b; right = t.right ∙ c }, refl);
      long = refl;
    };
  }

-- ---- some operand: no formula ends at the first node, or where none ends at the node before

pub unread_none : (nodes : List ℕ) (k : ℕ) → greatest_kind < at nodes (3 * k) → NoneEnded nodes k
unread_none nodes k h f first named s = omega (arith, h, stands_known nodes f k first s)

pub first_none : (nodes : List ℕ) (k : ℕ) (node : Node) → (takes (sort_of node.kind) ≡ 0 → ⊥) → k ≡ 0 → NodeAt nodes k node → NoneEnded nodes k
unfolding Stands sort_in
first_none nodes k node h e t = go
  where
    go : (f : Formula) (first : ℕ) → Named f → Stands nodes k first f → ⊥
    go TRUE first named s = h (ap takes (node_sort nodes k first node TRUE t s))
    go (ATOM a) first named s = h (ap takes (node_sort nodes k first node (ATOM a) t s))
    go (one p f) first named s = omega (arith, s.0)
    go (two q f g) first named s = omega (arith, s.0)

pub before_none : (nodes : List ℕ) (k : ℕ) (node : Node) → (takes (sort_of node.kind) ≡ 0 → ⊥) → ((f : Formula) (first : ℕ) → Named f → Stands nodes (k - 1) first f → ⊥) → NodeAt nodes k node → NoneEnded nodes k
unfolding Stands sort_in AtomsBelow
before_none nodes k node h none t = go
  where
    go : (f : Formula) (first : ℕ) → Named f → Stands nodes k first f → ⊥
    go TRUE first named s = h (ap takes (node_sort nodes k first node TRUE t s))
    go (ATOM a) first named s = h (ap takes (node_sort nodes k first node (ATOM a) t s))
    go (one p f) first named s = none f first named s.1.1
    go (two q f g) first named s = none g (s.1.0 + 1) named.1 s.1.1.1.1

-- ---- one operand

module _ (node : Node) (k first bytes : ℕ) (asked : PrefixAsked node k bytes) where
  pub prefix_right : (node.right ≡ 0 → ⊥) → PrefixFound node k first bytes None
  prefix_right h = record { tells = λ nodes t found. (λ f first' named s. h (prefix_root nodes k first' node f asked.takes_one t s).right) }

  pub prefix_left : (node.left ≡ k - 1 → ⊥) → PrefixFound node k first bytes None
  prefix_left h = record { tells = λ nodes t found. (λ f first' named s. h (prefix_root nodes k first' node f asked.takes_one t s).left) }

  pub prefix_of : {size : ℕ} → node.right ≡ 0 → node.left ≡ k - 1 → size ≡ signs (sort_of node.kind) → PrefixFound node k first bytes (Some (record { first = first; bytes = bytes + size }))
  unfolding Stands AtomsBelow
  prefix_of none before e =
      let p = one_operand node.kind asked.takes_one in
      record {
        tells = λ nodes t found. record {
          formula = one p.sign found.formula;
          named = found.named;
          stands = (asked.later, (record { kind = t.kind ∙ p.number; left = t.left ∙ before; right = t.right ∙ none }, found.stands));
          long = omega (arith, found.long, e, ap signs p.sort, length_prefixed p.sign found.formula);
        };
      }

-- ---- two operands

-- a node with two, and what ends at the node before it
pub record PairCase (nodes : List ℕ) (k : ℕ) (node : Node) (first bytes : ℕ) : Type 0 where
  pub inside : Inside nodes k
  pub two_taken : takes (sort_of node.kind) ≡ 2
  pub here : NodeAt nodes k node
  pub later : 0 < k
  pub found : Ended nodes (k - 1) first bytes

module _ {nodes : List ℕ} {k first bytes : ℕ} {node : Node} (p : PairCase nodes k node first bytes) where
  root : (f : Formula) (begin : ℕ) → Stands nodes k begin f → PairRoot nodes k begin node f
  root f begin s = pair_root nodes k begin node f p.two_taken p.here s

  pub pair_right : (node.right ≡ k - 1 → ⊥) → NoneEnded nodes k
  pair_right h = (λ f begin named s. h (root f begin s).right)

  pub pair_apart : (node.left + 1 ≡ first → ⊥) → NoneEnded nodes k
  pair_apart h =
      (λ f begin named s.
      let r = root f begin s in
      h (stands_one nodes (k - 1) (node.left + 1) first r.other_side p.found.formula r.other_stands p.found.stands).1)

  pub pair_none : ((f : Formula) (begin : ℕ) → Named f → Stands nodes node.left begin f → ⊥) → NoneEnded nodes k
  unfolding AtomsBelow
  pair_none none =
      (λ f begin named s.
      let r = root f begin s in
      let both : Named (two r.join r.one_side r.other_side) = subst Named r.whole named in
      none r.one_side begin both.0 r.one_stands)

  pub left_inside : node.left + 1 ≡ first → (node.left < k) × Inside nodes node.left
  left_inside e =
      let less : node.left < k = omega (arith, found_begins p.found, p.later) in
      (less, record { there = omega (arith, p.inside.there); few = p.inside.few })

  pub sides_short : {begin left : ℕ} → node.left + 1 ≡ first → Ended nodes node.left begin left → left + bytes ≤ 12 * most_nodes
  sides_short e one_Found =
      let last : Inside nodes (k - 1) = record { there = omega (arith, p.inside.there); few = p.inside.few } in
      omega (arith, found_short last p.found, found_short (left_inside e).1 one_Found)

  pub pair_of : {begin left size : ℕ} → node.right ≡ k - 1 → node.left + 1 ≡ first → Ended nodes node.left begin left
      → size ≡ signs (sort_of node.kind) → Ended nodes k begin (left + bytes + size)
  unfolding Stands AtomsBelow
  pair_of last next one_Found e =
      let q = two_operands node.kind p.two_taken in
      let t = p.here in
      let other = p.found in
      record {
        formula = two q.join one_Found.formula other.formula;
        named = (one_Found.named, other.named);
        stands = (
          p.later,
          (
            node.left,
            (
              record { kind = t.kind ∙ q.number; left = t.left; right = t.right ∙ last },
              (one_Found.stands, subst (λ (x : ℕ). Stands nodes (k - 1) x other.formula) (sym next) other.stands),
            ),
          ),
        );
        long = omega (arith, other.long, one_Found.long, e, ap signs q.sort, length_joined q.join one_Found.formula other.formula);
      }
