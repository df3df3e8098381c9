-- The text of a formula put piece by piece: that the space has room for each piece, and that together they are the text.
use Prim.Native.Nat.{ℕ, ◌+◌, ◌-◌, ◌*◌, ◌<◌, ◌≤◌}
use mathlib.Core.Path.{◌≡◌, ap, sym, ◌∙◌, subst}
use mathlib.Core.List.{List, ◌++◌}
use native.Mathlib.Omega.{arith}
use lib.ListN.{length}
use Rattle.lists.specs.Rows.{Put}
use Rattle.lists.proofs.Placed.{put_then}
use Rattle.lists.specs.Entries.{at}
use Rattle.values.specs.Limits.{greatest_kind}
use Rattle.model.specs.declared.kinds.Kind.{Kind}
use Rattle.formula.specs.Tree.{Formula, TRUE, ATOM, one, two}
use Rattle.formula.specs.Text.{text_of}
use Rattle.formula.specs.declared.parts.Node.{Node}
use Rattle.formula.specs.InsidePrinting.{Sort, sort_of, takes, front, leaf_text, NodeAt, Stands, LeafFits, Writable, Written}
use Rattle.formula.proofs.Sizes.{length_prefixed, length_joined}
use Rattle.formula.proofs.Sorts.{sort_in, stands_known}
use Rattle.formula.proofs.Roots.{node_sort, LeafRoot, is_truth, is_atom, leaf_root, PrefixRoot, prefix_root}

-- ---- no operand

leaf_text_lem : (nodes : List ℕ) (k first : ℕ) (node : Node) (f : Formula) → takes (sort_of node.kind) ≡ 0 → NodeAt nodes k node → Stands nodes k first f
    → text_of f ≡ leaf_text (sort_of node.kind) node.left
unfolding text_of
leaf_text_lem nodes k first node f e t s = go (leaf_root nodes k first node f e t s)
  where
    go : LeafRoot node f → text_of f ≡ leaf_text (sort_of node.kind) node.left
    go (is_truth w a b c) = ap text_of w ∙ ap (λ (x : Kind). leaf_text (sort_of x) node.left) (sym a)
    go (is_atom w a c) = ap text_of w ∙ ap (λ (x : Kind). leaf_text (sort_of x) node.left) (sym a)

pub leaf_fits : {nodes text : List ℕ} {k place : ℕ} {node : Node} → Writable nodes text k place → takes (sort_of node.kind) ≡ 0 → NodeAt nodes k node → LeafFits node text place
leaf_fits {nodes} {text} {k} {place} {node} w e t = record {
  none = e;
  room = subst (λ (l : List ℕ). place + length l ≤ length text) (leaf_text_lem nodes k w.first node w.formula e t w.stands) w.room;
}

pub leaf_written : {nodes before after : List ℕ} {k place end : ℕ} {node : Node} → takes (sort_of node.kind) ≡ 0 → NodeAt nodes k node
    → Put before after place end (leaf_text (sort_of node.kind) node.left) → Written nodes k before after place end
leaf_written {nodes} {before} {after} {k} {place} {end} {node} e t p = record {
  puts = λ f first s. subst (Put before after place end) (sym (leaf_text_lem nodes k first node f e t s)) p;
}

-- a node of no kind, whose formula there is none
pub unread_written : {nodes before after : List ℕ} {k place end : ℕ} → greatest_kind < at nodes (3 * k) → Written nodes k before after place end
unread_written {nodes} {k = k} h = record { puts = λ f first s. absurd (omega (arith, h, stands_known nodes f k first s)) }

-- ---- in front of the first operand

front_within : (f : Formula) → length (front (sort_in f)) ≤ length (text_of f)
unfolding sort_in
front_within TRUE = omega arith
front_within (ATOM a) = omega arith
front_within (one p f) = omega (arith, length_prefixed p f)
front_within (two q f g) = omega (arith, length_joined q f g)

pub opening_fits : {nodes text : List ℕ} {k place : ℕ} {node : Node} → Writable nodes text k place → NodeAt nodes k node
    → place + length (front (sort_of node.kind)) ≤ length text
opening_fits {nodes} {text} {k} {place} {node} w t =
    let e : sort_of node.kind ≡ sort_in w.formula = node_sort nodes k w.first node w.formula t w.stands in
    omega (arith, ap (λ (s : Sort). length (front s)) e, front_within w.formula, w.room)

-- ---- one operand

prefix_text : {nodes : List ℕ} {k first : ℕ} {node : Node} {f : Formula} → (r : PrefixRoot nodes k first node f) → text_of f ≡ front (sort_of node.kind) ++ text_of r.under
unfolding text_of
prefix_text r = ap text_of r.whole ∙ ap (λ (s : Sort). front s ++ text_of r.under) (sym r.sort)

prefix_size : {nodes : List ℕ} {k first : ℕ} {node : Node} {f : Formula} → (r : PrefixRoot nodes k first node f) → length (text_of f) ≡ length (text_of r.under) + length (front (sort_of node.kind))
prefix_size r = ap (λ (f : Formula). length (text_of f)) r.whole ∙ length_prefixed r.sign r.under ∙ ap (λ (s : Sort). length (text_of r.under) + length (front s)) (sym r.sort)

pub prefix_below : {nodes text now : List ℕ} {k place end : ℕ} {node : Node} → Writable nodes text k place → takes (sort_of node.kind) ≡ 1 → NodeAt nodes k node
    → Put text now place end (front (sort_of node.kind)) → length now ≡ length text → (0 < k) × Writable nodes now (k - 1) end
prefix_below {nodes} {k = k} {node = node} w e t p same =
    let r = prefix_root nodes k w.first node w.formula e t w.stands in (
      r.later,
      record {
        there = omega (arith, w.there);
        formula = r.under;
        first = w.first;
        stands = r.stands;
        room = omega (arith, p.ends, w.room, same, prefix_size r);
      },
    )

pub prefix_written : {nodes text now after : List ℕ} {k place mid end : ℕ} {node : Node} → takes (sort_of node.kind) ≡ 1 → NodeAt nodes k node
    → Put text now place mid (front (sort_of node.kind)) → Written nodes (k - 1) now after mid end → Written nodes k text after place end
prefix_written {nodes} {text} {now} {after} {k} {place} {mid} {end} {node} e t p q = record {
  puts = λ f first s.
      let r = prefix_root nodes k first node f e t s in
      subst (Put text after place end) (sym (prefix_text r)) (put_then p (q.puts r.under first r.stands));
}
