-- The text of a pair put piece by piece: its opening, the left operand, its middle, the right operand, its closing.
use Prim.Native.Nat.{ℕ, ◌+◌, ◌-◌, ◌<◌, ◌≤◌}
use mathlib.Core.Path.{◌≡◌, ap, sym, ◌∙◌, subst}
use mathlib.Core.List.{List, ◌++◌}
use native.Mathlib.Omega.{arith}
use lib.ListN.{length}
use Rattle.lists.specs.Rows.{Put}
use Rattle.lists.proofs.Placed.{put_then}
use Rattle.formula.specs.Tree.{Formula}
use Rattle.formula.specs.Text.{closing, text_of}
use Rattle.formula.specs.declared.parts.Node.{Node}
use Rattle.formula.specs.InsidePrinting.{Sort, sort_of, takes, front, inner, NodeAt, Writable, Written}
use Rattle.formula.proofs.Sizes.{length_joined}
use Rattle.formula.proofs.Standing.{stands_whole}
use Rattle.formula.proofs.Roots.{PairRoot, pair_root}

pair_text : {nodes : List ℕ} {k first : ℕ} {node : Node} {f : Formula} → (r : PairRoot nodes k first node f)
    → text_of f ≡ front (sort_of node.kind) ++ (text_of r.one_side ++ (inner (sort_of node.kind) ++ (text_of r.other_side ++ closing)))
unfolding text_of
pair_text r = ap text_of r.whole ∙ ap (λ (s : Sort). front s ++ (text_of r.one_side ++ (inner s ++ (text_of r.other_side ++ closing)))) (sym r.sort)

pair_size : {nodes : List ℕ} {k first : ℕ} {node : Node} {f : Formula} → (r : PairRoot nodes k first node f)
    → length (text_of f) ≡ length (text_of r.one_side) + length (text_of r.other_side) + (length (front (sort_of node.kind)) + length (inner (sort_of node.kind)) + length closing)
pair_size r =
    ap (λ (f : Formula). length (text_of f)) r.whole ∙ length_joined r.join r.one_side r.other_side
    ∙ ap (λ (s : Sort). length (text_of r.one_side) + length (text_of r.other_side) + (length (front s) + length (inner s) + length closing)) (sym r.sort)

-- the space after each piece, and the place behind it
pub record Opened (nodes text now : List ℕ) (k place end : ℕ) (node : Node) : Type 0 where
  pub writable : Writable nodes text k place
  pub two_taken : takes (sort_of node.kind) ≡ 2
  pub here : NodeAt nodes k node
  pub put : Put text now place end (front (sort_of node.kind))
  pub long : length now ≡ length text

pub record Half (nodes text now : List ℕ) (k place end : ℕ) (node : Node) : Type 0 where
  pub opened_text : List ℕ
  pub opened_place : ℕ
  pub opened : Opened nodes text opened_text k place opened_place node
  pub one_put : Written nodes node.left opened_text now opened_place end
  pub long : length now ≡ length text

pub record Joined (nodes text now : List ℕ) (k place end : ℕ) (node : Node) : Type 0 where
  pub half_text : List ℕ
  pub half_place : ℕ
  pub half : Half nodes text half_text k place half_place node
  pub put : Put half_text now half_place end (inner (sort_of node.kind))
  pub long : length now ≡ length text

pub record Ended (nodes text now : List ℕ) (k place end : ℕ) (node : Node) : Type 0 where
  pub joined_text : List ℕ
  pub joined_place : ℕ
  pub joined : Joined nodes text joined_text k place joined_place node
  pub other_put : Written nodes (k - 1) joined_text now joined_place end
  pub long : length now ≡ length text

pub is_opened : {nodes text now : List ℕ} {k place end : ℕ} {node : Node} → Writable nodes text k place → takes (sort_of node.kind) ≡ 2 → NodeAt nodes k node
    → Put text now place end (front (sort_of node.kind)) → length now ≡ length text → Opened nodes text now k place end node
is_opened w e t p l = record { writable = w; two_taken = e; here = t; put = p; long = l }

pub is_half : {nodes text now after : List ℕ} {k place end last : ℕ} {node : Node} → Opened nodes text now k place end node
    → Written nodes node.left now after end last → length after ≡ length now → Half nodes text after k place last node
is_half {now = now} {end = end} o p l = record { opened_text = now; opened_place = end; opened = o; one_put = p; long = l ∙ o.long }

pub is_joined : {nodes text now after : List ℕ} {k place end last : ℕ} {node : Node} → Half nodes text now k place end node
    → Put now after end last (inner (sort_of node.kind)) → length after ≡ length now → Joined nodes text after k place last node
is_joined {now = now} {end = end} h p l = record { half_text = now; half_place = end; half = h; put = p; long = l ∙ h.long }

pub is_ended : {nodes text now after : List ℕ} {k place end last : ℕ} {node : Node} → Joined nodes text now k place end node
    → Written nodes (k - 1) now after end last → length after ≡ length now → Ended nodes text after k place last node
is_ended {now = now} {end = end} j p l = record { joined_text = now; joined_place = end; joined = j; other_put = p; long = l ∙ j.long }

module _ {nodes text now : List ℕ} {k place end : ℕ} {node : Node} where
  opened_root : (o : Opened nodes text now k place end node) → PairRoot nodes k o.writable.first node o.writable.formula
  opened_root o = pair_root nodes k o.writable.first node o.writable.formula o.two_taken o.here o.writable.stands

  pub one_below : Opened nodes text now k place end node → (node.left < k) × Writable nodes now node.left end
  one_below o =
      let w = o.writable in
      let r = opened_root o in
      let less : node.left < k = omega (arith, stands_whole nodes r.other_side (k - 1) (node.left + 1) r.other_stands, r.later) in (
        less,
        record {
          there = omega (arith, less, w.there);
          formula = r.one_side;
          first = w.first;
          stands = r.one_stands;
          room = omega (arith, o.put.ends, w.room, o.long, pair_size r);
        },
      )

  pub middle_fits : Half nodes text now k place end node → end + length (inner (sort_of node.kind)) ≤ length now
  middle_fits h =
      let o = h.opened in
      let r = pair_root nodes k o.writable.first node o.writable.formula o.two_taken o.here o.writable.stands in
      let p = h.one_put.puts r.one_side o.writable.first r.one_stands in
      omega (arith, o.put.ends, p.ends, o.writable.room, h.long, pair_size r)

  pub other_below : Joined nodes text now k place end node → (0 < k) × Writable nodes now (k - 1) end
  other_below j =
      let o = j.half.opened in
      let w = o.writable in
      let r = pair_root nodes k w.first node w.formula o.two_taken o.here w.stands in
      let p = j.half.one_put.puts r.one_side w.first r.one_stands in (
        r.later,
        record {
          there = omega (arith, w.there);
          formula = r.other_side;
          first = node.left + 1;
          stands = r.other_stands;
          room = omega (arith, o.put.ends, p.ends, j.put.ends, w.room, j.long, pair_size r);
        },
      )

  pub closing_fits : Ended nodes text now k place end node → end + length closing ≤ length now
  closing_fits x =
      let j = x.joined in
      let o = j.half.opened in
      let w = o.writable in
      let r = pair_root nodes k w.first node w.formula o.two_taken o.here w.stands in
      let p = j.half.one_put.puts r.one_side w.first r.one_stands in
      let q = x.other_put.puts r.other_side (node.left + 1) r.other_stands in
      omega (arith, o.put.ends, p.ends, j.put.ends, q.ends, w.room, x.long, pair_size r)

  pub pair_written : {after : List ℕ} {last : ℕ} → Ended nodes text now k place end node → Put now after end last closing → Written nodes k text after place last
  pair_written {after} {last} x z =
      let j = x.joined in
      let h = j.half in
      let o = h.opened in
      record {
        puts = λ f first s.
            let r = pair_root nodes k first node f o.two_taken o.here s in
            subst (Put text after place last) (sym (pair_text r))
            (put_then o.put (put_then (h.one_put.puts r.one_side first r.one_stands)
            (put_then j.put (put_then (x.other_put.puts r.other_side (node.left + 1) r.other_stands) z))));
      }
