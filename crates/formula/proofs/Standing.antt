-- A formula ends at a node of a list exactly where its nodes stand there one by one.
use Prim.Native.Nat.{ℕ, suc, ◌+◌, ◌-◌, ◌*◌, ◌<◌, ◌≤◌}
use mathlib.Core.Path.{◌≡◌, ap, sym, ◌∙◌, subst}
use mathlib.Core.List.{List, [], ◌∷◌, ◌++◌, append_assoc}
use native.Mathlib.Nat.{add-zero}
use native.Mathlib.Omega.{arith}
use lib.ListN.{length, take, length-append}
use lib.Seq.{length-take-le, take-suc, take_at, take-take, get_or-take, get_or-append-add}
use Rattle.lists.specs.Entries.{at}
use Rattle.formula.specs.Tree.{Formula, TRUE, ATOM, one, two, size}
use Rattle.formula.specs.Nodes.{prefix_kind, pair_kind, nodes_from, root_from}
use Rattle.formula.specs.Answers.{PartAt}
use Rattle.formula.specs.InsidePrinting.{Triple, Stands}
use Rattle.formula.proofs.Sizes.{size_some, nodes_length}

-- ---- the last node of the first k + 1

three_more : (k : ℕ) → 3 * (k + 1) ≡ suc (suc (suc (3 * k)))
three_more k = omega arith

last_node : (nodes before : List ℕ) (k a b c : ℕ) → length before ≡ 3 * k → take (3 * (k + 1)) nodes ≡ before ++ (a ∷ b ∷ c ∷ [])
    → (take (3 * k) nodes ≡ before) × Triple nodes k a b c
last_node nodes before k a b c long e = (
  sym (take-take (3 * k) (3 * (k + 1)) nodes (omega arith)) ∙ ap (take (3 * k)) e ∙ take_at before (a ∷ b ∷ c ∷ []) (3 * k) long,
  record {
    kind = ap (at nodes) (sym (add-zero (3 * k))) ∙ entry 0 (omega arith);
    left = entry 1 (omega arith);
    right = entry 2 (omega arith);
  },
)
  where
    entry : (j : ℕ) → j < 3 → at nodes (3 * k + j) ≡ at (a ∷ b ∷ c ∷ []) j
    entry j h =
        sym (get_or-take (3 * (k + 1)) nodes (3 * k + j) 0 (omega arith))
        ∙ ap (λ (l : List ℕ). at l (3 * k + j)) e
        ∙ ap (λ (n : ℕ). at (before ++ (a ∷ b ∷ c ∷ [])) (n + j)) (sym long)
        ∙ get_or-append-add before (a ∷ b ∷ c ∷ []) j 0

next_node : (nodes : List ℕ) (k a b c : ℕ) → 3 * (k + 1) ≤ length nodes → Triple nodes k a b c
    → take (3 * (k + 1)) nodes ≡ take (3 * k) nodes ++ (a ∷ b ∷ c ∷ [])
next_node nodes k a b c h t =
    let m = 3 * k in
    let one_on : suc m ≡ m + 1 = omega arith in
    let two_on : suc (suc m) ≡ m + 2 = omega arith in
    let x : take (suc m) nodes ≡ take m nodes ++ (a ∷ []) = take-suc nodes m 0 (omega arith) ∙ ap (λ (v : ℕ). take m nodes ++ (v ∷ [])) t.kind in
    let y : take (suc (suc m)) nodes ≡ take (suc m) nodes ++ (b ∷ []) = take-suc nodes (suc m) 0 (omega arith) ∙ ap (λ (v : ℕ). take (suc m) nodes ++ (v ∷ [])) (ap (at nodes) one_on ∙ t.left) in
    let z : take (suc (suc (suc m))) nodes ≡ take (suc (suc m)) nodes ++ (c ∷ []) = take-suc nodes (suc (suc m)) 0 (omega arith) ∙ ap (λ (v : ℕ). take (suc (suc m)) nodes ++ (v ∷ [])) (ap (at nodes) two_on ∙ t.right) in
    ap (λ (n : ℕ). take n nodes) (three_more k) ∙ z
    ∙ ap (λ (l : List ℕ). l ++ (c ∷ [])) (y ∙ ap (λ (l : List ℕ). l ++ (b ∷ [])) x)
    ∙ simp append_assoc

-- ---- a formula whose nodes stand one by one

pub stands_whole : (nodes : List ℕ) (f : Formula) (k first : ℕ) → Stands nodes k first f → first + size f ≡ k + 1
unfolding Stands size
stands_whole nodes TRUE k first s = omega (arith, s.1)
stands_whole nodes (ATOM a) k first s = omega (arith, s.1)
stands_whole nodes (one p f) k first s = omega (arith, s.0, stands_whole nodes f (k - 1) first s.1.1)
stands_whole nodes (two q f g) k first s = omega (arith, s.0, stands_whole nodes f s.1.0 first s.1.1.1.0, stands_whole nodes g (k - 1) (s.1.0 + 1) s.1.1.1.1)

length_before : (nodes : List ℕ) (first : ℕ) (f : Formula) → 3 * first ≤ length nodes → length (take (3 * first) nodes ++ nodes_from first f) ≡ 3 * (first + size f)
length_before nodes first f h = length-append (take (3 * first) nodes) (nodes_from first f) ∙ omega (arith, length-take-le (3 * first) nodes h, nodes_length first f)

leaf_listed : (nodes : List ℕ) (k first a b c : ℕ) → first ≡ k → 3 * (k + 1) ≤ length nodes
    → take (3 * (k + 1)) nodes ≡ take (3 * first) nodes ++ (a ∷ b ∷ c ∷ []) → Triple nodes k a b c
leaf_listed nodes k first a b c e h listed = (last_node nodes (take (3 * first) nodes) k a b c (length-take-le (3 * first) nodes (omega arith) ∙ omega arith) listed).1

pub part_stands : (nodes : List ℕ) (f : Formula) (k first : ℕ) → PartAt nodes k first f → Stands nodes k first f
unfolding Stands size nodes_from
part_stands nodes TRUE k first p = let e : first ≡ k = omega (arith, p.whole) in (leaf_listed nodes k first 0 0 0 e p.there p.listed, e)
part_stands nodes (ATOM a) k first p = let e : first ≡ k = omega (arith, p.whole) in (leaf_listed nodes k first 1 a 0 e p.there p.listed, e)
part_stands nodes (one o f) k first p =
    let some = size_some f in
    let own = prefix_kind o ∷ root_from first f ∷ 0 ∷ [] in
    let before = take (3 * first) nodes ++ nodes_from first f in
    let long : length before ≡ 3 * k = length_before nodes first f (omega (arith, p.there, p.whole)) ∙ omega (arith, p.whole) in
    let last = last_node nodes before k (prefix_kind o) (root_from first f) 0 long (p.listed ∙ sym (append_assoc (take (3 * first) nodes) (nodes_from first f) own)) in
    let back : k - 1 + 1 ≡ k = omega (arith, p.whole) in
    let root : root_from first f ≡ k - 1 = omega (arith, p.whole) in
    let under : PartAt nodes (k - 1) first f = record {
      there = omega (arith, p.there);
      whole = omega (arith, p.whole);
      listed = ap (λ (n : ℕ). take (3 * n) nodes) back ∙ last.0;
    } in
    (omega (arith, p.whole), (subst (λ (v : ℕ). Triple nodes k (prefix_kind o) v 0) root last.1, part_stands nodes f (k - 1) first under))
part_stands nodes (two q f g) k first p =
    let some = size_some f in
    let some' = size_some g in
    let m = first + size f in
    let own = pair_kind q ∷ root_from first f ∷ root_from m g ∷ [] in
    let half = take (3 * first) nodes ++ nodes_from first f in
    let half_long : length half ≡ 3 * m = length_before nodes first f (omega (arith, p.there, p.whole)) in
    let long : length (half ++ nodes_from m g) ≡ 3 * k = length-append half (nodes_from m g) ∙ omega (arith, half_long, nodes_length m g, p.whole) in
    let last = last_node nodes (half ++ nodes_from m g) k (pair_kind q) (root_from first f) (root_from m g) long (p.listed ∙ simp append_assoc) in
    let left : take (3 * m) nodes ≡ half = sym (take-take (3 * m) (3 * k) nodes (omega (arith, p.whole))) ∙ ap (take (3 * m)) last.0 ∙ take_at half (nodes_from m g) (3 * m) half_long in
    let back : k - 1 + 1 ≡ k = omega (arith, p.whole) in
    let back' : root_from first f + 1 ≡ m = omega arith in
    let root : root_from m g ≡ k - 1 = omega (arith, p.whole) in
    let l : PartAt nodes (root_from first f) first f = record {
      there = omega (arith, p.there, p.whole);
      whole = omega arith;
      listed = ap (λ (n : ℕ). take (3 * n) nodes) back' ∙ left;
    } in
    let r : PartAt nodes (k - 1) m g = record {
      there = omega (arith, p.there);
      whole = omega (arith, p.whole);
      listed = ap (λ (n : ℕ). take (3 * n) nodes) back ∙ last.0 ∙ ap (λ (x : List ℕ). x ++ nodes_from m g) (sym left);
    } in (
      omega (arith, p.whole),
      (
        root_from first f,
        (
          subst (λ (v : ℕ). Triple nodes k (pair_kind q) (root_from first f) v) root last.1,
          (part_stands nodes f (root_from first f) first l, subst (λ (n : ℕ). Stands nodes (k - 1) n g) (sym back') (part_stands nodes g (k - 1) m r)),
        ),
      ),
    )

pub stands_part : (nodes : List ℕ) (f : Formula) (k first : ℕ) → 3 * (k + 1) ≤ length nodes → Stands nodes k first f → PartAt nodes k first f
unfolding Stands size nodes_from
stands_part nodes TRUE k first h s = record {
  there = h;
  whole = omega (arith, s.1);
  listed = next_node nodes k 0 0 0 h s.0 ∙ ap (λ (n : ℕ). take (3 * n) nodes ++ (0 ∷ 0 ∷ 0 ∷ [])) (sym s.1);
}
stands_part nodes (ATOM a) k first h s = record {
  there = h;
  whole = omega (arith, s.1);
  listed = next_node nodes k 1 a 0 h s.0 ∙ ap (λ (n : ℕ). take (3 * n) nodes ++ (1 ∷ a ∷ 0 ∷ [])) (sym s.1);
}
stands_part nodes (one o f) k first h s =
    let p = stands_part nodes f (k - 1) first (omega arith) s.1.1 in
    let back : k ≡ k - 1 + 1 = omega (arith, s.0) in
    let root : k - 1 ≡ root_from first f = omega (arith, p.whole, s.0) in
    record {
      there = h;
      whole = omega (arith, p.whole, s.0);
      listed = next_node nodes k (prefix_kind o) (k - 1) 0 h s.1.0
          ∙ ap (λ (l : List ℕ). l ++ (prefix_kind o ∷ (k - 1) ∷ 0 ∷ [])) (ap (λ (n : ℕ). take (3 * n) nodes) back ∙ p.listed)
          ∙ append_assoc (take (3 * first) nodes) (nodes_from first f) (prefix_kind o ∷ (k - 1) ∷ 0 ∷ [])
          ∙ ap (λ (v : ℕ). take (3 * first) nodes ++ (nodes_from first f ++ (prefix_kind o ∷ v ∷ 0 ∷ []))) root;
    }
stands_part nodes (two q f g) k first h s =
    let i : ℕ = s.1.0 in
    let m = first + size f in
    let x = take (3 * first) nodes in
    let r = stands_part nodes g (k - 1) (i + 1) (omega arith) s.1.1.1.1 in
    let l = stands_part nodes f i first (omega (arith, r.there, r.whole, s.0)) s.1.1.1.0 in
    let back : k ≡ k - 1 + 1 = omega (arith, s.0) in
    let begin : i + 1 ≡ m = omega (arith, l.whole) in
    let root : i ≡ root_from first f = omega (arith, l.whole) in
    let root' : k - 1 ≡ root_from m g = omega (arith, l.whole, r.whole, s.0) in
    record {
      there = h;
      whole = omega (arith, l.whole, r.whole, s.0);
      listed = next_node nodes k (pair_kind q) i (k - 1) h s.1.1.0
          ∙ ap (λ (l : List ℕ). l ++ (pair_kind q ∷ i ∷ (k - 1) ∷ []))
          (ap (λ (n : ℕ). take (3 * n) nodes) back ∙ r.listed ∙ ap (λ (l : List ℕ). l ++ nodes_from (i + 1) g) l.listed)
          ∙ regroup x (nodes_from first f) (nodes_from (i + 1) g) (pair_kind q ∷ i ∷ (k - 1) ∷ [])
          ∙ ap (λ (n : ℕ). x ++ (nodes_from first f ++ (nodes_from n g ++ (pair_kind q ∷ i ∷ (k - 1) ∷ [])))) begin
          ∙ ap (λ (v : ℕ). x ++ (nodes_from first f ++ (nodes_from m g ++ (pair_kind q ∷ v ∷ (k - 1) ∷ [])))) root
          ∙ ap (λ (v : ℕ). x ++ (nodes_from first f ++ (nodes_from m g ++ (pair_kind q ∷ root_from first f ∷ v ∷ [])))) root';
    }
  where
    regroup : (a b c d : List ℕ) → ((a ++ b) ++ c) ++ d ≡ a ++ (b ++ (c ++ d))
    regroup a b c d = simp append_assoc
