-- Each node of a formula's list is the whole of a part of it: an accepted one where the formula is, of a known kind, and with operands that judging takes.
use Prim.Native.Nat.{ℕ, ◌+◌, ◌-◌, ◌<◌, ◌≤◌}
use mathlib.Core.Path.{◌≡◌, refl, sym, subst}
use mathlib.Core.List.{List}
use mathlib.Core.Bool.{Bool, false, not, ◌||◌}
use mathlib.Core.Logic.{inl, inr, ⊎_elim}
use native.Mathlib.Omega.{arith}
use lib.ListN.{length}
use lib.Dec.{ltb}
use borrow.Author.Tests.{lt-ltb, le-ltb}
use Rattle.lists.proofs.Numbers.{last_or_before, lt_or_le}
use Rattle.values.specs.Limits.{greatest_kind}
use Rattle.model.specs.Model.{kind_at}
use Rattle.model.specs.Kinds.{Use, unused, an_atom, a_node, kind_of, uses, bound}
use Rattle.model.specs.Refusals.{bad_operand}
use Rattle.formula.specs.Tree.{Prefix, Pair, Formula, TRUE, ATOM, one, two, size, AtomsBelow, Names}
use Rattle.formula.specs.Text.{text_of}
use Rattle.formula.specs.Nodes.{prefix_kind, pair_kind, nodes_of}
use Rattle.formula.specs.Answers.{Accepted, YieldsPart}
use Rattle.formula.specs.InsidePrinting.{Triple, Stands}
use Rattle.formula.proofs.Operators.{each_prefix, each_pair}
use Rattle.formula.proofs.Sizes.{nodes_length, size_some, length_prefixed, length_joined}
use Rattle.formula.proofs.Standing.{part_stands, stands_part, stands_whole}
use Rattle.formula.proofs.PrintingLaws.{whole_part}

-- a part of a formula ends at a node
pub record PartEnds (nodes : List ℕ) (j : ℕ) (f : Formula) : Type 0 where
  pub part : Formula
  pub first : ℕ
  pub stands : Stands nodes j first part
  pub below : (n : ℕ) → AtomsBelow n f → AtomsBelow n part
  pub names : (a : ℕ) → Names part a → Names f a
  pub shorter : length (text_of part) ≤ length (text_of f)
  pub smaller : size part ≤ size f

whole : (nodes : List ℕ) (j k first : ℕ) (f : Formula) → j ≡ k → Stands nodes k first f → PartEnds nodes j f
whole nodes j k first f e s = record { part = f; first = first; stands = subst (λ (x : ℕ). Stands nodes x first f) (sym e) s; below = λ n h. h; names = λ a h. h; shorter = omega arith; smaller = omega arith }

within : (nodes : List ℕ) (j : ℕ) (f g : Formula) → ((n : ℕ) → AtomsBelow n f → AtomsBelow n g) → ((a : ℕ) → Names g a → Names f a) → length (text_of g) ≤ length (text_of f) → size g ≤ size f → PartEnds nodes j g → PartEnds nodes j f
within nodes j f g b m l z p = record { part = p.part; first = p.first; stands = p.stands; below = λ n h. p.below n (b n h); names = λ a h. m a (p.names a h); shorter = omega (arith, l, p.shorter); smaller = omega (arith, z, p.smaller) }

each : (nodes : List ℕ) (f : Formula) (k first : ℕ) → Stands nodes k first f → (j : ℕ) → first ≤ j → j ≤ k → PartEnds nodes j f
unfolding Stands size AtomsBelow Names
each nodes TRUE k first s j a b = whole nodes j k first TRUE (omega (arith, s.1)) s
each nodes (ATOM n) k first s j a b = whole nodes j k first (ATOM n) (omega (arith, s.1)) s
each nodes (one p f) k first s j a b =
    ⊎_elim
    (λ (e : j ≡ k). whole nodes j k first (one p f) e s)
    (λ (l : j < k). within nodes j (one p f) f (λ n h. h) (λ n h. h) (omega (arith, length_prefixed p f)) (omega arith) (each nodes f (k - 1) first s.1.1 j a (omega arith)))
    (last_or_before (omega arith))
each nodes (two q f g) k first s j a b =
    ⊎_elim
    (λ (e : j ≡ k). whole nodes j k first (two q f g) e s)
    (λ (l : j < k). ⊎_elim
    (λ (h : j < s.1.0 + 1). within nodes j (two q f g) f (λ n w. w.0) (λ n w. inl w) (omega (arith, length_joined q f g)) (omega arith) (each nodes f s.1.0 first s.1.1.1.0 j a (omega arith)))
    (λ (h : s.1.0 + 1 ≤ j). within nodes j (two q f g) g (λ n w. w.1) (λ n w. inr w) (omega (arith, length_joined q f g)) (omega arith) (each nodes g (k - 1) (s.1.0 + 1) s.1.1.1.1 j h (omega arith)))
    (lt_or_le j (s.1.0 + 1)))
    (last_or_before (omega arith))

-- of a formula's own list
pub part_ends : (f : Formula) (j : ℕ) → j < size f → PartEnds (nodes_of f) j f
part_ends f j h =
    let some = size_some f in
    let s = part_stands (nodes_of f) f (size f - 1) 0 (whole_part (nodes_of f) (size f - 1) f (omega arith) refl) in
    each (nodes_of f) f (size f - 1) 0 s j (omega arith) (omega arith)

-- it is an accepted formula, which `print_part` prints
pub yields_each : (f : Formula) (j : ℕ) → Accepted f → j < size f → (g : Formula) × YieldsPart (nodes_of f) j g
yields_each f j a h =
    let p = part_ends f j h in
    let l = nodes_length 0 f in
    let g : Accepted p.part = record { named = p.below _ a.named; short = omega (arith, p.shorter, a.short); few = omega (arith, p.smaller, a.few) } in
    (p.part, (g, omega (arith, l, a.few), (p.first, stands_part (nodes_of f) p.part j p.first (omega (arith, l)) p.stands)))

-- its kind is one of the kinds
prefix_known : (p : Prefix) → prefix_kind p ≤ greatest_kind
prefix_known = each_prefix (λ (p : Prefix). prefix_kind p ≤ greatest_kind) (omega arith) (omega arith) (omega arith) (omega arith) (omega arith) (omega arith) (omega arith)

pair_known : (q : Pair) → pair_kind q ≤ greatest_kind
pair_known = each_pair (λ (q : Pair). pair_kind q ≤ greatest_kind) (omega arith) (omega arith) (omega arith) (omega arith) (omega arith)

kind_known : (nodes : List ℕ) (j first : ℕ) (g : Formula) → Stands nodes j first g → kind_at nodes j ≤ greatest_kind
unfolding Stands
kind_known nodes j first TRUE s = omega (arith, s.0.kind)
kind_known nodes j first (ATOM a) s = omega (arith, s.0.kind)
kind_known nodes j first (one p g) s = omega (arith, s.1.0.kind, prefix_known p)
kind_known nodes j first (two q g h) s = omega (arith, s.1.1.0.kind, pair_known q)

pub kind_fits : (f : Formula) (j : ℕ) → j < size f → ltb greatest_kind (kind_at (nodes_of f) j) ≡ false
kind_fits f j h = let p = part_ends f j h in le-ltb greatest_kind (kind_at (nodes_of f) j) (kind_known (nodes_of f) j p.first p.part p.stands)

-- and its operands are earlier nodes, its atom is one of the model's where all of the formula's are
bad : ℕ → ℕ → Use × Use → ℕ → ℕ → Bool
bad A i u l r = not (ltb l (bound u.0 A i)) || not (ltb r (bound u.1 A i))

prefix_uses : (p : Prefix) → uses (kind_of (prefix_kind p)) ≡ (a_node, unused)
unfolding kind_of
prefix_uses = each_prefix (λ (p : Prefix). uses (kind_of (prefix_kind p)) ≡ (a_node, unused)) refl refl refl refl refl refl refl

pair_uses : (q : Pair) → uses (kind_of (pair_kind q)) ≡ (a_node, a_node)
unfolding kind_of
pair_uses = each_pair (λ (q : Pair). uses (kind_of (pair_kind q)) ≡ (a_node, a_node)) refl refl refl refl refl

by_numbers : (nodes : List ℕ) (A i k l r : ℕ) (u : Use × Use) → Triple nodes i k l r → uses (kind_of k) ≡ u → bad A i u l r ≡ false → bad_operand A nodes i ≡ false
unfolding bad
by_numbers nodes A i k l r u t w e = rw (t.kind, t.left, t.right, w) e

operands_known : (nodes : List ℕ) (A j first : ℕ) (g : Formula) → AtomsBelow A g → Stands nodes j first g → bad_operand A nodes j ≡ false
unfolding Stands AtomsBelow bad kind_of
operands_known nodes A j first TRUE b s = by_numbers nodes A j 0 0 0 (unused, unused) s.0 refl refl
operands_known nodes A j first (ATOM a) b s = by_numbers nodes A j 1 a 0 (an_atom, unused) s.0 refl (simp (lt-ltb a A b))
operands_known nodes A j first (one p g) b s = by_numbers nodes A j (prefix_kind p) (j - 1) 0 (a_node, unused) s.1.0 (prefix_uses p) (simp (lt-ltb (j - 1) j (omega (arith, s.0))))
operands_known nodes A j first (two q g h) b s =
    let w = stands_whole nodes h (j - 1) (s.1.0 + 1) s.1.1.1.1 in
    by_numbers nodes A j (pair_kind q) s.1.0 (j - 1) (a_node, a_node) s.1.1.0 (pair_uses q) (simp (lt-ltb s.1.0 j (omega (arith, s.0, w)), lt-ltb (j - 1) j (omega (arith, s.0))))

pub operands_fit : (f : Formula) (A j : ℕ) → AtomsBelow A f → j < size f → bad_operand A (nodes_of f) j ≡ false
operands_fit f A j b h = let p = part_ends f j h in operands_known (nodes_of f) A j p.first p.part (p.below A b) p.stands
