-- What a kind tells, and what a node's kind tells of the formula that ends there.
use Prim.Native.Nat.{ℕ, ◌*◌, ◌≤◌}
use mathlib.Core.Path.{◌≡◌, refl, ap, sym, ◌∙◌}
use mathlib.Core.List.{List}
use mathlib.Core.Logic.{◌⊎◌, inl, inr, ⊎_elim}
use native.Mathlib.Omega.{arith}
use lib.Dec.{eqb}
use borrow.Author.Tests.{eqb-true}
use Rattle.lists.specs.Entries.{at, any_below}
use Rattle.values.specs.Limits.{greatest_kind}
use Rattle.model.specs.Kinds.{kind_of, kind_number}
use Rattle.model.specs.declared.kinds.Kind.{Kind}
use Rattle.model.specs.declared.kinds.Kind.TheVariants.{True, Atom, Not, And, Ex, Eu, Au, Or, Implies, Ax, Ef, Af, Eg, Ag}
use Rattle.formula.specs.Tree.{Prefix, Pair, Formula, TRUE, ATOM, one, two}
use Rattle.formula.specs.Nodes.{prefix_kind, pair_kind}
use Rattle.formula.specs.InsidePrinting.{Sort, truth, atom, prefix, pair, sort_of, takes, signs, Stands}
use Rattle.formula.proofs.Sizes.{sign_short, signs_short}
use Rattle.formula.proofs.Operators.{each_prefix, each_pair}
use Rattle.model.proofs.KindLaws.{by_kinds}

-- the number of what it tells
abbrev number_in : Sort → ℕ
number_in truth = 0
number_in atom = 1
number_in (prefix p) = prefix_kind p
number_in (pair q) = pair_kind q

number_sort : (k : Kind) → kind_number k ≡ number_in (sort_of k)
number_sort True = refl
number_sort Atom = refl
number_sort Not = refl
number_sort And = refl
number_sort Ex = refl
number_sort Eu = refl
number_sort Au = refl
number_sort Or = refl
number_sort Implies = refl
number_sort Ax = refl
number_sort Ef = refl
number_sort Af = refl
number_sort Eg = refl
number_sort Ag = refl

-- a number tells its kind, and so does a sort's
pub number_known : (n : ℕ) → n ≤ greatest_kind → kind_number (kind_of n) ≡ n
unfolding kind_of any_below
number_known n h = eqb-true _ n (by_kinds (λ (n : ℕ). eqb (kind_number (kind_of n)) n) refl n h)

pub kind_told : (k : Kind) → kind_of (kind_number k) ≡ k
unfolding kind_of
kind_told True = refl
kind_told Atom = refl
kind_told Not = refl
kind_told And = refl
kind_told Ex = refl
kind_told Eu = refl
kind_told Au = refl
kind_told Or = refl
kind_told Implies = refl
kind_told Ax = refl
kind_told Ef = refl
kind_told Af = refl
kind_told Eg = refl
kind_told Ag = refl

sort_told : (s : Sort) → sort_of (kind_of (number_in s)) ≡ s
unfolding kind_of
sort_told truth = refl
sort_told atom = refl
sort_told (prefix p) = each_prefix (λ (p : Prefix). sort_of (kind_of (prefix_kind p)) ≡ prefix p) refl refl refl refl refl refl refl p
sort_told (pair q) = each_pair (λ (q : Pair). sort_of (kind_of (pair_kind q)) ≡ pair q) refl refl refl refl refl q

numbered : (k : Kind) (n : ℕ) → kind_number k ≡ n → k ≡ kind_of n
numbered k n e = sym (kind_told k) ∙ ap kind_of e

pub prefix_number : (p : Prefix) → kind_number (kind_of (prefix_kind p)) ≡ prefix_kind p
unfolding kind_of
prefix_number = each_prefix (λ (p : Prefix). kind_number (kind_of (prefix_kind p)) ≡ prefix_kind p) refl refl refl refl refl refl refl

pub pair_number : (q : Pair) → kind_number (kind_of (pair_kind q)) ≡ pair_kind q
unfolding kind_of
pair_number = each_pair (λ (q : Pair). kind_number (kind_of (pair_kind q)) ≡ pair_kind q) refl refl refl refl refl

-- a kind by how many operands it has
pub true_kind : (k : Kind) → kind_number k ≡ 0 → k ≡ True
unfolding kind_of
true_kind k e = numbered k 0 e

pub atom_kind : (k : Kind) → kind_number k ≡ 1 → k ≡ Atom
unfolding kind_of
atom_kind k e = numbered k 1 e

leaf_kind : (k : Kind) → takes (sort_of k) ≡ 0 → (k ≡ True) ⊎ (k ≡ Atom)
leaf_kind k e = go (sort_of k) (number_sort k) e
  where
    go : (s : Sort) → kind_number k ≡ number_in s → takes s ≡ 0 → (k ≡ True) ⊎ (k ≡ Atom)
    go truth n e = inl (true_kind k n)
    go atom n e = inr (atom_kind k n)
    go (prefix p) n e = absurd (omega arith)
    go (pair q) n e = absurd (omega arith)

pub no_operand : (k : Kind) → takes (sort_of k) ≡ 0 → (k ≡ Atom → ⊥) → k ≡ True
no_operand k e h = ⊎_elim (λ (z : k ≡ True). z) (λ (z : k ≡ Atom). absurd (h z)) (leaf_kind k e)

pub other_leaf : (k : Kind) → takes (sort_of k) ≡ 0 → (k ≡ True → ⊥) → k ≡ Atom
other_leaf k e h = ⊎_elim (λ (z : k ≡ True). absurd (h z)) (λ (z : k ≡ Atom). z) (leaf_kind k e)

pub record OnePrefix (k : Kind) : Type 0 where
  pub sign : Prefix
  pub sort : sort_of k ≡ prefix sign
  pub number : kind_number k ≡ prefix_kind sign

pub one_operand : (k : Kind) → takes (sort_of k) ≡ 1 → OnePrefix k
one_operand k e = go (sort_of k) refl (number_sort k) e
  where
    go : (s : Sort) → sort_of k ≡ s → kind_number k ≡ number_in s → takes s ≡ 1 → OnePrefix k
    go truth q n e = absurd (omega arith)
    go atom q n e = absurd (omega arith)
    go (prefix p) q n e = record { sign = p; sort = q; number = n }
    go (pair p) q n e = absurd (omega arith)

pub record OnePair (k : Kind) : Type 0 where
  pub join : Pair
  pub sort : sort_of k ≡ pair join
  pub number : kind_number k ≡ pair_kind join

pub two_operands : (k : Kind) → takes (sort_of k) ≡ 2 → OnePair k
two_operands k e = go (sort_of k) refl (number_sort k) e
  where
    go : (s : Sort) → sort_of k ≡ s → kind_number k ≡ number_in s → takes s ≡ 2 → OnePair k
    go truth q n e = absurd (omega arith)
    go atom q n e = absurd (omega arith)
    go (prefix p) q n e = absurd (omega arith)
    go (pair p) q n e = record { join = p; sort = q; number = n }

-- the sort of a formula's last node
unfoldable pub sort_in : Formula → Sort
sort_in TRUE = truth
sort_in (ATOM a) = atom
sort_in (one p f) = prefix p
sort_in (two q f g) = pair q

stands_number : (nodes : List ℕ) (f : Formula) (k first : ℕ) → Stands nodes k first f → at nodes (3 * k) ≡ number_in (sort_in f)
unfolding Stands sort_in
stands_number nodes TRUE k first s = s.0.kind
stands_number nodes (ATOM a) k first s = s.0.kind
stands_number nodes (one p f) k first s = s.1.0.kind
stands_number nodes (two q f g) k first s = s.1.1.0.kind

pub stands_sort : (nodes : List ℕ) (f : Formula) (k first : ℕ) → Stands nodes k first f → sort_of (kind_of (at nodes (3 * k))) ≡ sort_in f
stands_sort nodes f k first s = ap (λ (n : ℕ). sort_of (kind_of n)) (stands_number nodes f k first s) ∙ sort_told (sort_in f)

-- and its number is a kind's
pub stands_known : (nodes : List ℕ) (f : Formula) (k first : ℕ) → Stands nodes k first f → at nodes (3 * k) ≤ greatest_kind
stands_known nodes f k first s = go (sort_in f) (stands_number nodes f k first s)
  where
    go : (s : Sort) → at nodes (3 * k) ≡ number_in s → at nodes (3 * k) ≤ greatest_kind
    go truth e = omega arith
    go atom e = omega arith
    go (prefix p) e = let h = each_prefix (λ (p : Prefix). prefix_kind p ≤ greatest_kind) (omega arith) (omega arith) (omega arith) (omega arith) (omega arith) (omega arith) (omega arith) p in omega (arith, h, e)
    go (pair q) e = let h = each_pair (λ (q : Pair). pair_kind q ≤ greatest_kind) (omega arith) (omega arith) (omega arith) (omega arith) (omega arith) q in omega (arith, h, e)

pub takes_few : (k : Kind) → takes (sort_of k) ≤ 2
takes_few k = go (sort_of k)
  where
    go : (s : Sort) → takes s ≤ 2
    go truth = omega arith
    go atom = omega arith
    go (prefix p) = omega arith
    go (pair q) = omega arith

-- what is left once none and one are ruled out
pub two_left : {r : ℕ} (k : Kind) → r ≡ takes (sort_of k) → (r ≡ 0 → ⊥) → (r ≡ 1 → ⊥) → takes (sort_of k) ≡ 2
two_left {r} k e a b = let few = takes_few k in omega arith

pub signs_few : (k : Kind) → signs (sort_of k) ≤ 6
signs_few k = go (sort_of k)
  where
    go : (s : Sort) → signs s ≤ 6
    go truth = omega arith
    go atom = omega arith
    go (prefix p) = sign_short p
    go (pair q) = signs_short q
