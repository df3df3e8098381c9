-- The kinds of nodes, and what each uses its two numbers for.
use Rattle.std.specs.Prelude.{◌≡◌, ℕ, ◌<◌, ◌≤◌, List, [], ◌∷◌, Option, MatchOption, get_or}
use Rattle.values.specs.Limits.{greatest_kind}
use Rattle.model.specs.declared.kinds.Kind.{Kind}
use Rattle.model.specs.declared.kinds.Kind.TheVariants.{True, Atom, Not, And, Ex, Eu, Au, Or, Implies, Ax, Ef, Af, Eg, Ag}

-- the kinds by their numbers, from 0: constant true, atom, not, and, EX, E(left U right), A(left U right), or, implies, AX, EF, AF, EG, AG
abbrev pub kinds : List Kind
kinds = True ∷ Atom ∷ Not ∷ And ∷ Ex ∷ Eu ∷ Au ∷ Or ∷ Implies ∷ Ax ∷ Ef ∷ Af ∷ Eg ∷ Ag ∷ []

unfoldable pub kind_of : ℕ → Kind
kind_of k = get_or kinds k True

-- `Kind.of`: the kind of this number, and none for a number above the greatest
abbrev pub KindOf : ℕ → Option Kind → Type 0
KindOf n made = MatchOption made (greatest_kind < n) (λ k. (n ≤ greatest_kind) × (k ≡ kind_of n))

-- the number of each
abbrev pub kind_number : Kind → ℕ
kind_number True = 0
kind_number Atom = 1
kind_number Not = 2
kind_number And = 3
kind_number Ex = 4
kind_number Eu = 5
kind_number Au = 6
kind_number Or = 7
kind_number Implies = 8
kind_number Ax = 9
kind_number Ef = 10
kind_number Af = 11
kind_number Eg = 12
kind_number Ag = 13

-- what a number of a node is for: nothing, an atom, or an earlier node
pub data Use : Type 0 where
  unused an_atom a_node : Use

-- what the left and the right number of a kind are for
abbrev pub uses : Kind → Use × Use
uses True = (unused, unused)
uses Atom = (an_atom, unused)
uses Not = (a_node, unused)
uses And = (a_node, a_node)
uses Ex = (a_node, unused)
uses Eu = (a_node, a_node)
uses Au = (a_node, a_node)
uses Or = (a_node, a_node)
uses Implies = (a_node, a_node)
uses Ax = (a_node, unused)
uses Ef = (a_node, unused)
uses Af = (a_node, unused)
uses Eg = (a_node, unused)
uses Ag = (a_node, unused)

-- what a number must stay below, in node i of a model of A atoms: an unused one is 0, an operand names an earlier node
abbrev pub bound : Use → ℕ → ℕ → ℕ
bound unused A i = 1
bound an_atom A i = A
bound a_node A i = i
