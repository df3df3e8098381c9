-- The node list of a formula: operands first, left before right, nothing shared, the whole last.
use Rattle.std.specs.Prelude.{ℕ, ◌+◌, ◌-◌, List, [], ◌∷◌, ◌++◌}
use Rattle.formula.specs.Tree.{Prefix, NOT, EX, AX, EF, AF, EG, AG, Pair, AND, EU, AU, OR, IMPLIES, Formula, TRUE, ATOM, one, two, size}

-- the number of each kind
abbrev pub prefix_kind : Prefix → ℕ
prefix_kind NOT = 2
prefix_kind EX = 4
prefix_kind AX = 9
prefix_kind EF = 10
prefix_kind AF = 11
prefix_kind EG = 12
prefix_kind AG = 13

abbrev pub pair_kind : Pair → ℕ
pair_kind AND = 3
pair_kind EU = 5
pair_kind AU = 6
pair_kind OR = 7
pair_kind IMPLIES = 8

-- the whole's own number, where the nodes are numbered from n on
abbrev pub root_from : ℕ → Formula → ℕ
root_from n f = n + size f - 1

-- the nodes, numbered from n on
unfoldable pub nodes_from : ℕ → Formula → List ℕ
nodes_from n TRUE = 0 ∷ 0 ∷ 0 ∷ []
nodes_from n (ATOM a) = 1 ∷ a ∷ 0 ∷ []
nodes_from n (one p f) = nodes_from n f ++ (prefix_kind p ∷ root_from n f ∷ 0 ∷ [])
nodes_from n (two q f g) = nodes_from n f ++ (nodes_from (n + size f) g ++ (pair_kind q ∷ root_from n f ∷ root_from (n + size f) g ∷ []))

abbrev pub nodes_of : Formula → List ℕ
nodes_of f = nodes_from 0 f
