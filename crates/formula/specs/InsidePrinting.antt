-- What the private functions of printing have: what a kind tells, a node's three numbers, and a tree that stands in a list; no promise of a public call cites these.
use Rattle.std.specs.Prelude.{◌≡◌, ℕ, ◌+◌, ◌-◌, ◌*◌, ◌<◌, ◌≤◌, List, [], ◌∷◌, Option, MatchOption, length}
use Rattle.lists.specs.Entries.{at}
use Rattle.lists.specs.Rows.{Put}
use Rattle.values.specs.Limits.{greatest_kind, most_nodes, most_formula, most_node_numbers}
use Rattle.values.specs.Signs.{decimal}
use Rattle.model.specs.Kinds.{kind_number}
use Rattle.model.specs.declared.kinds.Kind.{Kind}
use Rattle.model.specs.declared.kinds.Kind.TheVariants.{True, Atom, Not, And, Ex, Eu, Au, Or, Implies, Ax, Ef, Af, Eg, Ag}
use Rattle.formula.specs.Tree.{Prefix, NOT, EX, AX, EF, AF, EG, AG, Pair, AND, EU, AU, OR, IMPLIES, Formula, TRUE, ATOM, one, two, Named}
use Rattle.formula.specs.Text.{constant, letter, sign, opening, middle, closing, text_of}
use Rattle.formula.specs.Nodes.{prefix_kind, pair_kind}
use Rattle.formula.specs.Answers.{YieldsPart}
use Rattle.formula.specs.declared.parts.Node.{Node}
use Rattle.formula.specs.declared.parts.Part.{Part}

-- what a kind tells: true, an atom, what stands before one formula, or what joins two
pub data Sort : Type 0 where
  truth atom : Sort
  prefix : Prefix → Sort
  pair : Pair → Sort

abbrev pub sort_of : Kind → Sort
sort_of True = truth
sort_of Atom = atom
sort_of Not = prefix NOT
sort_of And = pair AND
sort_of Ex = prefix EX
sort_of Eu = pair EU
sort_of Au = pair AU
sort_of Or = pair OR
sort_of Implies = pair IMPLIES
sort_of Ax = prefix AX
sort_of Ef = prefix EF
sort_of Af = prefix AF
sort_of Eg = prefix EG
sort_of Ag = prefix AG

-- how many operands it has
abbrev pub takes : Sort → ℕ
takes truth = 0
takes atom = 0
takes (prefix p) = 1
takes (pair q) = 2

-- the signs in front of the first operand, and between the two
abbrev pub front : Sort → List ℕ
front (prefix p) = sign p
front (pair q) = opening q
front truth = []
front atom = []

abbrev pub inner : Sort → List ℕ
inner (pair q) = middle q
inner (prefix p) = []
inner truth = []
inner atom = []

-- how many signs there are besides the operands
abbrev pub signs : Sort → ℕ
signs (prefix p) = length (sign p)
signs (pair q) = length (opening q) + length (middle q) + length closing
signs truth = 0
signs atom = 0

-- the text of a node without operands
abbrev pub leaf_text : Sort → ℕ → List ℕ
leaf_text truth a = constant
leaf_text atom a = letter ∷ decimal a
leaf_text (prefix p) a = []
leaf_text (pair q) a = []

-- the three numbers of node k
pub record Triple (nodes : List ℕ) (k a b c : ℕ) : Type 0 where
  pub kind : at nodes (3 * k) ≡ a
  pub left : at nodes (3 * k + 1) ≡ b
  pub right : at nodes (3 * k + 2) ≡ c

pub record NodeAt (nodes : List ℕ) (k : ℕ) (node : Node) : Type 0 where
  pub kind : at nodes (3 * k) ≡ kind_number node.kind
  pub left : at nodes (3 * k + 1) ≡ node.left
  pub right : at nodes (3 * k + 2) ≡ node.right

-- `node_at`: the node, or that its first number is no kind's
abbrev pub NodeRead : List ℕ → ℕ → Option Node → Type 0
NodeRead nodes k r = MatchOption r (greatest_kind < at nodes (3 * k)) (λ node. NodeAt nodes k node)

-- node k is the whole of a formula whose nodes begin at `first`: its last operand is the node before it, and the one before that ends where this one begins
unfoldable pub Stands : List ℕ → ℕ → ℕ → Formula → Type 0
Stands nodes k first TRUE = Triple nodes k 0 0 0 × (first ≡ k)
Stands nodes k first (ATOM a) = Triple nodes k 1 a 0 × (first ≡ k)
Stands nodes k first (one p f) = (0 < k) × (Triple nodes k (prefix_kind p) (k - 1) 0 × Stands nodes (k - 1) first f)
Stands nodes k first (two q f g) = (0 < k) × ((i : ℕ) × (Triple nodes k (pair_kind q) i (k - 1) × (Stands nodes i first f × Stands nodes (k - 1) (i + 1) g)))

-- a node of a list of a permitted length
pub record Inside (nodes : List ℕ) (k : ℕ) : Type 0 where
  pub there : 3 * (k + 1) ≤ length nodes
  pub few : length nodes ≤ most_node_numbers

-- the formula that ends at node k: where its nodes begin, and how long its text is
pub record Ended (nodes : List ℕ) (k first bytes : ℕ) : Type 0 where
  pub formula : Formula
  pub named : Named formula
  pub stands : Stands nodes k first formula
  pub long : bytes ≡ length (text_of formula)

-- no formula ends at node k
abbrev pub NoneEnded : List ℕ → ℕ → Type 0
NoneEnded nodes k = (f : Formula) (first : ℕ) → Named f → Stands nodes k first f → ⊥

-- `part_at`: the formula that ends at node k, or that there is none
abbrev pub PartFound : List ℕ → ℕ → Option Part → Type 0
PartFound nodes k r = MatchOption r (NoneEnded nodes k) (λ x. Ended nodes k x.first x.bytes)

-- `leaf_part`: the same of a node whose numbers are known
pub record LeafFound (node : Node) (k : ℕ) (r : Option Part) : Type 0 where
  pub tells : (nodes : List ℕ) → NodeAt nodes k node → PartFound nodes k r

-- no node has more than six signs, so that no formula has more than these
abbrev pub most_signs : ℕ
most_signs = 6 * most_nodes

-- `prefix_part`: the same of a node with one operand, where that ends at the node before it
pub record PrefixAsked (node : Node) (k bytes : ℕ) : Type 0 where
  pub takes_one : takes (sort_of node.kind) ≡ 1
  pub later : 0 < k
  pub few : bytes ≤ most_signs

pub record PrefixFound (node : Node) (k first bytes : ℕ) (r : Option Part) : Type 0 where
  pub tells : (nodes : List ℕ) → NodeAt nodes k node → Ended nodes (k - 1) first bytes → PartFound nodes k r

-- `write_leaf`: the space has room for what it puts
pub record LeafFits (node : Node) (text : List ℕ) (place : ℕ) : Type 0 where
  pub none : takes (sort_of node.kind) ≡ 0
  pub room : place + length (leaf_text (sort_of node.kind) node.left) ≤ length text

-- a formula ends at node k, and the space has room for its text from a place on
pub record Writable (nodes text : List ℕ) (k place : ℕ) : Type 0 where
  pub there : 3 * (k + 1) ≤ length nodes
  pub formula : Formula
  pub first : ℕ
  pub stands : Stands nodes k first formula
  pub room : place + length (text_of formula) ≤ length text

-- `write`: the text of whatever formula ends at node k is put
pub record Written (nodes : List ℕ) (k : ℕ) (before after : List ℕ) (place end : ℕ) : Type 0 where
  pub puts : (f : Formula) (first : ℕ) → Stands nodes k first f → Put before after place end (text_of f)

-- `accepted_part`: node k is the whole of an accepted formula, or of none
pub record PartAccepted (nodes : List ℕ) (k first bytes : ℕ) : Type 0 where
  pub inside : Inside nodes k
  pub found : Ended nodes k first bytes
  pub short : bytes ≤ most_formula

abbrev pub PartYielded : List ℕ → ℕ → Option Part → Type 0
PartYielded nodes k r = MatchOption r ((f : Formula) → YieldsPart nodes k f → ⊥) (λ x. PartAccepted nodes k x.first x.bytes)
