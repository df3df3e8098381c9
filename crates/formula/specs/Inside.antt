-- What the readers ask of one another and answer; no promise of a public call cites these.
use Rattle.std.specs.Prelude.{◌≡◌, ℕ, ◌+◌, ◌*◌, ◌<◌, ◌≤◌, List, [], ◌∷◌, ◌++◌, Bool, true, false, ◌&&◌, Option, MatchOption, length, drop, eqb, leb}
use Rattle.std.specs.List.{starts_with}
use Rattle.lists.specs.Rows.{Put}
use Rattle.values.specs.Limits.{most_atoms, most_nodes}
use Rattle.values.specs.Signs.{decimal}
use Rattle.model.specs.Kinds.{kind_of}
use Rattle.model.specs.declared.kinds.Kind.{Kind}
use Rattle.model.specs.declared.kinds.Kind.TheVariants.{And, Eu, Au}
use Rattle.formula.specs.Tree.{Prefix, Pair, AND, EU, AU, OR, IMPLIES, Formula, TRUE, ATOM, one, two, size, Named}
use Rattle.formula.specs.Text.{middle, text_of}
use Rattle.formula.specs.Nodes.{prefix_kind, pair_kind, nodes_from}
use Rattle.formula.specs.declared.signs.Sign.{Sign}
use Rattle.formula.specs.declared.atoms.Atom.{Atom}
use Rattle.formula.specs.declared.place.Place.{Place}

-- whether a text begins with these bytes
abbrev pub begins : List ℕ → List ℕ → Bool
begins k u = starts_with eqb u k

-- whether a byte is one of 0 to 9
abbrev pub is_digit : ℕ → Bool
is_digit c = leb 48 c && leb c 57

-- a byte is the digit d
pub record IsDigit (c d : ℕ) : Type 0 where
  pub test : is_digit c ≡ true
  pub byte : c ≡ 48 + d
  pub small : d < 10

-- a text doesn't go on with a digit
abbrev pub Stops : List ℕ → Type 0
Stops [] = Unit {0}
Stops (c ∷ u) = is_digit c ≡ false

-- a text begins with a sign, of this kind and size
pub record SignIs {A : Type 0} (sign_of : A → List ℕ) (named : A → Kind) (u : List ℕ) (x : Sign) : Type 0 where
  pub which : A
  pub stands : begins (sign_of which) u ≡ true
  pub kind : x.kind ≡ named which
  pub size : x.size ≡ length (sign_of which)
  pub inside : x.size ≤ length u

-- with none of the signs
abbrev pub NoSign : {A : Type 0} → (A → List ℕ) → List ℕ → Type 0
NoSign {A} sign_of u = (a : A) → begins (sign_of a) u ≡ false

-- what a text begins with: one of the signs, or none
abbrev pub SignAt : {A : Type 0} → (A → List ℕ) → (A → Kind) → List ℕ → Option Sign → Type 0
SignAt sign_of named u r = MatchOption r (NoSign sign_of u) (λ x. SignIs sign_of named u x)

-- the kind of a prefix
abbrev pub prefix_named : Prefix → Kind
prefix_named p = kind_of (prefix_kind p)

-- what begins a pair, for which the sign between its parts tells the kind: ( or E( or A(
pub data Bracket : Type 0 where
  plain some every : Bracket

abbrev pub opened : Bracket → List ℕ
opened plain = 40 ∷ []
opened some = 69 ∷ 40 ∷ []
opened every = 65 ∷ 40 ∷ []

abbrev pub bracket_of : Pair → Bracket
bracket_of AND = plain
bracket_of EU = some
bracket_of AU = every
bracket_of OR = plain
bracket_of IMPLIES = plain

-- a bracket goes by the first kind that it begins
abbrev pub bracket_kind : Bracket → Kind
bracket_kind plain = And
bracket_kind some = Eu
bracket_kind every = Au

-- the pairs that a bracket begins
pub record PairIn (b : Bracket) : Type 0 where
  pub pair : Pair
  pub within : bracket_of pair ≡ b

abbrev pub middle_in : {b : Bracket} → PairIn b → List ℕ
middle_in x = middle x.pair

abbrev pub kind_in : {b : Bracket} → PairIn b → Kind
kind_in x = kind_of (pair_kind x.pair)

-- what stands between the parts of a pair with this bracket
abbrev pub MiddleAt : Bracket → List ℕ → Option Sign → Type 0
MiddleAt b u r = SignAt {A = PairIn b} middle_in kind_in u r

-- a number of so many bytes names an atom if it is below the most
abbrev pub EndedAt : ℕ → ℕ → Option Atom → Type 0
EndedAt a size r = MatchOption r (most_atoms ≤ a) (λ x. (x.number ≡ a) × (x.size ≡ size) × (a < most_atoms))

-- a text begins with the number of an atom, with no digit behind it; or with none
pub record AtomFound (u : List ℕ) (a size : ℕ) : Type 0 where
  pub named : a < most_atoms
  pub some : 0 < size
  pub inside : size ≤ length u
  pub spelt : u ≡ decimal a ++ drop size u
  pub stops : Stops (drop size u)

abbrev pub NoAtom : List ℕ → Type 0
NoAtom u = (a : ℕ) (t : List ℕ) → a < most_atoms → Stops t → u ≡ decimal a ++ t → ⊥

abbrev pub AtomAt : List ℕ → Option Atom → Type 0
AtomAt u r = MatchOption r (NoAtom u) (λ x. AtomFound u x.number x.size)

-- a text begins with a formula, and t stands behind it
pub record Begins (u : List ℕ) (f : Formula) (t : List ℕ) : Type 0 where
  pub named : Named f
  pub spelt : u ≡ text_of f ++ t
  pub stops : Stops t

-- with no other formula than f, and r behind it
abbrev pub Only : List ℕ → Formula → List ℕ → Type 0
Only u f r = (g : Formula) (t : List ℕ) → Begins u g t → (g ≡ f) × (t ≡ r)

-- with no formula of a sort
abbrev pub NoneOf : (Formula → Type 0) → List ℕ → Type 0
NoneOf Sort u = (g : Formula) (t : List ℕ) → Sort g → Begins u g t → ⊥

-- the sorts: every formula; a term, with no prefix; T or an atom
abbrev pub Any : Formula → Type 0
Any f = Unit {0}

abbrev pub Term : Formula → Type 0
Term TRUE = Unit {0}
Term (ATOM a) = Unit {0}
Term (one p f) = ⊥
Term (two q f g) = Unit {0}

abbrev pub Leaf : Formula → Type 0
Leaf TRUE = Unit {0}
Leaf (ATOM a) = Unit {0}
Leaf (one p f) = ⊥
Leaf (two q f g) = ⊥

-- a node becomes node n of a space, if there may be so many
abbrev pub NodePut : ℕ → List ℕ → List ℕ → List ℕ → Type 0
NodePut n node before after = n < most_nodes → Put before after (3 * n) (3 * (n + 1)) node

-- a formula was read from the front of a text, v is behind it; its nodes, from n up to m, stand in the space if there may be so many
pub record Found (u : List ℕ) (n : ℕ) (before after v : List ℕ) (m : ℕ) : Type 0 where
  pub tree : Formula
  pub named : Named tree
  pub spelt : u ≡ text_of tree ++ v
  pub only : Only u tree v
  pub count : m ≡ n + size tree
  pub more : n < m
  pub ahead : m + length v ≤ n + length u
  pub put : m ≤ most_nodes → Put before after (3 * n) (3 * m) (nodes_from n tree)

-- the readers' answer, for the formulas of a sort: from a place to the one behind it
abbrev pub Parses : (Formula → Type 0) → Place → List ℕ → List ℕ → Place → Option (Unit {0}) → Type 0
Parses Sort place before after behind r = MatchOption r (NoneOf Sort place.rest.now) (λ x. Found place.rest.now place.nodes before after behind.rest.now behind.nodes)
