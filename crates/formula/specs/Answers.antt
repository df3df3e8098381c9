-- What the calls promise, for every input: of reading the answer and the node space, of printing the answer and the text space.
use Rattle.std.specs.Prelude.{◌≡◌, ℕ, ◌+◌, ◌*◌, ◌<◌, ◌≤◌, List, ◌++◌, Result, Ok, Err, length, take}
use Rattle.lists.specs.Rows.{fill}
use Rattle.values.specs.Limits.{most_formula, most_nodes, most_node_numbers}
use Rattle.formula.specs.Tree.{Formula, size, Named}
use Rattle.formula.specs.Text.{text_of}
use Rattle.formula.specs.Nodes.{nodes_from, nodes_of}
use Rattle.values.specs.declared.refusal.Refusal.{Refusal}
use Rattle.values.specs.declared.refusal.Refusal.TheVariants.{NodeList, FormulaForm, TableSpace}

-- what a call comes to: a formula, or a refusal
pub data Outcome : Type 0 where
  formula : Formula → Outcome
  refusal : Refusal → Outcome

-- a text of the grammar, within the limit, is this formula's
pub record Spells (text : List ℕ) (f : Formula) : Type 0 where
  pub named : Named f
  pub spelt : text ≡ text_of f
  pub short : length text ≤ most_formula

-- reading a text into a node space of so many numbers: the short space comes first, then the form, then the count
pub data Reads (text : List ℕ) (room : ℕ) (o : Outcome) : Type 0 where
  tight : room < most_node_numbers → o ≡ refusal TableSpace → Reads text room o
  unspelt : most_node_numbers ≤ room → ((f : Formula) → Spells text f → ⊥) → o ≡ refusal FormulaForm → Reads text room o
  many : most_node_numbers ≤ room → (f : Formula) → Spells text f → most_nodes < size f → o ≡ refusal NodeList → Reads text room o
  reads : most_node_numbers ≤ room → (f : Formula) → Spells text f → size f ≤ most_nodes → o ≡ formula f → Reads text room o

-- a formula within both limits
pub record Accepted (f : Formula) : Type 0 where
  pub named : Named f
  pub short : length (text_of f) ≤ most_formula
  pub few : size f ≤ most_nodes

-- the first k + 1 nodes of a list end with those of a formula, numbered from `first` on
pub record PartAt (nodes : List ℕ) (k first : ℕ) (f : Formula) : Type 0 where
  pub there : 3 * (k + 1) ≤ length nodes
  pub whole : first + size f ≡ k + 1
  pub listed : take (3 * (k + 1)) nodes ≡ take (3 * first) nodes ++ nodes_from first f

-- an accepted text yields this list
abbrev pub Yields : List ℕ → Formula → Type 0
Yields nodes f = Accepted f × (nodes ≡ nodes_of f)

-- node k of a list is the whole of an accepted formula
abbrev pub YieldsPart : List ℕ → ℕ → Formula → Type 0
YieldsPart nodes k f = Accepted f × (length nodes ≤ most_node_numbers) × ((first : ℕ) × PartAt nodes k first f)

-- printing the formula that a list is of, into a text space of so many bytes: the short space comes first, then the form
pub data Prints (IsOf : Formula → Type 0) (room : ℕ) (o : Outcome) : Type 0 where
  tight : room < most_formula → o ≡ refusal TableSpace → Prints IsOf room o
  unyielded : most_formula ≤ room → ((f : Formula) → IsOf f → ⊥) → o ≡ refusal FormulaForm → Prints IsOf room o
  prints : most_formula ≤ room → (f : Formula) → IsOf f → o ≡ formula f → Prints IsOf room o

-- the answer of reading: how many nodes, or the refusal
abbrev pub read_of : Outcome → Result ℕ Refusal
read_of (formula f) = Ok (size f)
read_of (refusal e) = Err e

-- and of printing: how many bytes
abbrev pub printed_of : Outcome → Result ℕ Refusal
printed_of (formula f) = Ok (length (text_of f))
printed_of (refusal e) = Err e

-- a space afterwards: its front filled by what the formula has, the rest as before; a refusal leaves all of it
abbrev pub space_after : (Formula → List ℕ) → Outcome → List ℕ → List ℕ
space_after has (formula f) before = fill (has f) before
space_after has (refusal e) before = before

-- `read_formula`
pub record FormulaRead (text before after : List ℕ) (r : Result ℕ Refusal) : Type 0 where
  pub outcome : Outcome
  pub comes : Reads text (length before) outcome
  pub answer : r ≡ read_of outcome
  pub space : after ≡ space_after nodes_of outcome before

-- what an accepted text held: an accepted formula whose text it is, its size in the answer and its nodes in the front
pub record ReadAs (text before after : List ℕ) (n : ℕ) : Type 0 where
  pub tree : Formula
  pub accepted : Accepted tree
  pub spelt : text ≡ text_of tree
  pub count : n ≡ size tree
  pub filled : after ≡ fill (nodes_of tree) before

-- `print_formula`, and for one node of a list `print_part`
pub record FormulaPrinted (IsOf : Formula → Type 0) (before after : List ℕ) (r : Result ℕ Refusal) : Type 0 where
  pub outcome : Outcome
  pub comes : Prints IsOf (length before) outcome
  pub answer : r ≡ printed_of outcome
  pub space : after ≡ space_after text_of outcome before

-- a formula was printed whose nodes these are, and no other formula has them
pub record PrintedOf (IsOf : Formula → Type 0) (before after : List ℕ) (n : ℕ) : Type 0 where
  pub tree : Formula
  pub listed : IsOf tree
  pub alone : (g : Formula) → IsOf g → g ≡ tree
  pub count : n ≡ length (text_of tree)
  pub filled : after ≡ fill (text_of tree) before
