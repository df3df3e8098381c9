-- What the clause of a kind must meet: duality, a step unfolded, least and greatest solutions, and what it says of paths.
use Rattle.std.specs.Prelude.{◌≡◌, ℕ, ◌<◌, ◌≤◌, List, [], ◌↔◌, length}
use Rattle.lists.specs.Entries.{at}
use Rattle.values.specs.Values.{top, neg}
use Rattle.kripke.specs.Transitions.{Edge, Graph}
use Rattle.kripke.specs.Until.{opposite}
use Rattle.model.specs.Model.{Model}
use Rattle.model.specs.declared.kinds.Kind.{Kind}
use Rattle.ctl.specs.Nodes.{node_value, node_row}

-- the value at a state of a kind with two operands, and of one with one; a left number counts for atoms alone
abbrev pub of_two : Model → Kind → List ℕ → List ℕ → ℕ → ℕ
of_two m k f g s = node_value m k 0 f g s

abbrev pub of_one : Model → Kind → List ℕ → ℕ → ℕ
of_one m k f s = node_value m k 0 f [] s

-- the row of a kind with one operand
abbrev pub row_of : Model → Kind → List ℕ → List ℕ
row_of m k f = node_row m k 0 f []

-- a row of S states: one value a state, each at most 2
pub record RowFine (S : ℕ) (f : List ℕ) : Type 0 where
  pub size : length f ≡ S
  pub small : (s : ℕ) → at f s ≤ top

-- this holds on any graph in which each state has a successor, of any two rows, at each state
abbrev pub OnRows : (Model → List ℕ → List ℕ → ℕ → Type 0) → Type 0
OnRows Holds = (m : Model) → Graph m.states m.transitions → (f g : List ℕ) → RowFine m.states f → RowFine m.states g → (s : ℕ) → s < m.states → Holds m f g s

-- an operator is not the other one of not
abbrev pub Dual : Kind → Kind → Type 0
Dual op other = OnRows (λ m f g s. of_two m op f g s ≡ neg (of_two m other (opposite m.states f) (opposite m.states g) s))

-- op f is f joined to the next of op f
abbrev pub Unfolds : Kind → Kind → Kind → Type 0
Unfolds op join next = OnRows (λ m f g s. of_one m op f s ≡ of_two m join f (row_of m next (row_of m op f)) s)

-- no row that this equation does not raise is smaller anywhere
abbrev pub Least : Kind → Kind → Kind → Type 0
Least op join next = OnRows (λ m f X s. ((t : ℕ) → t < m.states → of_two m join f (row_of m next X) t ≤ at X t) → of_one m op f s ≤ at X s)

-- no row that this equation does not lower is greater anywhere
abbrev pub Greatest : Kind → Kind → Kind → Type 0
Greatest op join next = OnRows (λ m f X s. ((t : ℕ) → t < m.states → at X t ≤ of_two m join f (row_of m next X) t) → at X s ≤ of_one m op f s)

-- op f reaches a level exactly if this holds of the states where f reaches it, seen from s
abbrev pub Says : Kind → (List ℕ → ℕ → (ℕ → Type 0) → Type 0) → Type 0
Says op Seen = OnRows (λ m f g s. (level : ℕ) → level ≤ top → (level ≤ of_one m op f s) ↔ Seen m.transitions s (λ (t : ℕ). level ≤ at f t))

-- some transition leads to such a state, and so does every one
abbrev pub SomeNext : List ℕ → ℕ → (ℕ → Type 0) → Type 0
SomeNext es s Holds = (t : ℕ) × Edge es s t × Holds t

abbrev pub EveryNext : List ℕ → ℕ → (ℕ → Type 0) → Type 0
EveryNext es s Holds = (t : ℕ) → Edge es s t → Holds t
