-- What the private functions of this crate ask of one another, and what a model has that is not refused; no promise of a public call cites these.
use Rattle.std.specs.Prelude.{◌≡◌, ℕ, ◌*◌, ◌%◌, ◌<◌, ◌≤◌, List, Bool, false, get_or, length}
use Rattle.lists.specs.Entries.{at, any_below}
use Rattle.values.specs.Limits.{most_nodes}
use Rattle.values.specs.Values.{top}
use Rattle.values.specs.Rows.{row_begin}
use Rattle.kripke.specs.Refusals.{table_refusal}
use Rattle.model.specs.Model.{Initial, Model, node_count, kind_at, left_at}
use Rattle.model.specs.Kinds.{kind_of}
use Rattle.model.specs.declared.kinds.Kind.TheVariants.{Atom}
use Rattle.model.specs.Refusals.{bad_operand, names, unnamed}

-- a node that names an atom names one of the model
abbrev pub AtomFits : ℕ → ℕ → ℕ → Type 0
AtomFits A kind a = kind_of kind ≡ Atom → a < A

-- each node that names an atom names one of the model, and the list is of three numbers a node
pub record NodesFit (A : ℕ) (ns : List ℕ) : Type 0 where
  pub triples : length ns % 3 ≡ 0
  pub atoms : (i : ℕ) → i < node_count ns → AtomFits A (kind_at ns i) (left_at ns i)

-- the marks after i nodes: an atom has one if one of them names it
pub record Marked (ns : List ℕ) (i : ℕ) (marks : List Bool) : Type 0 where
  pub each : (a : ℕ) → get_or marks a false ≡ any_below (names ns a) i

-- what a model has that is not refused, with a verdict space of so many bytes
pub record Fine (m : Model) (room : ℕ) : Type 0 where
  pub table : table_refusal m.states m.transitions ≡ 0
  pub labelled : length m.labels ≡ m.states * m.atoms
  pub small : (i : ℕ) → at m.labels i ≤ top
  pub initials : length m.initial ≡ m.states
  pub starts : (s : ℕ) × Initial m.states m.initial s
  pub some : 0 < node_count m.nodes
  pub few : node_count m.nodes ≤ most_nodes
  pub nodes : NodesFit m.atoms m.nodes
  pub operands : (i : ℕ) → i < node_count m.nodes → bad_operand m.atoms m.nodes i ≡ false
  pub space : row_begin m.states (node_count m.nodes) ≤ room
  pub named : (a : ℕ) → a < m.atoms → unnamed m.nodes a ≡ false
