-- The limits, one name each, and the sizes that follow from them.
use Rattle.std.specs.Prelude.{ℕ, ◌*◌}

abbrev pub most_states : ℕ
most_states = 256

abbrev pub most_atoms : ℕ
most_atoms = 32

abbrev pub most_transitions : ℕ
most_transitions = 1024

abbrev pub most_nodes : ℕ
most_nodes = 64

-- of a model's text, in bytes
abbrev pub most_text : ℕ
most_text = 32768

-- of a formula's text, in bytes
abbrev pub most_formula : ℕ
most_formula = 4096

-- the kinds of nodes are 0 to this
abbrev pub greatest_kind : ℕ
greatest_kind = 13

-- a label for each state and atom
abbrev pub most_labels : ℕ
most_labels = most_states * most_atoms

-- a transition is two numbers
abbrev pub most_transition_numbers : ℕ
most_transition_numbers = 2 * most_transitions

-- a node is three numbers
abbrev pub most_node_numbers : ℕ
most_node_numbers = 3 * most_nodes
