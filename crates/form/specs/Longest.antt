-- How many bytes a print has at most: each line of the form at its longest, and as many lines as the limits let.
use Rattle.std.specs.Prelude.{ℕ, ◌+◌, ◌*◌, List, length}
use Rattle.values.specs.Limits.{most_states, most_atoms, most_transitions, most_nodes}
use Rattle.form.specs.Form.{key_states, key_atoms, key_init, key_label, key_edges, key_edge, key_nodes, key_node}

-- a number, five digits at most, and the byte after it
abbrev pub longest_number : ℕ
longest_number = 5 + 1

-- a line key=count
abbrev pub longest_count : List ℕ → ℕ
longest_count k = length k + longest_number

-- a line of n symbols, with its line feed
abbrev pub longest_row : List ℕ → ℕ → ℕ
longest_row k n = length k + (n + 1)

-- a line of w numbers
abbrev pub longest_line : List ℕ → ℕ → ℕ
longest_line k w = length k + w * longest_number

-- a count, and that many lines of w numbers
abbrev pub longest_list : List ℕ → List ℕ → ℕ → ℕ → ℕ
longest_list many one w n = longest_count many + n * longest_line one w

-- the whole text of a model
abbrev pub longest_print : ℕ
longest_print =
    longest_count key_states
    + (longest_count key_atoms
    + (longest_row key_init most_states
    + (most_states * longest_row key_label most_atoms
    + (longest_list key_edges key_edge 2 most_transitions + longest_list key_nodes key_node 3 most_nodes))))
