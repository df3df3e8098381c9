-- How a model is printed, and which models can be.
use Rattle.std.specs.Prelude.{ℕ, zero, suc, ◌*◌, ◌≤◌, ◌≡◌, List, [], ◌∷◌, ◌++◌, map, length, take, drop}
use Rattle.lists.specs.Entries.{at, All}
use Rattle.values.specs.Values.{top}
use Rattle.values.specs.Limits.{most_states, most_atoms, most_transitions, most_nodes}
use Rattle.values.specs.Signs.{decimal, letters, line_feed, numbers_print}
use Rattle.kripke.specs.Transitions.{count}
use Rattle.model.specs.Model.{Model, node_count}
use Rattle.model.specs.Labels.{label_count}
use Rattle.form.specs.Form.{key_states, key_atoms, key_init, key_label, key_edges, key_edge, key_nodes, key_node, bits}

-- a line key=count
abbrev pub count_print : List ℕ → ℕ → List ℕ
count_print k n = k ++ (decimal n ++ (line_feed ∷ []))

-- a line key=symbols, the sign of each value
abbrev pub row_print : List ℕ → List ℕ → List ℕ → List ℕ
row_print k signs vs = k ++ (map (at signs) vs ++ (line_feed ∷ []))

-- a line of numbers
abbrev pub line_print : List ℕ → List ℕ → List ℕ
line_print k ns = k ++ numbers_print ns

-- n lines, of w values each
unfoldable pub lines_print : (List ℕ → List ℕ) → ℕ → ℕ → List ℕ → List ℕ
lines_print line w zero vs = []
lines_print line w (suc n) vs = line (take w vs) ++ lines_print line w n (drop w vs)

-- a count, and its lines of w numbers
abbrev pub listed_print : List ℕ → List ℕ → ℕ → ℕ → List ℕ → List ℕ
listed_print many one w n xs = count_print many n ++ lines_print (line_print one) w n xs

-- the whole text of a model
unfoldable pub print : Model → List ℕ
print m =
    count_print key_states m.states
    ++ (count_print key_atoms m.atoms
    ++ (row_print key_init bits m.initial
    ++ (lines_print (row_print key_label letters) m.atoms m.states m.labels
    ++ (listed_print key_edges key_edge 2 (count m.transitions) m.transitions
    ++ listed_print key_nodes key_node 3 (node_count m.nodes) m.nodes))))

-- a count in its range, and up to 65,535 as every number
pub record Count (lo hi n : ℕ) : Type 0 where
  pub least : lo ≤ n
  pub most : n ≤ hi
  pub number : n ≤ 65535

-- n values, each up to h
pub record Values (n h : ℕ) (vs : List ℕ) : Type 0 where
  pub size : length vs ≡ n
  pub each : All (λ v. v ≤ h) vs

-- n lines of w numbers can be printed
pub record PrintableList (w most n : ℕ) (xs : List ℕ) : Type 0 where
  pub count : Count 1 most n
  pub numbers : Values (w * n) 65535 xs

-- counts in range, lengths fitting, labels 0 to 2, initial entries 0 or 1, numbers up to 65,535; an initial list without a 1 is printable
pub record Printable (m : Model) : Type 0 where
  pub states : Count 1 most_states m.states
  pub atoms : Count 0 most_atoms m.atoms
  pub initial : Values m.states 1 m.initial
  pub labels : Values (label_count m) top m.labels
  pub transitions : PrintableList 2 most_transitions (count m.transitions) m.transitions
  pub nodes : PrintableList 3 most_nodes (node_count m.nodes) m.nodes
