-- The text form of a model: lines key=value in this order, states, atoms, init, one label line a state, edges, one edge line each, nodes, one
-- node line each, and nothing after the last.
use Rattle.std.specs.Prelude.{ℕ, List, [], ◌∷◌}
use Rattle.values.specs.Limits.{most_states, most_atoms, most_transitions, most_nodes}
use Rattle.values.specs.Signs.{letters}
use Rattle.model.specs.Model.{Model, as_model}
use Rattle.form.specs.Readers.{Reader, ◌>>=◌, give, count_line, row_line, numbers_line, lines, end}

-- states= atoms= init= label= edges= edge= nodes= node=
abbrev pub key_states : List ℕ
key_states = 115 ∷ 116 ∷ 97 ∷ 116 ∷ 101 ∷ 115 ∷ 61 ∷ []

abbrev pub key_atoms : List ℕ
key_atoms = 97 ∷ 116 ∷ 111 ∷ 109 ∷ 115 ∷ 61 ∷ []

abbrev pub key_init : List ℕ
key_init = 105 ∷ 110 ∷ 105 ∷ 116 ∷ 61 ∷ []

abbrev pub key_label : List ℕ
key_label = 108 ∷ 97 ∷ 98 ∷ 101 ∷ 108 ∷ 61 ∷ []

abbrev pub key_edges : List ℕ
key_edges = 101 ∷ 100 ∷ 103 ∷ 101 ∷ 115 ∷ 61 ∷ []

abbrev pub key_edge : List ℕ
key_edge = 101 ∷ 100 ∷ 103 ∷ 101 ∷ 61 ∷ []

abbrev pub key_nodes : List ℕ
key_nodes = 110 ∷ 111 ∷ 100 ∷ 101 ∷ 115 ∷ 61 ∷ []

abbrev pub key_node : List ℕ
key_node = 110 ∷ 111 ∷ 100 ∷ 101 ∷ 61 ∷ []

-- init has digits, 0 or 1
abbrev pub bits : List ℕ
bits = 48 ∷ 49 ∷ []

-- a count from 1 on, and a line of w numbers each
unfoldable pub listed : List ℕ → List ℕ → ℕ → ℕ → ℕ → Reader (List ℕ)
listed many one w most refusal = do
  n ← count_line many 1 most refusal
  lines (numbers_line one w) n

-- the whole text: init has one digit for each state, a label line one letter an atom
unfoldable pub model_text : Reader Model
model_text = do
  S ← count_line key_states 1 most_states 1
  A ← count_line key_atoms 0 most_atoms 2
  I ← row_line key_init bits S
  L ← lines (row_line key_label letters A) S
  es ← listed key_edges key_edge 2 most_transitions 6
  ns ← listed key_nodes key_node 3 most_nodes 10
  _ ← end
  give (as_model S A L I es ns)
