-- The rows of a model's nodes, as they stand in the verdict space, and the model's verdict.
use Rattle.std.specs.Prelude.{ℕ, zero, suc, ◌-◌, min, List, [], ◌∷◌, ◌++◌, map, cond, get_or, eqb}
use Rattle.lists.specs.Entries.{at}
use Rattle.lists.specs.Choosing.{best}
use Rattle.values.specs.Rows.{stored_row}
use Rattle.model.specs.Model.{Model, node_count}
use Rattle.model.specs.Kinds.{kind_of}
use Rattle.ctl.specs.Nodes.{node_row}

-- the rows so far, and those of the nodes to come, each from its operands' rows
unfoldable pub rows_from : Model → List (List ℕ) → List ℕ → List (List ℕ)
rows_from m rows [] = rows
rows_from m rows (k ∷ []) = rows
rows_from m rows (k ∷ a ∷ []) = rows
rows_from m rows (k ∷ a ∷ b ∷ ns) = rows_from m (rows ++ (node_row m (kind_of k) a (get_or rows a []) (get_or rows b []) ∷ [])) ns

-- the row of every node
unfoldable pub rows_of : Model → List (List ℕ)
rows_of m = rows_from m [] m.nodes

-- the verdict of node k at a state
unfoldable pub verdict_at : Model → ℕ → ℕ → ℕ
verdict_at m k s = at (get_or (rows_of m) k []) s

-- rows as they are stored, one after the other
unfoldable pub stored_rows : List (List ℕ) → List ℕ
stored_rows [] = []
stored_rows (row ∷ rows) = stored_row row ++ stored_rows rows

-- the initial states below n, ascending
unfoldable pub initial_states : ℕ → List ℕ → List ℕ
initial_states zero initial = []
initial_states (suc s) initial = initial_states s initial ++ cond (eqb (at initial s) 1) (s ∷ []) []

-- the smallest of a row's values at the initial states
unfoldable pub over_initial : ℕ → List ℕ → List ℕ → ℕ
over_initial S initial row = best min (map (at row) (initial_states S initial))

-- the model's verdict is the smallest of the last node's values there
unfoldable pub model_verdict : Model → ℕ
model_verdict m = over_initial m.states m.initial (get_or (rows_of m) (node_count m.nodes - 1) [])
