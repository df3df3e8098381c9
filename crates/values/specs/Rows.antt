-- Stored rows: how a row of verdicts, one value a state, stands in the verdict space.
use Rattle.std.specs.Prelude.{ℕ, ◌*◌, List, Bool, not, ◌||◌, length, take, drop, eqb, ltb}
use Rattle.lists.specs.Entries.{at, any_below}
use Rattle.lists.specs.Rows.{tab}
use Rattle.values.specs.Values.{top}
use Rattle.values.specs.Limits.{most_states, most_nodes}

-- whether an entry is above a value
unfoldable pub some_above : List ℕ → ℕ → Bool
some_above xs v = any_below (λ (i : ℕ). ltb v (at xs i)) (length xs)

-- how many bytes a row of S states takes
unfoldable pub row_size : ℕ → ℕ
row_size S = S

-- where row k begins
unfoldable pub row_begin : ℕ → ℕ → ℕ
row_begin S k = k * row_size S

-- the bytes that stand for a row of values
unfoldable pub stored_row : List ℕ → List ℕ
stored_row row = row

-- the value of a stored row at a state
unfoldable pub value_at : List ℕ → ℕ → ℕ
value_at stored s = at stored s

-- the values of a stored row of S states
unfoldable pub row_values : ℕ → List ℕ → List ℕ
row_values S stored = tab (value_at stored) S

-- not one value a state, or a value above 2
unfoldable pub bad_row : ℕ → List ℕ → Bool
bad_row S stored = not (eqb (length stored) (row_size S)) || some_above stored top

-- no row of at most the most states
unfoldable pub no_row : ℕ → List ℕ → Bool
no_row S stored = ltb most_states S || bad_row S stored

-- the bytes of the largest verdict space
unfoldable pub most_verdicts : ℕ
most_verdicts = row_begin most_states most_nodes

-- the stored row of node k in a space
unfoldable pub row_in : ℕ → List ℕ → ℕ → List ℕ
row_in S space k = take (row_size S) (drop (row_begin S k) space)

-- the verdict that a space holds for node k at a state
unfoldable pub held : ℕ → List ℕ → ℕ → ℕ → ℕ
held S space k s = value_at (row_in S space k) s
