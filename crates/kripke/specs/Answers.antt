-- What the calls of this crate answer, for every input.
use Rattle.std.specs.Prelude.{◌≡◌, ℕ, ◌+◌, ◌-◌, List, [], ◌∷◌, ◌++◌, Bool, cond, not, ◌&&◌, length, replicate, leb}
use Rattle.lists.specs.Rows.{tab, fill}
use Rattle.values.specs.Limits.{most_states}
use Rattle.values.specs.Rows.{bad_row, row_size, row_values, stored_row}
use Rattle.kripke.specs.declared.tables.Tables.{Tables}
use Rattle.kripke.specs.Transitions.{first_out}
use Rattle.kripke.specs.Until.{opposite}

-- for each state where its transitions begin, then how many there are, then zeros
unfoldable pub beginnings : ℕ → List ℕ → List ℕ
beginnings S es = tab (first_out es) (S + 1) ++ replicate (most_states - S) 0

-- `successors`: where the transitions of a part of the list lead, one after the other
abbrev pub targets : List ℕ → List ℕ
targets [] = []
targets (f ∷ []) = []
targets (f ∷ t ∷ es) = t ∷ targets es

-- `read_tables`: the beginnings, and the values of both rows
pub record TablesHold (S : ℕ) (es left right : List ℕ) (t : Tables) : Type 0 where
  pub graph : t.begins ≡ beginnings S es
  pub left_row : t.left ≡ row_values S left ++ replicate (most_states - S) 0
  pub right_row : t.right ≡ row_values S right ++ replicate (most_states - S) 0

-- the row "not" of a row, as it is stored
unfoldable pub opposite_row : ℕ → List ℕ → List ℕ
opposite_row S stored = stored_row (opposite S (row_values S stored))

-- `opposite_row`: whether it is a row of at most the most states that the space has room for, and then the row "not" stands at its front
pub record OppositeStored (S : ℕ) (stored before after : List ℕ) (answer : Bool) : Type 0 where
  pub is : answer ≡ (leb S most_states && (not (bad_row S stored) && leb (row_size S) (length before)))
  pub space : after ≡ cond answer (fill (opposite_row S stored) before) before
