-- The two rows that a reason for a verdict is asked with, by the kind of the node; which statement is made with which is named in Paths and
-- in Pictures.
use Rattle.std.specs.Prelude.{ℕ, List}
use Rattle.values.specs.Rows.{row_in, stored_row}
use Rattle.kripke.specs.Answers.{opposite_row}
use Rattle.kripke.specs.Until.{everywhere}
use Rattle.model.specs.Model.{Model, left_at, right_at}

-- a left and a right row, as they are stored
pub record Rows : Type 0 where
  pub left : List ℕ
  pub right : List ℕ

-- from a judged model, the space that was written and a node
abbrev pub RowsOf : Type 0
RowsOf = Model → List ℕ → ℕ → Rows

-- an until: the rows that the space holds for its two parts
abbrev pub of_parts : RowsOf
of_parts m space k = record { left = row_in m.states space (left_at m.nodes k); right = row_in m.states space (right_at m.nodes k) }

-- EF and AF: true everywhere, and the row of its part
abbrev pub of_part : RowsOf
of_part m space k = record { left = stored_row (everywhere m.states); right = row_in m.states space (left_at m.nodes k) }

-- EG and AG: true everywhere, and the row "not" of its part
abbrev pub of_not : RowsOf
of_not m space k = record { left = stored_row (everywhere m.states); right = opposite_row m.states (row_in m.states space (left_at m.nodes k)) }
