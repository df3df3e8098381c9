-- The whole answer as the list of its lines.
use Rattle.std.specs.Prelude.{ℕ, zero, suc, List, [], ◌∷◌, ◌++◌, map, cond, eqb, ltb}
use Rattle.values.specs.Limits.{most_nodes}
use Rattle.values.specs.Rows.{row_in}
use Rattle.answer.specs.Answers.{Due, number_due, row_due, model_due}
use Rattle.answer.specs.Answers.Due.{line, none}
use Rattle.answer.specs.Lines.{answer_line, row_line, model_line}
use Rattle.sheet.specs.declared.Sheet.{Sheet}

-- the line of row k of a verdict space; past the most nodes there is none
unfoldable pub row_at : ℕ → List ℕ → ℕ → Due
row_at S space k = cond (ltb k most_nodes) (row_due S (row_in S space k)) none

-- the lines of n rows, from row k on
unfoldable pub rows_from : ℕ → List ℕ → ℕ → ℕ → List Due
rows_from S space k zero = []
rows_from S space k (suc n) = row_at S space k ∷ rows_from S space (suc k) n

-- the whole answer: its number; if that is 0, one row line a node, and the model line
unfoldable pub output : Sheet → List ℕ → List Due
output sheet space =
    number_due sheet.number
    ∷ cond (eqb sheet.number 0) (rows_from sheet.states space 0 sheet.nodes ++ (model_due sheet.model.0 ∷ [])) []

-- the whole answer of a model that was judged, by the rows of its nodes and its verdict
unfoldable pub whole : List (List ℕ) → ℕ → List Due
whole rows v = line (answer_line 0) ∷ (map (λ (row : List ℕ). line (row_line row)) rows ++ (line (model_line v) ∷ []))

-- one line of it, or the end
pub data Place : Type 0 where
  here : Due → Place
  past : Place

-- line k of some lines, counted from 0
unfoldable pub line_at : List Due → ℕ → Place
line_at [] k = past
line_at (d ∷ ds) zero = here d
line_at (d ∷ ds) (suc k) = line_at ds k
