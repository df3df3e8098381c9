-- `read_tables` meets its contract: refused for the tables, for a row, or not refused.
use mathlib.Core.Logic.{inl, inr}
use Rattle.values.proofs.Refusing.{handed_on}
use Rattle.kripke.proofs.Reading.{question_read, question_rows, question_table}
use Rattle.kripke.proofs.tables.read_tables.Goals as goal

pub returns-in_err-graph : goal.returns-in_err-graph
returns-in_err-graph c = handed_on _ _ _ _ c.from_residual.ensures.1 (question_table _ _ _ _ _ c.in_err-graph.ensures)

pub returns-in_default : goal.returns-in_default
returns-in_default c = question_rows _ _ _ _ c.in_ok-graph.ensures.0 (inl c.in_default.ensures)

pub returns-in_default-read_row : goal.returns-in_default-read_row
returns-in_default-read_row c = question_rows _ _ _ _ c.in_ok-graph.ensures.0 (inr c.in_default-read_row.ensures)

pub returns : goal.returns
returns c =
    let l = c.in-Some.ensures in
    let r = c.in-Some-read_row.ensures in
    (question_read _ _ _ _ c.in_ok-graph.ensures.0 l.0 r.0, record { graph = c.in_ok-graph.ensures.1; left_row = l.1; right_row = r.1 })
