-- `read_row` meets its contract: what is no row is told by the tests, and otherwise `unpack` has filled the values from the front.
use mathlib.Core.Path.{sym, ◌∙◌}
use native.Mathlib.Omega.{arith}
use Rattle.values.proofs.StoredRows.{row_bad, row_bytes, row_filled, row_many, row_some}
use Rattle.values.proofs.rows.read_row.Goals as goal

pub returns-then-states-gt-MOST_STATES : goal.returns-then-states-gt-MOST_STATES
returns-then-states-gt-MOST_STATES c = row_many _ _ c.if-states-gt-MOST_STATES.true

pub returns-then-bad_row : goal.returns-then-bad_row
returns-then-bad_row c = row_bad _ _ (sym c.bad_row.ensures ∙ c.if-bad_row.true)

pub unpack-requires : goal.unpack-requires
unpack-requires c =
    let x = c.args in
    (omega arith, row_bytes x.states x.stored.now (sym c.bad_row.ensures ∙ c.if-bad_row.false))

pub returns : goal.returns
returns c = (row_some _ _ c.if-states-gt-MOST_STATES.false (sym c.bad_row.ensures ∙ c.if-bad_row.false), row_filled _ _ _ c.unpack.ensures)
