-- `write_row_at` meets its contract: a row that the space has is written, and any other has no line.
use native.Mathlib.Omega.{arith}
use Rattle.sheet.proofs.RowLines.{row_within, row_past, row_many, row_here, row_short, none_written}
use Rattle.sheet.proofs.lines.write_row_at.Goals as goal

pub returns-then-k-ge-MOST_NODES : goal.returns-then-k-ge-MOST_NODES
returns-then-k-ge-MOST_NODES c = none_written _ (row_past _ _ _ c.if-k-ge-MOST_NODES.true)

pub returns-then-states-gt-MOST_STATES : goal.returns-then-states-gt-MOST_STATES
returns-then-states-gt-MOST_STATES c = none_written _ (row_many _ _ _ c.if-k-ge-MOST_NODES.false c.if-states-gt-MOST_STATES.true)

pub overflow_mul-begin : goal.overflow_mul-begin
overflow_mul-begin c = omega (arith, row_within c.args.states c.args.k c.row_size-size.result c.if-states-gt-MOST_STATES.false c.if-k-ge-MOST_NODES.false c.row_size-size.ensures)

pub overflow_add-end : goal.overflow_add-end
overflow_add-end c = omega (arith, row_within c.args.states c.args.k c.row_size-size.result c.if-states-gt-MOST_STATES.false c.if-k-ge-MOST_NODES.false c.row_size-size.ensures)

pub returns-then-verdicts-end : goal.returns-then-verdicts-end
returns-then-verdicts-end c = none_written _ (row_short _ _ _ _ c.if-k-ge-MOST_NODES.false c.row_size-size.ensures c.if-verdicts-end.true)

pub returns : goal.returns
returns c = rw (row_here _ c.args.verdicts.now c.args.k _ c.if-k-ge-MOST_NODES.false c.row_size-size.ensures) c.write_row.ensures
