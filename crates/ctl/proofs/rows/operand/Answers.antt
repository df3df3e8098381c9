-- `operand` meets its contract: zeros for what is no earlier node, and otherwise the row that is read from its part of the space.
use mathlib.Core.Path.{subst}
use Rattle.values.specs.Answers.{RowRead}
use native.Mathlib.Omega.{arith}
use Rattle.ctl.proofs.Operands.{operand_bytes, operand_ends, operand_none, operand_row_lem, operand_there}
use Rattle.ctl.proofs.rows.operand.Goals as goal

pub returns-then-i-k : goal.returns-then-i-k
returns-then-i-k c = operand_none _ _ _ _ c.if-i-k.true

pub overflow_mul-begin : goal.overflow_mul-begin
overflow_mul-begin c =
    omega (arith, c.requires.within, operand_ends c.args.states c.args.k c.args.i c.row_size-size.result c.row_size-size.ensures c.if-i-k.false)

pub overflow_add-end : goal.overflow_add-end
overflow_add-end c =
    omega (arith, c.requires.within, operand_ends c.args.states c.args.k c.args.i c.row_size-size.result c.row_size-size.ensures c.if-i-k.false)

pub slice_bounds-read_row-end : goal.slice_bounds-read_row-end
slice_bounds-read_row-end c =
    omega (arith, c.requires.within, operand_ends c.args.states c.args.k c.args.i c.row_size-size.result c.row_size-size.ensures c.if-i-k.false)

pub unwrap-requires : goal.unwrap-requires
unwrap-requires c = operand_there _ _ _ _ c.requires c.if-i-k.false _ _ (operand_bytes c.args.states c.args.verdicts.now c.args.k c.row_size-size.result c.row_size-size.ensures) c.read_row.ensures

pub returns : goal.returns
returns c = operand_row_lem _ _ _ _ c.requires c.if-i-k.false c.unwrap.result _ (operand_bytes c.args.states c.args.verdicts.now c.args.k c.row_size-size.result c.row_size-size.ensures) (subst (RowRead c.args.states _) c.unwrap.ensures c.read_row.ensures)
