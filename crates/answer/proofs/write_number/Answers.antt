-- `write_number` meets its contract: the key, the digits and the line feed, one behind the other.
use native.Mathlib.Omega.{arith}
use Rattle.answer.specs.Lines.{answer_line}
use Rattle.lists.proofs.Placed.{put_then}
use Rattle.values.proofs.Decimals.{decimal_short}
use Rattle.answer.proofs.Promises.{line_put, line_short}
use Rattle.answer.proofs.Sizes.{answer_size}
use Rattle.answer.proofs.write_number.Goals as goal

pub overflow_add-size : goal.overflow_add-size
overflow_add-size c = omega (arith, decimal_short c.args.number, c.decimal_size-size.ensures)

pub returns-then-buffer-size : goal.returns-then-buffer-size
returns-then-buffer-size c = line_short _ _ (omega (arith, answer_size c.args.number, c.decimal_size-size.ensures))

pub returns : goal.returns
unfolding answer_line
returns c =
    line_put
    (put_then c.put_bytes-a.ensures (put_then c.put_decimal-b.ensures c.put_byte-end.ensures))
    (omega (arith, answer_size c.args.number, c.decimal_size-size.ensures))
