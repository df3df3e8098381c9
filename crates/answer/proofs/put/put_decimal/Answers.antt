-- `put_decimal` meets its contract: up to three digits, or the hundreds and two digits behind them.
use native.Mathlib.Omega.{arith}
use Rattle.lists.proofs.Placed.{put_then}
use Rattle.answer.proofs.Digits.{decimal_more, size_more}
use Rattle.answer.proofs.put.put_decimal.Goals as goal

pub put_short-a-requires : goal.put_short-a-requires
put_short-a-requires c = (omega arith, omega (arith, size_more c.args.number c.if-number-lt1000.false (omega arith)))

pub put_digit-b-requires : goal.put_digit-b-requires
put_digit-b-requires c = (omega arith, omega (arith, size_more c.args.number c.if-number-lt1000.false (omega arith), c.put_short-a.ensures.ends))

pub put_digit-requires : goal.put_digit-requires
put_digit-requires c = (omega arith, omega (arith, size_more c.args.number c.if-number-lt1000.false (omega arith), c.put_short-a.ensures.ends, c.put_digit-b.ensures.ends))

pub returns : goal.returns
returns c = rw (decimal_more _ c.if-number-lt1000.false (omega arith)) (put_then c.put_short-a.ensures (put_then c.put_digit-b.ensures c.put_digit.ensures))
