-- `put_short` meets its contract: one digit, two or three, one behind the other.
use mathlib.Core.Path.{ap}
use native.Mathlib.Omega.{arith}
use lib.ListN.{length}
use Rattle.lists.proofs.Placed.{put_then}
use Rattle.values.proofs.Decimals.{decimal_one}
use Rattle.answer.proofs.Digits.{decimal_two, decimal_three}
use Rattle.answer.proofs.put.put_short.Goals as goal

pub put_digit-requires : goal.put_digit-requires
put_digit-requires c = (c.if-number-lt10.true, omega (arith, ap length (decimal_one _ c.if-number-lt10.true)))

pub returns-then-number-lt10 : goal.returns-then-number-lt10
returns-then-number-lt10 c = rw (decimal_one _ c.if-number-lt10.true) c.put_digit.ensures

pub put_digit-a-requires : goal.put_digit-a-requires
put_digit-a-requires c = (omega arith, omega (arith, ap length (decimal_two _ c.if-number-lt10.false c.if-number-lt100.true)))

pub put_digit-requires-then-number-lt100 : goal.put_digit-requires-then-number-lt100
put_digit-requires-then-number-lt100 c = (omega arith, omega (arith, ap length (decimal_two _ c.if-number-lt10.false c.if-number-lt100.true), c.put_digit-a.ensures.ends))

pub returns-then-number-lt100 : goal.returns-then-number-lt100
returns-then-number-lt100 c = rw (decimal_two _ c.if-number-lt10.false c.if-number-lt100.true) (put_then c.put_digit-a.ensures c.put_digit-then-number-lt100.ensures)

pub put_digit-a-requires-2 : goal.put_digit-a-requires-2
put_digit-a-requires-2 c = (omega (arith, c.requires.0), omega (arith, ap length (decimal_three _ c.if-number-lt100.false c.requires.0)))

pub put_digit-b-requires : goal.put_digit-b-requires
put_digit-b-requires c = (omega arith, omega (arith, ap length (decimal_three _ c.if-number-lt100.false c.requires.0), c.put_digit-a-2.ensures.ends))

pub put_digit-requires-2 : goal.put_digit-requires-2
put_digit-requires-2 c = (omega arith, omega (arith, ap length (decimal_three _ c.if-number-lt100.false c.requires.0), c.put_digit-a-2.ensures.ends, c.put_digit-b.ensures.ends))

pub returns : goal.returns
returns c = rw (decimal_three _ c.if-number-lt100.false c.requires.0) (put_then c.put_digit-a-2.ensures (put_then c.put_digit-b.ensures c.put_digit-2.ensures))
