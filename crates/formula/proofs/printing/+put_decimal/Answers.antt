-- `put_decimal` meets its contract.
use mathlib.Core.Path.{ap}
use Prim.Native.Nat.{◌<◌, ◌/◌}
use native.Mathlib.Omega.{arith}
use lib.ListN.{length}
use Rattle.lists.proofs.Placed.{put_then}
use Rattle.values.proofs.Decimals.{decimal_one, decimal_step, decimal_size}
use Rattle.formula.proofs.printing.+put_decimal.Goals as goal

pub put_digit-requires : goal.put_digit-requires
put_digit-requires t c = (c.if-number-lt10.true, omega (arith, c.requires, ap length (decimal_one c.args.number c.if-number-lt10.true)))

pub returns-then-number-lt10 : goal.returns-then-number-lt10
returns-then-number-lt10 t c = rw (decimal_one _ c.if-number-lt10.true) c.put_digit.ensures

pub put_decimal-last-requires : goal.put_decimal-last-requires
put_decimal-last-requires t c =
    let less : c.args.number / 10 < t = omega (arith, c.decreases, c.if-number-lt10.false) in
    (less, omega (arith, c.requires, decimal_size c.args.number c.if-number-lt10.false (omega arith)))

pub put_digit-requires-2 : goal.put_digit-requires-2
put_digit-requires-2 t c = (omega arith, omega (arith, c.requires, c.put_decimal-last.ensures.ends, c.put_decimal-last.auto, decimal_size c.args.number c.if-number-lt10.false (omega arith)))

pub returns : goal.returns
returns t c = rw (decimal_step c.args.number c.if-number-lt10.false (omega arith)) (put_then c.put_decimal-last.ensures c.put_digit-2.ensures)
