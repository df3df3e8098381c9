-- `digits` meets its contract.
use mathlib.Core.Path.{ap, sym}
use Prim.Native.Nat.{◌/◌}
use native.Mathlib.Omega.{arith}
use lib.ListN.{length}
use Rattle.values.proofs.Decimals.{decimal_short, decimal_one, decimal_size}
use Rattle.formula.proofs.parts.+digits.Goals as goal

pub returns-then-number-lt10 : goal.returns-then-number-lt10
returns-then-number-lt10 t c = sym (ap length (decimal_one _ c.if-number-lt10.true))

pub overflow_add-result : goal.overflow_add-result
overflow_add-result t c = record { fits = omega (arith, c.digits.ensures, decimal_short (c.args.number / 10)) }

pub returns : goal.returns
returns t c = omega (arith, c.digits.ensures, decimal_size c.args.number c.if-number-lt10.false (omega arith))
