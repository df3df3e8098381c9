-- `decimal_size` meets its contract, by the number of digits.
use mathlib.Core.Path.{ap, sym}
use native.Mathlib.Omega.{arith}
use lib.ListN.{length}
use Rattle.values.proofs.Decimals.{decimal_one}
use Rattle.answer.proofs.Digits.{decimal_two, decimal_three, size_four, size_five}
use Rattle.answer.proofs.put.decimal_size.Goals as goal

pub returns-in-0-to-9 : goal.returns-in-0-to-9
returns-in-0-to-9 c = sym (ap length (decimal_one c.args.number (omega arith)))

pub returns-in-10-to-99 : goal.returns-in-10-to-99
returns-in-10-to-99 c = sym (ap length (decimal_two c.args.number (omega arith) (omega arith)))

pub returns-in-100-to-999 : goal.returns-in-100-to-999
returns-in-100-to-999 c = sym (ap length (decimal_three c.args.number (omega arith) (omega arith)))

pub returns-in-1000-to-9999 : goal.returns-in-1000-to-9999
returns-in-1000-to-9999 c = sym (size_four c.args.number (omega arith) (omega arith))

pub returns-in_default : goal.returns-in_default
returns-in_default c = sym (size_five c.args.number (omega arith) (omega arith))
