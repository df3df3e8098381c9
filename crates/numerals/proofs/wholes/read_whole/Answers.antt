-- `read_whole` meets its contract: so few digits have room.
use Prim.Native.Nat.{◌^◌}
use native.Mathlib.Nat.{one-mul, pow-le-pow_right}
use native.Mathlib.Omega.{arith}
use lib.ListN.{length}
use Rattle.numerals.specs.Wholes.{most_digits}
use Rattle.numerals.proofs.wholes.read_whole.Goals as goal

pub digits_from-requires : goal.digits_from-requires
digits_from-requires c =
    let n = length c.args.text.now in
    omega (arith, one-mul (10 ^ n), pow-le-pow_right {n = 10} (omega arith) {i = n} {j = most_digits} (omega arith))
