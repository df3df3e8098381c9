-- `double` is safe: a pattern that isn't above infinity's is no NaN's.
use mathlib.Core.Path.{◌≡◌, refl}
use mathlib.Core.Bool.{Bool, true, false, not, ◌&&◌}
use Prim.Native.Nat.{ℕ, ◌%◌, ◌/◌, ◌≤◌}
use native.Mathlib.Omega.{arith}
use lib.Dec.{T, eqb}
use lib.Ieee.{nan_bits}
use borrow.Author.Tests.{eqb-true, eqb-false}
use Rattle.replay.proofs.measures.double.Goals as goal

-- the exponent all ones and the digits not all zero make more than infinity
no_nan : (b : ℕ) → b % 9223372036854775808 ≤ 9218868437227405312 → T (not (eqb (b % 9223372036854775808 / 4503599627370496) 2047 && not (eqb (b % 4503599627370496) 0)))
no_nan b h = go (eqb (b % 9223372036854775808 / 4503599627370496) 2047) refl (eqb (b % 4503599627370496) 0) refl
  where
    go : (s : Bool) → eqb (b % 9223372036854775808 / 4503599627370496) 2047 ≡ s → (t : Bool) → eqb (b % 4503599627370496) 0 ≡ t → T (not (s && not t))
    go false e t f = tt
    go true e true f = tt
    go true e false f = absurd (eqb-false (b % 4503599627370496) 0 f (omega (arith, eqb-true (b % 9223372036854775808 / 4503599627370496) 2047 e)))

pub float_from_bits-result : goal.float_from_bits-result
unfolding nan_bits
float_from_bits-result c = no_nan c.args.bits c.if-bits-gt-INFINITE.false
