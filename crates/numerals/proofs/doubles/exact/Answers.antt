-- `exact` meets its contract: so small a whole number is a double, and its sign is put on afterwards.
use mathlib.Core.Path.{subst⁻¹}
use mathlib.Core.Bool.{Bool}
use Prim.Native.Nat.{◌^◌}
use native.Mathlib.Omega.{arith}
use lib.IntN.{pos}
use lib.Ieee.{in_float, prec, of_int, binary64, neg}
use lib.Ieee.Exact.{HasValue}
use mir.Facts.{yes_leb}
use Rattle.numerals.proofs.Rounding.{negated, whole_exact}
use Rattle.numerals.proofs.doubles.exact.Goals as goal

pub returns-then-negative : goal.returns-then-negative
returns-then-negative c =
    let n = c.args.n in
    let x = of_int binary64 (pos n) in
    subst⁻¹ (λ (s : Bool). HasValue (neg x) s n 1) c.if-negative.true (negated x n 1 (whole_exact n (omega arith)))

pub returns : goal.returns
returns c =
    let n = c.args.n in
    subst⁻¹ (λ (s : Bool). HasValue (of_int binary64 (pos n)) s n 1) c.if-negative.false (whole_exact n (omega arith))
