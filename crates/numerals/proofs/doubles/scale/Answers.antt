-- `scale` meets its contract: the power of ten is tested before the number is made.
use mathlib.Core.Path.{ap, sym, ◌∙◌}
use mathlib.Core.Logic.{inl, inr, ⊎_elim}
use Prim.Native.Nat.{ℕ}
use native.Mathlib.Omega.{arith}
use Rattle.std.specs.Prelude.{Some}
use Rattle.numerals.specs.Decimals.{upward}
use Rattle.numerals.specs.Doubles.{nearest}
use Rattle.numerals.proofs.Scaling.{scaled_high, scaled_low, scaled_within, one_way}
use Rattle.numerals.proofs.doubles.scale.Goals as goal

pub returns-then-power-gt-MOST_POWER : goal.returns-then-power-gt-MOST_POWER
returns-then-power-gt-MOST_POWER c =
    let a = c.args in
    sym (scaled_high a.negative a.mantissa a.exponent (omega (arith, c.net_power-power.ensures.0)))

pub returns-then-power-gt-MOST_POWER-2 : goal.returns-then-power-gt-MOST_POWER-2
returns-then-power-gt-MOST_POWER-2 c =
    let a = c.args in
    let p = c.net_power-power.ensures in
    sym (scaled_low a.negative a.mantissa a.exponent (omega (arith, p.0)) (omega (arith, p.1)))

pub returns : goal.returns
returns c =
    let a = c.args in
    let p = c.net_power-power.ensures in
    ap Some
    (c.rounded.ensures
    ∙ ap (λ (u : ℕ). nearest a.negative a.mantissa.digits u c.net_power-power.result.down) p.0
    ∙ ap (nearest a.negative a.mantissa.digits (upward a.mantissa.fraction a.exponent)) p.1)
    ∙ sym (scaled_within a.negative a.mantissa a.exponent (omega (arith, p.0)) (omega (arith, p.1)))
