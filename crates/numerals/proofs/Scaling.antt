-- A number with its power of ten: within the powers that are doubles exactly it has a nearest double, and the power goes one way only.
use mathlib.Core.Path.{◌≡◌, refl}
use mathlib.Core.Bool.{Bool, true, false, cond}
use mathlib.Core.Logic.{◌⊎◌, inl, inr, ⊎_elim}
use Rattle.std.specs.Prelude.{None, Some}
use Prim.Native.Nat.{ℕ, ◌+◌, ◌-◌, ◌≤◌, ◌<◌}
use native.Mathlib.Omega.{arith}
use borrow.Author.Tests.{le-leb, lt-leb}
use Rattle.lists.proofs.Numbers.{lt_or_le}
use Rattle.numerals.specs.Decimals.{upward, downward, most_power}
use Rattle.numerals.specs.declared.wholes.Signed.{Signed}
use Rattle.numerals.specs.declared.decimals.Mantissa.{Mantissa}
use Rattle.numerals.specs.Doubles.{nearest, scaled}

module _ (negative : Bool) (m : Mantissa) (power : Signed) where
  pub scaled_high : most_power < upward m.fraction power → scaled negative m power ≡ None
  unfolding scaled
  scaled_high h = rw (lt-leb (upward m.fraction power) most_power h)

  pub scaled_low : upward m.fraction power ≤ most_power → most_power < downward m.fraction power → scaled negative m power ≡ None
  unfolding scaled
  scaled_low k h = rw (le-leb (upward m.fraction power) most_power k, lt-leb (downward m.fraction power) most_power h)

  pub scaled_within : upward m.fraction power ≤ most_power → downward m.fraction power ≤ most_power
      → scaled negative m power ≡ Some (nearest negative m.digits (upward m.fraction power) (downward m.fraction power))
  unfolding scaled
  scaled_within k h = rw (le-leb (upward m.fraction power) most_power k, le-leb (downward m.fraction power) most_power h)

pub one_way : (fraction : ℕ) (power : Signed) → (upward fraction power ≡ 0) ⊎ (downward fraction power ≡ 0)
one_way fraction power = by_sign power.negative
  where
    by_sign : (t : Bool) → (cond t 0 (power.size - fraction) ≡ 0) ⊎ (cond t (fraction + power.size) (fraction - power.size) ≡ 0)
    by_sign true = inl refl
    by_sign false = ⊎_elim (λ (h : fraction < power.size). inr (omega arith)) (λ (h : power.size ≤ fraction). inl (omega arith)) (lt_or_le fraction power.size)
