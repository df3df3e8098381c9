-- A decimal without its sign: a whole number, optionally a point and digits, optionally an e and an exponent.
use Rattle.std.specs.Prelude.{ℕ, ◌+◌, ◌-◌, List, false, cond, ◌&&◌, length, leb, ltb, Option, None, Some, option_map, option_and_then}
use Rattle.numerals.specs.Texts.{has, before, behind}
use Rattle.numerals.specs.Wholes.{most_digits, digits_from, whole, with_sign, signed}
use Rattle.numerals.specs.declared.wholes.Signed.{Signed}
use Rattle.numerals.specs.declared.decimals.Mantissa.{Mantissa}

-- . and e
abbrev pub point : ℕ
point = 46

abbrev pub exponent_sign : ℕ
exponent_sign = 101

-- the number that all digits say, and how many of them stand behind the point
abbrev pub with_fraction : ℕ → ℕ → Mantissa
with_fraction fraction digits = record { digits = digits; fraction = fraction }

-- the number that the digits before and behind a point say, and how many stand behind it
unfoldable pub pointed : List ℕ → List ℕ → Option Mantissa
pointed front fraction =
    option_and_then (λ (n : ℕ). option_map (with_fraction (length fraction)) (digits_from n fraction)) (whole front)

-- with a point there is a digit behind it, and both parts together have at most so many
unfoldable pub mantissa : List ℕ → Option Mantissa
mantissa xs =
    cond (has point xs)
    (cond (ltb 0 (length (behind point xs)) && leb (length (before point xs) + length (behind point xs)) most_digits) (pointed (before point xs) (behind point xs)) None)
    (option_map (with_fraction 0) (whole xs))

-- what stands behind the e; 0 where there is none
unfoldable pub exponent : List ℕ → Option Signed
exponent xs = cond (has exponent_sign xs) (signed (behind exponent_sign xs)) (Some (with_sign false 0))

-- the exponent less the digits behind the point, above zero and below
abbrev pub upward : ℕ → Signed → ℕ
upward fraction power = cond power.negative 0 (power.size - fraction)

abbrev pub downward : ℕ → Signed → ℕ
downward fraction power = cond power.negative (fraction + power.size) (fraction - power.size)

-- ten to the power of so much is a double exactly
abbrev pub most_power : ℕ
most_power = 22
