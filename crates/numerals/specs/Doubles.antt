-- The double that a text stands for.
use Rattle.std.specs.Prelude.{ℕ, ◌*◌, ◌^◌, List, [], ◌∷◌, Bool, true, false, cond, ◌&&◌, drop, leb, Float, Option, None, Some, option_and_then}
use Rattle.std.specs.Float.{nan, inf, binary64}
use Rattle.std.specs.Float.Ieee.{round}
use Rattle.numerals.specs.Texts.{before, begins_with, same}
use Rattle.numerals.specs.Wholes.{minus}
use Rattle.numerals.specs.Decimals.{exponent_sign, mantissa, exponent, upward, downward, most_power}
use Rattle.numerals.specs.declared.wholes.Signed.{Signed}
use Rattle.numerals.specs.declared.decimals.Mantissa.{Mantissa}

-- nan and inf
abbrev pub nan_word : List ℕ
nan_word = 110 ∷ 97 ∷ 110 ∷ []

abbrev pub inf_word : List ℕ
inf_word = 105 ∷ 110 ∷ 102 ∷ []

-- the double nearest to n times ten to the up over ten to the down, the even one of two, with its sign
unfoldable pub nearest : Bool → ℕ → ℕ → ℕ → Float
nearest negative n up down = round binary64 negative (n * 10 ^ up) (10 ^ down)

-- the same of a decimal's digits and its exponent, within the powers that are doubles exactly
unfoldable pub scaled : Bool → Mantissa → Signed → Option Float
scaled negative m power =
    cond (leb (upward m.fraction power) most_power && leb (downward m.fraction power) most_power)
    (Some (nearest negative m.digits (upward m.fraction power) (downward m.fraction power)))
    None

-- a decimal
unfoldable pub decimal : Bool → List ℕ → Option Float
decimal negative xs =
    option_and_then (λ (m : Mantissa). option_and_then (λ (e : Signed). scaled negative m e) (exponent xs)) (mantissa (before exponent_sign xs))

-- inf or a decimal, behind an optional -
unfoldable pub magnitude : Bool → List ℕ → Option Float
magnitude negative xs = cond (same inf_word xs) (Some (inf negative)) (decimal negative xs)

-- a number that a double can be: nan, inf, -inf or a decimal
unfoldable pub double : List ℕ → Option Float
double xs = cond (same nan_word xs) (Some nan) (cond (begins_with minus xs) (magnitude true (drop 1 xs)) (magnitude false xs))
