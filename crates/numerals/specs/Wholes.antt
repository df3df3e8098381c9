-- Whole numbers in decimal.
use Rattle.std.specs.Prelude.{ℕ, ◌+◌, ◌-◌, ◌*◌, List, [], ◌∷◌, Bool, true, false, cond, not, ◌&&◌, ◌||◌, length, drop, eqb, leb, ltb, Option, None, Some, option_map, option_and_then}
use Rattle.lists.specs.Entries.{at}
use Rattle.numerals.specs.Texts.{begins_with}
use Rattle.numerals.specs.declared.wholes.Signed.{Signed}

-- a number of so many digits is a double exactly
abbrev pub most_digits : ℕ
most_digits = 15

-- a - before a number
abbrev pub minus : List ℕ
minus = 45 ∷ []

abbrev pub zero_digit : ℕ
zero_digit = 48

-- the value of a digit; another byte has none
unfoldable pub digit_of : ℕ → Option ℕ
digit_of b = cond (leb zero_digit b && leb b 57) (Some (b - zero_digit)) None

-- what digits say behind a number n; another byte among them says nothing
unfoldable pub digits_from : ℕ → List ℕ → Option ℕ
digits_from n [] = Some n
digits_from n (x ∷ xs) = option_and_then (λ (d : ℕ). digits_from (n * 10 + d) xs) (digit_of x)

-- no leading zeros: a first 0 is alone
unfoldable pub plain : List ℕ → Bool
plain xs = ltb 0 (length xs) && (eqb (length xs) 1 || not (eqb (at xs 0) zero_digit))

-- a whole number without leading zeros, of at most so many digits
unfoldable pub whole : List ℕ → Option ℕ
whole xs = cond (plain xs && leb (length xs) most_digits) (digits_from 0 xs) None

-- a size and whether a - stands before it
abbrev pub with_sign : Bool → ℕ → Signed
with_sign negative size = record { negative = negative; size = size }

-- a whole number with an optional - before it
unfoldable pub signed : List ℕ → Option Signed
signed xs = cond (begins_with minus xs) (option_map (with_sign true) (whole (drop 1 xs))) (option_map (with_sign false) (whole xs))
