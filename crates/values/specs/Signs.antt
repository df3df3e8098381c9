-- The signs that a model's text and an answer are written in, as bytes.
use Rattle.std.specs.Prelude.{ℕ, zero, suc, ◌/◌, ◌%◌, List, [], ◌∷◌, ◌++◌, cond, length, ltb}
use Rattle.lists.specs.Entries.{at}

-- ends each line
abbrev pub line_feed : ℕ
line_feed = 10

-- stands between the numbers of a line
abbrev pub comma : ℕ
comma = 44

-- F is 0, U is 1, T is 2
abbrev pub letters : List ℕ
letters = 70 ∷ 85 ∷ 84 ∷ []

-- 0123456789
abbrev pub digits : List ℕ
digits = 48 ∷ 49 ∷ 50 ∷ 51 ∷ 52 ∷ 53 ∷ 54 ∷ 55 ∷ 56 ∷ 57 ∷ []

-- a number's digits, the last k of them at most
unfoldable pub numeral : ℕ → ℕ → List ℕ
numeral zero n = []
numeral (suc k) n = cond (ltb n 10) (at digits n ∷ []) (numeral k (n / 10) ++ (at digits (n % 10) ∷ []))

-- a number up to 65,535 in decimal, no leading zeros
abbrev pub decimal : ℕ → List ℕ
decimal n = numeral 5 n

-- what stands after a number of a line that has w more: a comma, or at the line's end a line feed
abbrev pub stop_before : ℕ → ℕ
stop_before zero = line_feed
stop_before (suc w) = comma

-- numbers up to the line's end
unfoldable pub numbers_print : List ℕ → List ℕ
numbers_print [] = []
numbers_print (n ∷ ns) = decimal n ++ (stop_before (length ns) ∷ numbers_print ns)
