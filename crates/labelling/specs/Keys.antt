-- The words and signs of a line of the label desk, as bytes.
use Rattle.std.specs.Prelude.{ℕ, List, [], ◌∷◌}

-- atleast= atmost= between=
abbrev pub key_at_least : List ℕ
key_at_least = 97 ∷ 116 ∷ 108 ∷ 101 ∷ 97 ∷ 115 ∷ 116 ∷ 61 ∷ []

abbrev pub key_at_most : List ℕ
key_at_most = 97 ∷ 116 ∷ 109 ∷ 111 ∷ 115 ∷ 116 ∷ 61 ∷ []

abbrev pub key_between : List ℕ
key_between = 98 ∷ 101 ∷ 116 ∷ 119 ∷ 101 ∷ 101 ∷ 110 ∷ 61 ∷ []

-- volts= ticks=
abbrev pub key_volts : List ℕ
key_volts = 118 ∷ 111 ∷ 108 ∷ 116 ∷ 115 ∷ 61 ∷ []

abbrev pub key_ticks : List ℕ
key_ticks = 116 ∷ 105 ∷ 99 ∷ 107 ∷ 115 ∷ 61 ∷ []

-- stands between the gate and the measurement
abbrev pub blank : ℕ
blank = 32

-- the most bytes of a line
abbrev pub most_line : ℕ
most_line = 128
