-- The text form of an answer: its lines, as bytes.
use Rattle.std.specs.Prelude.{ℕ, ◌+◌, ◌*◌, List, [], ◌∷◌, ◌++◌, map}
use Rattle.lists.specs.Entries.{at}
use Rattle.values.specs.Limits.{most_states}
use Rattle.values.specs.Signs.{decimal, letters, line_feed, numbers_print}

-- answer= row= model= path=
abbrev pub key_answer : List ℕ
key_answer = 97 ∷ 110 ∷ 115 ∷ 119 ∷ 101 ∷ 114 ∷ 61 ∷ []

abbrev pub key_row : List ℕ
key_row = 114 ∷ 111 ∷ 119 ∷ 61 ∷ []

abbrev pub key_model : List ℕ
key_model = 109 ∷ 111 ∷ 100 ∷ 101 ∷ 108 ∷ 61 ∷ []

abbrev pub key_path : List ℕ
key_path = 112 ∷ 97 ∷ 116 ∷ 104 ∷ 61 ∷ []

-- the letter of a value
unfoldable pub letter_of : ℕ → ℕ
letter_of v = at letters v

-- answer=N
unfoldable pub answer_line : ℕ → List ℕ
answer_line n = key_answer ++ (decimal n ++ (line_feed ∷ []))

-- row= and one letter a value
unfoldable pub row_line : List ℕ → List ℕ
row_line values = key_row ++ (map letter_of values ++ (line_feed ∷ []))

-- model= and a letter
unfoldable pub model_line : ℕ → List ℕ
model_line v = key_model ++ (letter_of v ∷ line_feed ∷ [])

-- path= and the states of a path, commas between them
unfoldable pub path_line : List ℕ → List ℕ
path_line path = key_path ++ numbers_print path

-- the bytes of the longest line of a path: 5 for its key, and 6 for each state, five digits as in 65,535 and the comma or line feed behind them
abbrev pub most_path_line : ℕ
most_path_line = 6 * most_states + 5

-- the bytes of the longest other line, that of a row: a letter for each state, and 5 for its key and the line feed
abbrev pub most_line : ℕ
most_line = most_states + 5
