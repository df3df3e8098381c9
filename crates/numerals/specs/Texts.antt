-- A text cut at the first byte of a kind, and what a text begins with.
use Rattle.std.specs.Prelude.{ℕ, List, [], ◌∷◌, Bool, true, false, cond, ◌&&◌, ◌||◌, length, eqb}

-- whether there is such a byte
unfoldable pub has : ℕ → List ℕ → Bool
has b [] = false
has b (x ∷ xs) = eqb x b || has b xs

-- the bytes before the first; all of them where there is none
unfoldable pub before : ℕ → List ℕ → List ℕ
before b [] = []
before b (x ∷ xs) = cond (eqb x b) [] (x ∷ before b xs)

-- the bytes behind the first; none where there is none
unfoldable pub behind : ℕ → List ℕ → List ℕ
behind b [] = []
behind b (x ∷ xs) = cond (eqb x b) xs (behind b xs)

-- whether a text begins with a word
unfoldable pub begins_with : List ℕ → List ℕ → Bool
begins_with [] xs = true
begins_with (w ∷ ws) [] = false
begins_with (w ∷ ws) (x ∷ xs) = eqb x w && begins_with ws xs

-- whether it is the word
unfoldable pub same : List ℕ → List ℕ → Bool
same word xs = eqb (length xs) (length word) && begins_with word xs
