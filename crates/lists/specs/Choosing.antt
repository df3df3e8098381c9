-- One value out of a list.
use Rattle.std.specs.Prelude.{ℕ, min, List, [], ◌∷◌}

-- the greatest entry with op = max, the least with op = min; of an empty list it is 0
unfoldable pub best : (ℕ → ℕ → ℕ) → List ℕ → ℕ
best op [] = 0
best op (x ∷ []) = x
best op (x ∷ y ∷ ys) = op x (best op (y ∷ ys))

-- the smallest of v and the entries
unfoldable pub lowest : ℕ → List ℕ → ℕ
lowest v [] = v
lowest v (x ∷ xs) = min x (lowest v xs)
