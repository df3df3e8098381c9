-- Lists of numbers in ascending order, the first difference deciding, and the least list of a kind.
use Rattle.std.specs.Prelude.{◌≡◌, ℕ, ◌<◌, List, [], ◌∷◌, ◌⊎◌}

-- p is smaller than r
abbrev pub Smaller : List ℕ → List ℕ → Type 0
Smaller [] [] = ⊥
Smaller [] (b ∷ r) = Unit {0}
Smaller (a ∷ p) [] = ⊥
Smaller (a ∷ p) (b ∷ r) = (a < b) ⊎ ((a ≡ b) × Smaller p r)

-- p is the smallest list of the kind P
pub record Least (P : List ℕ → Type 0) (p : List ℕ) : Type 0 where
  pub is : P p
  pub least : (r : List ℕ) → P r → (p ≡ r) ⊎ Smaller p r

-- r is of the kind P and larger than p
pub record Beyond (P : List ℕ → Type 0) (p r : List ℕ) : Type 0 where
  pub is : P r
  pub larger : Smaller p r

-- r is one of the lists
abbrev pub Among : List ℕ → List (List ℕ) → Type 0
Among r [] = ⊥
Among r (p ∷ ps) = (p ≡ r) ⊎ Among r ps

-- each list is smaller than all later ones, so that none comes twice
abbrev pub Ascending : List (List ℕ) → Type 0
Ascending [] = Unit {0}
Ascending (p ∷ ps) = ((r : List ℕ) → Among r ps → Smaller p r) × Ascending ps
