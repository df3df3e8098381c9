-- What a list holds: the entry at a place, whether there is one, what holds of each, and a search through the places.
use Rattle.std.specs.Prelude.{ℕ, zero, suc, List, [], ◌∷◌, Bool, true, false, ◌||◌, get_or}

-- the entry at a place, counted from 0; past the end it is 0
abbrev pub at : List ℕ → ℕ → ℕ
at xs i = get_or xs i 0

-- there is an entry
abbrev pub Some {ℓ} : {A : Type ℓ} → List A → Type 0
Some [] = ⊥
Some (x ∷ xs) = Unit {0}

-- each entry has P
abbrev pub All {ℓ} : {A : Type ℓ} → (A → Type 0) → List A → Type 0
All P [] = Unit {0}
All P (x ∷ xs) = P x × All P xs

-- whether there is no entry
abbrev pub is_nil {ℓ} : {A : Type ℓ} → List A → Bool
is_nil [] = true
is_nil (x ∷ xs) = false

-- whether p holds of some number below n
unfoldable pub any_below : (ℕ → Bool) → ℕ → Bool
any_below p zero = false
any_below p (suc n) = any_below p n || p n
