-- A table of causes, each with its number, and the lowest number that applies.
use Rattle.std.specs.Prelude.{◌≡◌, ℕ, ◌<◌, ◌≤◌, List, [], ◌∷◌, Bool, true, cond, ◌⊎◌}

-- a row of the table: its number, and whether its cause applies
pub record Cause : Type 0 where
  pub number : ℕ
  pub holds : Bool

abbrev pub cause : ℕ → Bool → Cause
cause n b = record { number = n; holds = b }

-- the number of the first cause that applies, or 0 for none
unfoldable pub refusal_of : List Cause → ℕ
refusal_of [] = 0
refusal_of (c ∷ cs) = cond c.holds c.number (refusal_of cs)

-- a cause of this number applies
abbrev pub Applies : List Cause → ℕ → Type 0
Applies [] n = ⊥
Applies (c ∷ cs) n = ((c.number ≡ n) × (c.holds ≡ true)) ⊎ Applies cs n

-- the numbers rise from row to row, the first above m
abbrev pub Rising : ℕ → List Cause → Type 0
Rising m [] = Unit {0}
Rising m (c ∷ cs) = (m < c.number) × Rising c.number cs

-- n is the lowest number that applies, and given only then: 0 where none does
pub record Lowest (Applying : ℕ → Type 0) (n : ℕ) : Type 0 where
  pub applies : (n ≡ 0 → ⊥) → Applying n
  pub lowest : (m : ℕ) → Applying m → (0 < n) × (n ≤ m)
