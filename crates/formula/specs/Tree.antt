-- A formula as a tree, which atoms it names, and when they are ones that a model may have.
use Rattle.std.specs.Prelude.{◌≡◌, ℕ, ◌+◌, ◌<◌, ◌⊎◌}
use Rattle.values.specs.Limits.{most_atoms}

-- what stands before a formula: not, or next (X), at some time (F), always (G), each on some path (E) or on every path (A)
pub data Prefix : Type 0 where
  NOT EX AX EF AF EG AG : Prefix

-- what joins two: and, E until, A until, or, implies
pub data Pair : Type 0 where
  AND EU AU OR IMPLIES : Pair

pub data Formula : Type 0 where
  TRUE : Formula
  ATOM : ℕ → Formula
  one : Prefix → Formula → Formula
  two : Pair → Formula → Formula → Formula

-- how many nodes it has
unfoldable pub size : Formula → ℕ
size TRUE = 1
size (ATOM a) = 1
size (one p f) = size f + 1
size (two q f g) = size f + size g + 1

-- each atom is below a number
unfoldable pub AtomsBelow : ℕ → Formula → Type 0
AtomsBelow n TRUE = Unit {0}
AtomsBelow n (ATOM a) = a < n
AtomsBelow n (one p f) = AtomsBelow n f
AtomsBelow n (two q f g) = AtomsBelow n f × AtomsBelow n g

-- it names atom a
unfoldable pub Names : Formula → ℕ → Type 0
Names TRUE a = ⊥
Names (ATOM b) a = b ≡ a
Names (one p f) a = Names f a
Names (two q f g) a = Names f a ⊎ Names g a

-- below the most, as the grammar has it
abbrev pub Named : Formula → Type 0
Named f = AtomsBelow most_atoms f
