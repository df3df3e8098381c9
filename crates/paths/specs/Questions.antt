-- A question, its witnesses, and its shortest witnesses from a start.
use Rattle.std.specs.Prelude.{ℕ, ◌<◌, ◌≤◌, List, [], ◌∷◌, length}
use Rattle.kripke.specs.Transitions.{Edge}
use Rattle.kripke.specs.Walks.{Begins}
use Rattle.values.specs.Rows.{value_at}

-- the number of states, the transitions, a left row and a right row as they are stored, and a level
pub record Question : Type 0 where
  pub states : ℕ
  pub transitions : List ℕ
  pub left : List ℕ
  pub right : List ℕ
  pub level : ℕ

abbrev pub asked : ℕ → List ℕ → List ℕ → List ℕ → ℕ → Question
asked S es left right level = record { states = S; transitions = es; left = left; right = right; level = level }

-- s is a state, and the row's value there is at least the level
abbrev pub Reaches : ℕ → ℕ → (ℕ → ℕ) → ℕ → Type 0
Reaches S level row s = (s < S) × (level ≤ row s)

-- s and then the list: consecutive ones are joined by transitions, the last has R, every earlier one has L
abbrev pub From : List ℕ → (ℕ → Type 0) → (ℕ → Type 0) → ℕ → List ℕ → Type 0
From es L R s [] = R s
From es L R s (t ∷ p) = L s × Edge es s t × From es L R t p

module _ (q : Question) where
  -- s is a state with a left value of at least the level, and so for the right value
  abbrev pub LeftHolds : ℕ → Type 0
  LeftHolds = Reaches q.states q.level (value_at q.left)

  abbrev pub RightHolds : ℕ → Type 0
  RightHolds = Reaches q.states q.level (value_at q.right)

  -- a witness: one or more states, consecutive ones joined by transitions, the right value at its last state at least the level, the left value at every earlier state at least the level
  abbrev pub Witness : List ℕ → Type 0
  Witness [] = ⊥
  Witness (s ∷ p) = From q.transitions LeftHolds RightHolds s p

-- a shortest witness from s: there is no shorter one that begins with s
pub record Shortest (q : Question) (s : ℕ) (p : List ℕ) : Type 0 where
  pub begins : Begins s p
  pub witness : Witness q p
  pub fewest : (r : List ℕ) → Begins s r → Witness q r → length p ≤ length r

-- there is a witness that begins with s, and there is one of at most n entries
abbrev pub Witnessed : Question → ℕ → Type 0
Witnessed q s = (p : List ℕ) × Begins s p × Witness q p

abbrev pub WitnessedWithin : Question → ℕ → ℕ → Type 0
WitnessedWithin q s n = (p : List ℕ) × Begins s p × Witness q p × (length p ≤ n)
