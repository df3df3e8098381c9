-- A question about A(left U right), and what a picture of its being false is.
use Rattle.std.specs.Prelude.{◌≡◌, ℕ, ◌-◌, ◌<◌, ◌≤◌, List, true, length}
use Rattle.lists.specs.Entries.{at, Some, All}
use Rattle.values.specs.Rows.{value_at, row_values}
use Rattle.kripke.specs.Transitions.{Edge}
use Rattle.kripke.specs.Walks.{Begins, Joined}
use Rattle.kripke.specs.Until.{until}
use Rattle.pictures.specs.declared.Ending.{Ending}
use Rattle.pictures.specs.declared.Ending.TheVariants.{Falls, Back}

-- the number of states, the transitions, a left row and a right row as they are stored
pub record Question : Type 0 where
  pub states : ℕ
  pub transitions : List ℕ
  pub left : List ℕ
  pub right : List ℕ

abbrev pub asked : ℕ → List ℕ → List ℕ → List ℕ → Question
asked S es left right = record { states = S; transitions = es; left = left; right = right }

-- the value of A(left U right) at s is false
abbrev pub IsFalse : Question → ℕ → Type 0
IsFalse q s = until true q.transitions (row_values q.states q.left) (row_values q.states q.right) q.states s ≡ 0

-- one or more states, joined by transitions, the right part false at all of them
pub record Along (S : ℕ) (es : List ℕ) (right : ℕ → ℕ) (p : List ℕ) : Type 0 where
  pub some : Some p
  pub states : All (λ (s : ℕ). s < S) p
  pub joined : Joined es p
  pub right_false : All (λ (s : ℕ). right s ≡ 0) p

abbrev pub last : List ℕ → ℕ
last p = at p (length p - 1)

-- there is such a place in the list, and the last state has a transition to it
abbrev pub LeadsBack : List ℕ → List ℕ → ℕ → Type 0
LeadsBack es p place = (place < length p) × Edge es (last p) (at p place)

-- the left part is false at the last state, or the last state has a transition to a named place in the list
abbrev pub EndsBy : List ℕ → (ℕ → ℕ) → List ℕ → Ending → Type 0
EndsBy es left p Falls = left (last p) ≡ 0
EndsBy es left p (Back place) = LeadsBack es p place

pub record Drawn (S : ℕ) (es : List ℕ) (left right : ℕ → ℕ) (p : List ℕ) (e : Ending) : Type 0 where
  pub along : Along S es right p
  pub ends : EndsBy es left p e

-- a picture: such a list, and how it ends
abbrev pub Picture : Question → List ℕ → Ending → Type 0
Picture q = Drawn q.states q.transitions (value_at q.left) (value_at q.right)

-- there is a picture with s first, and there is one of at most n entries
abbrev pub Pictured : Question → ℕ → Type 0
Pictured q s = (p : List ℕ) × (e : Ending) × Begins s p × Picture q p e

abbrev pub PicturedWithin : Question → ℕ → ℕ → Type 0
PicturedWithin q s n = (p : List ℕ) × (e : Ending) × Begins s p × Picture q p e × (length p ≤ n)
