-- When a question is refused: 1, 6 to 9 and 14; for a picture also 15 and 16.
use Rattle.std.specs.Prelude.{◌≡◌, ℕ, ◌<◌, List, [], ◌∷◌, ◌++◌, ◌⊎◌, leb}
use Rattle.lists.specs.Causes.{Cause, cause, Applies}
use Rattle.kripke.specs.Refusals.{question_causes}
use Rattle.pictures.specs.Pictures.{Question, IsFalse}

abbrev pub causes : Question → List Cause
causes q = question_causes q.states q.transitions q.left q.right

-- these and 15: a start that is no state
abbrev pub start_causes : Question → ℕ → List Cause
start_causes q start = causes q ++ (cause 15 (leb q.states start) ∷ [])

-- the verdict is false, and the space has fewer entries than there are states
pub record TooSmall (q : Question) (start room : ℕ) : Type 0 where
  pub is_false : IsFalse q start
  pub fewer : room < q.states

-- the numbers that apply to a question, its start and the path space
abbrev pub PictureApplies : Question → ℕ → ℕ → ℕ → Type 0
PictureApplies q start room n = Applies (start_causes q start) n ⊎ ((n ≡ 16) × TooSmall q start room)
