-- When a question is refused: 1, 6 to 9, 14, 15, then 16 for First and 17 for Next.
use Rattle.std.specs.Prelude.{◌≡◌, ℕ, ◌<◌, List, [], ◌∷◌, ◌++◌, Bool, not, ◌||◌, ◌⊎◌, length, eqb, leb}
use Rattle.lists.specs.Entries.{at}
use Rattle.lists.specs.Causes.{Cause, cause, Applies}
use Rattle.kripke.specs.Refusals.{question_causes}
use Rattle.paths.specs.Questions.{Question, Shortest}

-- level not 1 or 2
unfoldable pub bad_level : ℕ → Bool
bad_level level = not (eqb level 1 || eqb level 2)

-- 1, 6 to 9, 14, and 15: the level; for First, also a start that is no state
abbrev pub causes : Question → List Cause
causes q = question_causes q.states q.transitions q.left q.right ++ (cause 15 (bad_level q.level) ∷ [])

abbrev pub first_causes : Question → ℕ → List Cause
first_causes q start = question_causes q.states q.transitions q.left q.right ++ (cause 15 (bad_level q.level || leb q.states start) ∷ [])

-- a witness exists, and the room is shorter than a shortest one
pub record TooShort (q : Question) (start room : ℕ) : Type 0 where
  pub path : List ℕ
  pub shortest : Shortest q start path
  pub longer : room < length path

-- the numbers that apply to First's question and path space
abbrev pub FirstApplies : Question → ℕ → ℕ → ℕ → Type 0
FirstApplies q start room n = Applies (first_causes q start) n ⊎ ((n ≡ 16) × TooShort q start room)

-- the numbers that apply to Next's question and list: 17 if the list is no shortest witness from its first entry
abbrev pub NextApplies : Question → List ℕ → ℕ → Type 0
NextApplies q path n = Applies (causes q) n ⊎ ((n ≡ 17) × (Shortest q (at path 0) path → ⊥))
