-- A run: First's answer and then Next's answers, the list lent to Next being exactly the entries given before.
use Rattle.paths.specs.declared.Further.TheVariants.{Path, End}
use Rattle.std.specs.Prelude.{Some, None, Ok}
use Rattle.std.specs.Prelude.{◌≡◌, ℕ, ◌≤◌, List, [], ◌∷◌, length, take}
use Rattle.lists.specs.Causes.{refusal_of}
use Rattle.paths.specs.Questions.{Question, Shortest}
use Rattle.paths.specs.Refusals.{first_causes}
use Rattle.paths.specs.Answers.{FirstPromise, NextPromise}

-- First, lent this space, handed out p: its answer is a length, and p the space's first entries
pub record Opens (q : Question) (start : ℕ) (space p : List ℕ) : Type 0 where
  pub after : List ℕ
  pub size : ℕ
  pub answered : FirstPromise q start space after (Ok (Some size))
  pub handed : p ≡ take size after

-- First, lent this space, said that there is no path
pub record OpensNone (q : Question) (start : ℕ) (space : List ℕ) : Type 0 where
  pub after : List ℕ
  pub answered : FirstPromise q start space after (Ok None)

-- Next, lent p, handed out the lists one after the other; a chain may go on
abbrev pub Goes : Question → List ℕ → List (List ℕ) → Type 0
Goes q p [] = Unit {0}
Goes q p (r ∷ rs) = NextPromise q p r (Ok Path) × Goes q r rs

-- and then, lent the last of them, it said "end"
abbrev pub Ends : Question → List ℕ → List (List ℕ) → Type 0
Ends q p [] = NextPromise q p p (Ok End)
Ends q p (r ∷ rs) = NextPromise q p r (Ok Path) × Ends q r rs

-- what was handed out so far
abbrev pub Chain : Question → ℕ → List ℕ → List (List ℕ) → Type 0
Chain q start space [] = Unit {0}
Chain q start space (p ∷ ps) = Opens q start space p × Goes q p ps

-- what was handed out in all
abbrev pub Run : Question → ℕ → List ℕ → List (List ℕ) → Type 0
Run q start space [] = OpensNone q start space
Run q start space (p ∷ ps) = Opens q start space p × Ends q p ps

-- the space has room for a shortest witness, if there is one
abbrev pub RoomFor : Question → ℕ → List ℕ → Type 0
RoomFor q start space = (p : List ℕ) → Shortest q start p → length p ≤ length space

-- the question is not refused with 1, 6 to 9, 14 or 15, and the space has room
pub record Roomy (q : Question) (start : ℕ) (space : List ℕ) : Type 0 where
  pub taken : refusal_of (first_causes q start) ≡ 0
  pub room : RoomFor q start space
