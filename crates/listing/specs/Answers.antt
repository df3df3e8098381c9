-- A path question's answer line by line: path after path, and how it ends; and what `write_line` promises of each line.
use Rattle.std.specs.Prelude.{Some, None, Result, Ok, Err}
use Rattle.values.specs.Refusal.{number_of}
use Rattle.values.specs.declared.refusal.Refusal.{Refusal}
use Rattle.std.specs.Prelude.{ℕ, zero, suc, ◌≡◌, List, [], ◌∷◌, ◌++◌, take, drop}
use Rattle.paths.specs.Questions.{Question}
use Rattle.paths.specs.declared.Further.TheVariants.{Path, End}
use Rattle.paths.specs.Answers.{FirstAnswer, FirstPromise, NextAnswer, NextPromise}
use Rattle.answer.specs.Answers.{Due, number_due, path_due, LineWritten}
use Rattle.answer.specs.Answers.Due.{line}
use Rattle.listing.specs.declared.Call.{Call}
use Rattle.listing.specs.declared.Call.TheVariants as call
use Rattle.listing.specs.declared.Told.{Told}
use Rattle.listing.specs.declared.Told.TheVariants as told
use Rattle.listing.specs.declared.Listed.{Listed}

-- the words none, end and more, each with its line feed
abbrev pub none_line : List ℕ
none_line = 110 ∷ 111 ∷ 110 ∷ 101 ∷ 10 ∷ []

abbrev pub end_line : List ℕ
end_line = 101 ∷ 110 ∷ 100 ∷ 10 ∷ []

abbrev pub more_line : List ℕ
more_line = 109 ∷ 111 ∷ 114 ∷ 101 ∷ 10 ∷ []

-- a path of n entries, where so many are still to be listed at the most; where none is, that there are more
abbrev pub path_told : ℕ → ℕ → Told
path_told zero n = told.More
path_told (suc most) n = told.Path n

-- what First's answer tells
abbrev pub first_told : ℕ → FirstAnswer → Result Told Refusal
first_told most (Ok (Some n)) = Ok (path_told most n)
first_told most (Ok None) = Ok told.None
first_told most (Err e) = Err e

-- and Next's, lent n entries
abbrev pub next_told : ℕ → ℕ → NextAnswer → Result Told Refusal
next_told most n (Ok Path) = Ok (path_told most n)
next_told most n (Ok End) = Ok told.End
next_told most n (Err e) = Err e

-- the line of what is told; a path is the first entries of the path space
abbrev pub told_due : Result Told Refusal → List ℕ → Due
told_due (Ok (told.Path n)) space = path_due (take n space)
told_due (Ok told.None) space = line none_line
told_due (Ok told.End) space = line end_line
told_due (Ok told.More) space = line more_line
told_due (Err e) space = number_due (number_of e)

-- a call was lent the first n entries of the path space, or all where there are fewer, and kept its promise; the rest stays, and its answer is told
pub record Called {A : Type 0} (promise : List ℕ → List ℕ → A → Type 0) (tells : A → Result Told Refusal) (n : ℕ) (before after : List ℕ) (told : Result Told Refusal) : Type 0 where
  pub answer : A
  pub part : List ℕ
  pub promised : promise (take n before) part answer
  pub space : after ≡ part ++ drop n before
  pub says : told ≡ tells answer

-- First from a start, lent its room, or Next, lent the path
abbrev pub Calls : Question → ℕ → Call → List ℕ → List ℕ → Result Told Refusal → Type 0
Calls q most (call.First start room) = Called (FirstPromise q start) (first_told most) room
Calls q most (call.Next n) = Called (NextPromise q) (next_told most n) n

-- `write_line`: the call keeps its own promise on the path space, and the line of what it tells stands in the buffer
pub record LineListed (q : Question) (most : ℕ) (c : Call) (space space' buffer buffer' : List ℕ) (r : Listed) : Type 0 where
  pub called : Calls q most c space space' r.told
  pub written : LineWritten (told_due r.told space') buffer buffer' r.line
