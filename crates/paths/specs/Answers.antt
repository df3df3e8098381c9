-- What First, Next and Check answer, and what they leave in the path space, for every input.
use Rattle.std.specs.Prelude.{Bool, true, false, Option, Some, None, Result, Ok, Err}
use Rattle.values.specs.Refusal.{answer_number, number_of}
use Rattle.values.specs.declared.refusal.Refusal.{Refusal}
use Rattle.std.specs.Prelude.{◌≡◌, ℕ, ◌<◌, ◌≤◌, List, length}
use Rattle.lists.specs.Entries.{at}
use Rattle.lists.specs.Rows.{fill}
use Rattle.lists.specs.Causes.{Applies, Lowest}
use Rattle.kripke.specs.Walks.{Begins}
use Rattle.paths.specs.declared.Further.{Further}
use Rattle.paths.specs.declared.Further.TheVariants.{Path, End}
use Rattle.paths.specs.Questions.{Question, Witness, Shortest}
use Rattle.paths.specs.Order.{Least, Beyond}
use Rattle.paths.specs.Refusals.{causes, FirstApplies, NextApplies}

-- the length of the path or that there is none; the next one or the end; whether the list is a witness; or a refusal
abbrev pub FirstAnswer : Type 0
FirstAnswer = Result (Option ℕ) Refusal

abbrev pub NextAnswer : Type 0
NextAnswer = Result Further Refusal

abbrev pub CheckAnswer : Type 0
CheckAnswer = Result Bool Refusal

-- the smallest shortest witness from the start has n entries and fills the front of the path space, the rest of which stays
pub record FirstPath (q : Question) (start : ℕ) (before after : List ℕ) (n : ℕ) : Type 0 where
  pub path : List ℕ
  pub least : Least (Shortest q start) path
  pub size : length path ≡ n
  pub fits : n ≤ length before
  pub space : after ≡ fill path before

-- there is no witness from the start, and the path space is untouched
pub record NoPath (q : Question) (start : ℕ) (before after : List ℕ) : Type 0 where
  pub none : (p : List ℕ) → Begins start p → Witness q p → ⊥
  pub untouched : after ≡ before

-- a refusal has a number and changes nothing
pub record Unchanged (n : ℕ) (before after : List ℕ) : Type 0 where
  pub numbered : 0 < n
  pub untouched : after ≡ before

-- the lent list is a shortest witness from its first entry, and is overwritten with the next larger one
pub record NextPath (q : Question) (before after : List ℕ) : Type 0 where
  pub lent : Shortest q (at before 0) before
  pub path : Least (Beyond (Shortest q (at before 0)) before) after

-- the lent list is a shortest witness from its first entry, none is larger, and it stays
pub record NoMore (q : Question) (before after : List ℕ) : Type 0 where
  pub lent : Shortest q (at before 0) before
  pub none : (p : List ℕ) → Beyond (Shortest q (at before 0)) before p → ⊥
  pub untouched : after ≡ before

-- what each answer says
abbrev pub FirstSays : Question → ℕ → List ℕ → List ℕ → FirstAnswer → Type 0
FirstSays q start before after (Ok (Some n)) = FirstPath q start before after n
FirstSays q start before after (Ok None) = NoPath q start before after
FirstSays q start before after (Err e) = Unchanged (number_of e) before after

abbrev pub NextSays : Question → List ℕ → List ℕ → NextAnswer → Type 0
NextSays q before after (Ok Path) = NextPath q before after
NextSays q before after (Ok End) = NoMore q before after
NextSays q before after (Err e) = Unchanged (number_of e) before after

-- for a check, of the list's being what is asked for
abbrev pub CheckSays : Type 0 → CheckAnswer → Type 0
CheckSays Is (Ok true) = Is
CheckSays Is (Ok false) = Is → ⊥
CheckSays Is (Err e) = 0 < number_of e

-- `first`: the lowest number that applies, and otherwise the path or that there is none
pub record FirstPromise (q : Question) (start : ℕ) (before after : List ℕ) (answer : FirstAnswer) : Type 0 where
  pub number : Lowest (FirstApplies q start (length before)) (answer_number answer)
  pub says : FirstSays q start before after answer

-- `next`: the lowest number that applies, and otherwise the next path or the end
pub record NextPromise (q : Question) (before after : List ℕ) (answer : NextAnswer) : Type 0 where
  pub number : Lowest (NextApplies q before) (answer_number answer)
  pub says : NextSays q before after answer

-- `check`: the lowest number that applies, and otherwise yes exactly if the list is a witness
pub record CheckPromise (q : Question) (path : List ℕ) (answer : CheckAnswer) : Type 0 where
  pub number : Lowest (Applies (causes q)) (answer_number answer)
  pub says : CheckSays (Witness q path) answer
