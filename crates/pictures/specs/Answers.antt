-- What the two calls answer, and what they leave in the path space, for every input.
use Rattle.std.specs.Prelude.{◌≡◌, ℕ, ◌≤◌, List, length}
use Rattle.lists.specs.Rows.{fill}
use Rattle.lists.specs.Causes.{Applies, Lowest}
use Rattle.kripke.specs.Walks.{Begins}
use Rattle.paths.specs.Answers.{CheckAnswer}
use Rattle.std.specs.Prelude.{Option, Some, None, Result, Ok, Err}
use Rattle.values.specs.Refusal.{answer_number, number_of}
use Rattle.values.specs.declared.refusal.Refusal.{Refusal}
use Rattle.paths.specs.Answers.{CheckSays, Unchanged}
use Rattle.pictures.specs.declared.Ending.{Ending}
use Rattle.pictures.specs.Pictures.{Question, IsFalse, Picture}
use Rattle.pictures.specs.Refusals.{causes, PictureApplies}

-- how many entries the picture has and how it ends, that there is none, or a refusal
abbrev pub PictureAnswer : Type 0
PictureAnswer = Result (Option (ℕ × Ending)) Refusal

-- the verdict is false, and a picture with the start first, of n entries and at most as many as there are states, fills the front of the
-- path space, the rest of which stays
pub record Handed (q : Question) (start : ℕ) (before after : List ℕ) (n : ℕ) (e : Ending) : Type 0 where
  pub is_false : IsFalse q start
  pub path : List ℕ
  pub begins : Begins start path
  pub drawn : Picture q path e
  pub size : length path ≡ n
  pub few : n ≤ q.states
  pub fits : n ≤ length before
  pub space : after ≡ fill path before

-- the verdict is not false, and the path space is untouched
pub record NotFalse (q : Question) (start : ℕ) (before after : List ℕ) : Type 0 where
  pub not-false : IsFalse q start → ⊥
  pub untouched : after ≡ before

-- what each answer says
abbrev pub PictureSays : Question → ℕ → List ℕ → List ℕ → PictureAnswer → Type 0
PictureSays q start before after (Ok (Some (n, e))) = Handed q start before after n e
PictureSays q start before after (Ok None) = NotFalse q start before after
PictureSays q start before after (Err e) = Unchanged (number_of e) before after

-- `picture`: the lowest number that applies, and otherwise a picture or that the verdict is not false
pub record PicturePromise (q : Question) (start : ℕ) (before after : List ℕ) (answer : PictureAnswer) : Type 0 where
  pub number : Lowest (PictureApplies q start (length before)) (answer_number answer)
  pub says : PictureSays q start before after answer

-- `check`: the lowest number that applies, and otherwise yes exactly if the list and its ending are a picture
pub record CheckPromise (q : Question) (path : List ℕ) (e : Ending) (answer : CheckAnswer) : Type 0 where
  pub number : Lowest (Applies (causes q)) (answer_number answer)
  pub says : CheckSays (Picture q path e) answer

-- two answers of one kind: both a picture, or both "none", or both the same refusal, and the last two with the same space
abbrev pub SameKind : PictureAnswer → List ℕ → PictureAnswer → List ℕ → Type 0
SameKind (Ok (Some p)) a (Ok (Some r)) b = Unit {0}
SameKind (Ok (Some p)) a (Ok None) b = ⊥
SameKind (Ok (Some p)) a (Err f) b = ⊥
SameKind (Ok None) a (Ok (Some r)) b = ⊥
SameKind (Ok None) a (Ok None) b = a ≡ b
SameKind (Ok None) a (Err f) b = ⊥
SameKind (Err e) a (Ok (Some r)) b = ⊥
SameKind (Err e) a (Ok None) b = ⊥
SameKind (Err e) a (Err f) b = (e ≡ f) × (a ≡ b)
