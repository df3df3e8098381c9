-- Why an A-until is false. What a picture is and what each call promises is named in the crate of pictures.
use Rattle.std.specs.Prelude.{Some, None, Ok}
use mathlib.Core.Bool.{true}
use Rattle.paths.specs.Answers.{CheckAnswer}
use Rattle.std.specs.Prelude.{◌≡◌, ℕ, ◌<◌, ◌≤◌, List, ◌↔◌, length, take}
use Rattle.lists.specs.Causes.{refusal_of}
use Rattle.values.specs.Values.{top}
use Rattle.kripke.specs.Transitions.{Graph}
use Rattle.model.specs.Model.{Model, kind_at}
use Rattle.pictures.specs.declared.Ending.{Ending}
use Rattle.pictures.specs.Pictures.{Question, asked, IsFalse, Picture, Pictured, PicturedWithin}
use Rattle.pictures.specs.Refusals.{causes}
use Rattle.pictures.specs.Answers.{PictureAnswer, PicturePromise, CheckPromise, SameKind}
use Rattle.promises.specs.Reasons.{RowsOf, of_parts, of_part, of_not}
use Rattle.promises.specs.Verdicts.{Accepting, There, written}

-- A picture with a state first exists exactly if A(left U right) is false there, and then one of at most as many entries as there are states.
abbrev pub PicturedExactly : Type 0
PicturedExactly = (q : Question) (s : ℕ) → Graph q.states q.transitions → s < q.states → (Pictured q s ↔ IsFalse q s) × (IsFalse q s → PicturedWithin q s q.states)

-- A list passes the check exactly if it is a picture, the question not being refused.
abbrev pub PassesExactly : Type 0
PassesExactly = (q : Question) (path : List ℕ) (e : Ending) (a : CheckAnswer) → refusal_of (causes q) ≡ 0 → CheckPromise q path e a → (a ≡ Ok true) ↔ Picture q path e

-- What is handed out passes the check.
abbrev pub HandedPasses : Type 0
HandedPasses = (q : Question) (start : ℕ) (before after : List ℕ) (n : ℕ) (e : Ending) (a : CheckAnswer) → PicturePromise q start before after (Ok (Some (n, e))) → CheckPromise q (take n after) e a → a ≡ (Ok true)

-- "Which picture is chosen is free": any two answers are both a picture, or both "none", or both the same refusal, and where no picture is
-- handed out the spaces coincide;
abbrev pub OnePictureKind : Type 0
OnePictureKind = (q : Question) (start : ℕ) (before a b : List ℕ) (x y : PictureAnswer) → PicturePromise q start before a x → PicturePromise q start before b y → SameKind x a y b

-- the answers of the check coincide.
abbrev pub OnePictureCheck : Type 0
OnePictureCheck = (q : Question) (path : List ℕ) (e : Ending) (x y : CheckAnswer) → CheckPromise q path e x → CheckPromise q path e y → x ≡ y

-- what is asked about node k of a judged model: a picture with these rows
abbrev pub picture_of : RowsOf → Model → List ℕ → ℕ → Question
picture_of rows m space k = asked m.states m.transitions (rows m space k).left (rows m space k).right

-- for a node of this kind, asked with these rows and room for as many entries as there are states, a picture is handed out exactly where
-- what `judge` wrote for it is this verdict
abbrev pub PictureTells : ℕ → RowsOf → ℕ → Type 0
PictureTells kind rows verdict = Accepting (λ m before after v. (k s : ℕ) → There m k s → kind_at m.nodes k ≡ kind
    → (space space' : List ℕ) (a : PictureAnswer) → m.states ≤ length space → PicturePromise (picture_of rows m after k) s space space' a
    → (written m after k s ≡ verdict → (n : ℕ) × (e : Ending) × (a ≡ Ok (Some (n, e)))) × ((written m after k s ≡ verdict → ⊥) → a ≡ Ok None))

-- "One is handed out exactly if the verdict is false." Node k is A(left U right).
abbrev pub PictureExactly : Type 0
PictureExactly = PictureTells 6 of_parts 0

-- The same where node k is AF.
abbrev pub NotEventuallyExactly : Type 0
NotEventuallyExactly = PictureTells 11 of_part 0

-- Where node k is EG, a picture is a loop on which its part is true: one is handed out exactly if the verdict is true.
abbrev pub AlwaysExactly : Type 0
AlwaysExactly = PictureTells 12 of_not top
