-- Any two permitted answers of `picture` are of one kind, and coincide with their spaces where no picture is handed out; those of the check coincide.
use mathlib.Core.Path.{◌≡◌, sym, ◌∙◌}
use Prim.Native.Nat.{ℕ}
use mathlib.Core.List.{List}
use native.Mathlib.Omega.{arith}
use Rattle.lists.proofs.Causes.{lowest_one}
use Rattle.paths.specs.Answers.{CheckAnswer}
use Rattle.paths.proofs.OneAnswer.{check_same}
use Rattle.pictures.specs.declared.Ending.{Ending}
use Rattle.std.specs.Prelude.{Some, None, Ok, Err}
use Rattle.values.specs.Refusal.{answer_number}
use Rattle.values.proofs.Refusing.{number_tells}
use Rattle.pictures.specs.Pictures.{Picture, Question}
use Rattle.pictures.specs.Answers.{CheckPromise, PictureAnswer, PicturePromise, PictureSays, SameKind}

pub picture_kind : (q : Question) (start : ℕ) (space a b : List ℕ) (x y : PictureAnswer) → PicturePromise q start space a x → PicturePromise q start space b y → SameKind x a y b
picture_kind q start space a b x y f g = go x y (lowest_one f.number g.number) f.says g.says
  where
    go : (x y : PictureAnswer) → answer_number x ≡ answer_number y → PictureSays q start space a x → PictureSays q start space b y → SameKind x a y b
    go (Ok (Some p)) (Ok (Some r)) i f g = tt
    go (Ok (Some (n, e))) (Ok None) i f g = g.not-false f.is_false
    go (Ok (Some (n, e))) (Err m) i f g = omega (arith, g.numbered)
    go (Ok None) (Ok (Some (m, e'))) i f g = f.not-false g.is_false
    go (Ok None) (Ok None) i f g = f.untouched ∙ sym g.untouched
    go (Ok None) (Err m) i f g = omega (arith, g.numbered)
    go (Err n) (Ok (Some (m, e'))) i f g = omega (arith, f.numbered)
    go (Err n) (Ok None) i f g = omega (arith, f.numbered)
    go (Err n) (Err m) i f g = (number_tells n m i, f.untouched ∙ sym g.untouched)

pub check_one : (q : Question) (path : List ℕ) (e : Ending) (x y : CheckAnswer) → CheckPromise q path e x → CheckPromise q path e y → x ≡ y
check_one q path e x y f g = check_same (Picture q path e) x y (lowest_one f.number g.number) f.says g.says
