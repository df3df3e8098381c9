-- Any two answers that a call may give coincide, and so does what they leave in the path space.
use Rattle.paths.specs.declared.Further.TheVariants.{Path, End}
use Rattle.std.specs.Prelude.{Some, None, Ok, Err}
use Rattle.values.specs.Refusal.{answer_number}
use Rattle.values.proofs.Refusing.{number_tells}
use mathlib.Core.Bool.{true, false}
use Rattle.paths.specs.Answers.{CheckAnswer, FirstAnswer, NextAnswer}
use mathlib.Core.Path.{◌≡◌, refl, sym, ap, ◌∙◌}
use Prim.Native.Nat.{ℕ}
use mathlib.Core.List.{List}
use native.Mathlib.Omega.{arith}
use lib.ListN.{length}
use Rattle.lists.specs.Rows.{fill}
use Rattle.lists.proofs.Causes.{lowest_one}
use Rattle.paths.specs.Questions.{Question, Witness}
use Rattle.paths.specs.Answers.{CheckPromise, CheckSays, FirstPath, FirstPromise, FirstSays, NextPromise, NextSays}
use Rattle.paths.proofs.Orders.{least_one}

same_path : (q : Question) (start : ℕ) (space a b : List ℕ) (n m : ℕ) → FirstPath q start space a n → FirstPath q start space b m → (n ≡ m) × (a ≡ b)
same_path q start space a b n m f g =
    let e : f.path ≡ g.path = least_one f.least g.least in
    (sym f.size ∙ ap length e ∙ g.size, f.space ∙ ap (λ (p : List ℕ). fill p space) e ∙ sym g.space)

pub first_one : (q : Question) (start : ℕ) (space a b : List ℕ) (x y : FirstAnswer) → FirstPromise q start space a x → FirstPromise q start space b y → (x ≡ y) × (a ≡ b)
first_one q start space a b x y f g = go x y (lowest_one f.number g.number) f.says g.says
  where
    go : (x y : FirstAnswer) → answer_number x ≡ answer_number y → FirstSays q start space a x → FirstSays q start space b y → (x ≡ y) × (a ≡ b)
    go (Ok (Some n)) (Ok (Some m)) e f g = let s = same_path q start space a b n m f g in (ap (λ (k : ℕ). Ok (Some k)) s.0, s.1)
    go (Ok (Some n)) (Ok None) e f g = absurd (g.none f.path f.least.is.begins f.least.is.witness)
    go (Ok (Some n)) (Err m) e f g = absurd (omega (arith, g.numbered))
    go (Ok None) (Ok (Some m)) e f g = absurd (f.none g.path g.least.is.begins g.least.is.witness)
    go (Ok None) (Ok None) e f g = (refl, f.untouched ∙ sym g.untouched)
    go (Ok None) (Err m) e f g = absurd (omega (arith, g.numbered))
    go (Err n) (Ok (Some m)) e f g = absurd (omega (arith, f.numbered))
    go (Err n) (Ok None) e f g = absurd (omega (arith, f.numbered))
    go (Err n) (Err m) e f g = (ap Err (number_tells n m e), f.untouched ∙ sym g.untouched)

pub next_one : (q : Question) (path a b : List ℕ) (x y : NextAnswer) → NextPromise q path a x → NextPromise q path b y → (x ≡ y) × (a ≡ b)
next_one q path a b x y f g = go x y (lowest_one f.number g.number) f.says g.says
  where
    go : (x y : NextAnswer) → answer_number x ≡ answer_number y → NextSays q path a x → NextSays q path b y → (x ≡ y) × (a ≡ b)
    go (Ok Path) (Ok Path) e f g = (refl, least_one f.path g.path)
    go (Ok Path) (Ok End) e f g = absurd (g.none a f.path.is)
    go (Ok Path) (Err m) e f g = absurd (omega (arith, g.numbered))
    go (Ok End) (Ok Path) e f g = absurd (f.none b g.path.is)
    go (Ok End) (Ok End) e f g = (refl, f.untouched ∙ sym g.untouched)
    go (Ok End) (Err m) e f g = absurd (omega (arith, g.numbered))
    go (Err n) (Ok Path) e f g = absurd (omega (arith, f.numbered))
    go (Err n) (Ok End) e f g = absurd (omega (arith, f.numbered))
    go (Err n) (Err m) e f g = (ap Err (number_tells n m e), f.untouched ∙ sym g.untouched)

-- of any check
pub check_same : (Is : Type 0) (x y : CheckAnswer) → answer_number x ≡ answer_number y → CheckSays Is x → CheckSays Is y → x ≡ y
check_same Is (Ok true) (Ok true) e f g = refl
check_same Is (Ok true) (Ok false) e f g = absurd (g f)
check_same Is (Ok true) (Err m) e f g = absurd (omega (arith, e, g))
check_same Is (Ok false) (Ok true) e f g = absurd (f g)
check_same Is (Ok false) (Ok false) e f g = refl
check_same Is (Ok false) (Err m) e f g = absurd (omega (arith, e, g))
check_same Is (Err n) (Ok true) e f g = absurd (omega (arith, e, f))
check_same Is (Err n) (Ok false) e f g = absurd (omega (arith, e, f))
check_same Is (Err n) (Err m) e f g = ap Err (number_tells n m e)

pub check_one : (q : Question) (path : List ℕ) (x y : CheckAnswer) → CheckPromise q path x → CheckPromise q path y → x ≡ y
check_one q path x y f g = check_same (Witness q path) x y (lowest_one f.number g.number) f.says g.says
