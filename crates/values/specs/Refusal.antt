-- The number of each refusal, and what a call that may refuse answers.
use Rattle.std.specs.Prelude.{◌≡◌, ℕ, Result, Ok, Err, MatchResult}
use Rattle.values.specs.declared.refusal.Refusal.{Refusal}
use Rattle.values.specs.declared.refusal.Refusal.TheVariants.{StateCount, AtomCount, LabelCount, Label, Initial, TransitionList, TransitionEnd, TransitionOrder, StuckState, NodeList, Kind, Operand, VerdictSpace, Row, LevelOrStart, PathSpace, NotShortest, TextSize, TextForm, FormulaForm, Gate, UnnamedAtom, TableSpace}

abbrev pub number_of : Refusal → ℕ
number_of StateCount = 1
number_of AtomCount = 2
number_of LabelCount = 3
number_of Label = 4
number_of Initial = 5
number_of TransitionList = 6
number_of TransitionEnd = 7
number_of TransitionOrder = 8
number_of StuckState = 9
number_of NodeList = 10
number_of Kind = 11
number_of Operand = 12
number_of VerdictSpace = 13
number_of Row = 14
number_of LevelOrStart = 15
number_of PathSpace = 16
number_of NotShortest = 17
number_of TextSize = 18
number_of TextForm = 19
number_of FormulaForm = 20
number_of Gate = 21
number_of UnnamedAtom = 22
number_of TableSpace = 24

-- the number of an answer: 0 where it is no refusal
abbrev pub answer_number : {A : Type 0} → Result A Refusal → ℕ
answer_number (Ok a) = 0
answer_number (Err e) = number_of e

-- the answer where the number n is due: the refusal of this number, and at 0 a value of which P holds
abbrev pub Answers : {A : Type 0} → ℕ → Result A Refusal → (A → Type 0) → Type 0
Answers n r P = MatchResult r (λ a. (n ≡ 0) × P a) (λ e. n ≡ number_of e)

-- the same where there is nothing to hand back
abbrev pub Refuses : ℕ → Result (Unit {0}) Refusal → Type 0
Refuses n r = MatchResult r (λ _. n ≡ 0) (λ e. n ≡ number_of e)
