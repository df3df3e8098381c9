-- A refusal has a number above 0, and a table of causes tried part by part.
use mathlib.Core.Path.{◌≡◌, refl, sym, ap, ◌∙◌}
use Prim.Native.Nat.{ℕ, ◌<◌}
use mathlib.Core.List.{List, [], ◌∷◌, ◌++◌}
use mathlib.Core.Bool.{Bool, true, false, cond}
use native.Mathlib.Omega.{arith}
use lib.ListN.{get_or}
use Rattle.lists.specs.Causes.{Cause, Rising, refusal_of}
use Rattle.lists.proofs.Causes.{refusal_append}
use Rattle.std.specs.Prelude.{Result, Ok, Err, IsErrAnd}
use Rattle.std.proofs.lemmas.Result.{err_from_is_err_and}
use Rattle.values.specs.Refusal.{Answers, Refuses, answer_number, number_of}
use Rattle.values.specs.declared.refusal.Refusal.{Refusal}
use Rattle.values.specs.declared.refusal.Refusal.TheVariants.{StateCount, AtomCount, LabelCount, Label, Initial, TransitionList, TransitionEnd, TransitionOrder, StuckState, NodeList, Kind, Operand, VerdictSpace, Row, LevelOrStart, PathSpace, NotShortest, TextSize, TextForm, FormulaForm, Gate, UnnamedAtom, TableSpace}

pub number_some : (e : Refusal) → 0 < number_of e
number_some e = elim e as (λ k. 0 < number_of k) [
  | StateCount ↦ omega arith
  | AtomCount ↦ omega arith
  | LabelCount ↦ omega arith
  | Label ↦ omega arith
  | Initial ↦ omega arith
  | TransitionList ↦ omega arith
  | TransitionEnd ↦ omega arith
  | TransitionOrder ↦ omega arith
  | StuckState ↦ omega arith
  | NodeList ↦ omega arith
  | Kind ↦ omega arith
  | Operand ↦ omega arith
  | VerdictSpace ↦ omega arith
  | Row ↦ omega arith
  | LevelOrStart ↦ omega arith
  | PathSpace ↦ omega arith
  | NotShortest ↦ omega arith
  | TextSize ↦ omega arith
  | TextForm ↦ omega arith
  | FormulaForm ↦ omega arith
  | Gate ↦ omega arith
  | UnnamedAtom ↦ omega arith
  | TableSpace ↦ omega arith
]

-- refused by the first part: the whole table gives the same number
pub refused_early : (cs ds : List Cause) (e : Refusal) → refusal_of cs ≡ number_of e → refusal_of (cs ++ ds) ≡ number_of e
unfolding refusal_of
refused_early [] ds e q = absurd (omega (arith, number_some e, q))
refused_early (c ∷ cs) ds e q = go c.holds q (refused_early cs ds e)
  where
    go : (b : Bool) → cond b c.number (refusal_of cs) ≡ number_of e → (refusal_of cs ≡ number_of e → refusal_of (cs ++ ds) ≡ number_of e) → cond b c.number (refusal_of (cs ++ ds)) ≡ number_of e
    go true p later = p
    go false p later = later p

-- passed by the first part: the rest decides
pub passed_early : (cs ds : List Cause) → Rising 0 cs → refusal_of cs ≡ 0 → refusal_of (cs ++ ds) ≡ refusal_of ds
passed_early cs ds r z = refusal_append 0 cs ds r ∙ rw z refl

-- the exit of a `?`: the refusal that is handed on is the one that was met
pub handed_on : {A : Type 0} (P : A → Type 0) (n : ℕ) (r : Result A Refusal) (e : Refusal) → IsErrAnd r (λ y. y ≡ e) → n ≡ number_of e → Answers n r P
handed_on P n r e h q = let p = err_from_is_err_and r h in rw (p.1, p.2) q

pub is_refused : {A : Type 0} (r : Result A Refusal) (e : Refusal) → IsErrAnd r (λ y. y ≡ e) → r ≡ Err e
is_refused r e h = let p = err_from_is_err_and r h in p.1 ∙ ap Err p.2

-- the number tells the refusal
of_number : ℕ → Refusal
of_number n = get_or (StateCount ∷ StateCount ∷ AtomCount ∷ LabelCount ∷ Label ∷ Initial ∷ TransitionList ∷ TransitionEnd ∷ TransitionOrder ∷ StuckState ∷ NodeList ∷ Kind ∷ Operand ∷ VerdictSpace ∷ Row ∷ LevelOrStart ∷ PathSpace ∷ NotShortest ∷ TextSize ∷ TextForm ∷ FormulaForm ∷ Gate ∷ UnnamedAtom ∷ TableSpace ∷ TableSpace ∷ []) n StateCount

told : (e : Refusal) → of_number (number_of e) ≡ e
unfolding of_number
told StateCount = refl
told AtomCount = refl
told LabelCount = refl
told Label = refl
told Initial = refl
told TransitionList = refl
told TransitionEnd = refl
told TransitionOrder = refl
told StuckState = refl
told NodeList = refl
told Kind = refl
told Operand = refl
told VerdictSpace = refl
told Row = refl
told LevelOrStart = refl
told PathSpace = refl
told NotShortest = refl
told TextSize = refl
told TextForm = refl
told FormulaForm = refl
told Gate = refl
told UnnamedAtom = refl
told TableSpace = refl

pub number_tells : (e e' : Refusal) → number_of e ≡ number_of e' → e ≡ e'
number_tells e e' q = sym (told e) ∙ ap of_number q ∙ told e'

-- any two answers that may be given coincide, and their number is the one that is due
pub answers_one : {A : Type 0} (P : A → Type 0) (n : ℕ) → ((a b : A) → P a → P b → a ≡ b) → (r r' : Result A Refusal) → Answers n r P → Answers n r' P → r ≡ r'
answers_one P n one (Ok a) (Ok b) p q = ap Ok (one a b p.1 q.1)
answers_one P n one (Ok a) (Err e) p q = absurd (omega (arith, number_some e, p.0, q))
answers_one P n one (Err e) (Ok b) p q = absurd (omega (arith, number_some e, q.0, p))
answers_one P n one (Err e) (Err e') p q = ap Err (number_tells e e' (sym p ∙ q))

pub refuses_one : (n : ℕ) (r r' : Result (Unit {0}) Refusal) → Refuses n r → Refuses n r' → r ≡ r'
refuses_one n (Ok a) (Ok b) p q = refl
refuses_one n (Ok a) (Err e) p q = absurd (omega (arith, number_some e, p, q))
refuses_one n (Err e) (Ok b) p q = absurd (omega (arith, number_some e, q, p))
refuses_one n (Err e) (Err e') p q = ap Err (number_tells e e' (sym p ∙ q))

pub answers_number : {A : Type 0} (P : A → Type 0) (n : ℕ) (r : Result A Refusal) → Answers n r P → answer_number r ≡ n
answers_number P n (Ok a) p = sym p.0
answers_number P n (Err e) p = sym p
