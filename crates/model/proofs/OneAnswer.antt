-- Any two answers that the calls of this crate may give coincide.
use mathlib.Core.Path.{◌≡◌, refl, ap}
use Prim.Native.Nat.{ℕ}
use native.Mathlib.Omega.{arith}
use Rattle.std.specs.Prelude.{Option, Some, None, Result}
use Rattle.values.specs.Refusal.{Answers}
use Rattle.values.specs.declared.refusal.Refusal.{Refusal}
use Rattle.values.proofs.OneAnswer.{equation_one}
use Rattle.values.proofs.Refusing.{answers_one}
use Rattle.kripke.specs.Answers.{beginnings}
use Rattle.kripke.specs.declared.graph.Transitions.{Transitions}
use Rattle.kripke.proofs.OneAnswer.{begins_one}
use Rattle.model.specs.Kinds.{KindOf, kind_of}
use Rattle.model.specs.Model.{Model}
use Rattle.model.specs.Refusals.{judge_refusal}
use Rattle.model.specs.declared.kinds.Kind.{Kind}

pub examine_one : (m : Model) (room : ℕ) (r r' : Result Transitions Refusal) → Answers (judge_refusal m room) r (λ t. t.begins ≡ beginnings m.states m.transitions) → Answers (judge_refusal m room) r' (λ t. t.begins ≡ beginnings m.states m.transitions) → r ≡ r'
examine_one m room r r' = answers_one _ _ (begins_one (beginnings m.states m.transitions)) r r'

pub kind_of_one : (n : ℕ) (r r' : Option Kind) → KindOf n r → KindOf n r' → r ≡ r'
kind_of_one n (Some k) (Some l) p q = ap Some (equation_one (kind_of n) k l p.1 q.1)
kind_of_one n (Some k) None p q = absurd (omega (arith, p.0, q))
kind_of_one n None (Some l) p q = absurd (omega (arith, p, q.0))
kind_of_one n None None p q = refl
