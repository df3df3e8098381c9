-- `settle` meets its contract: each test that fails is a reason to leave the state, and otherwise `pick` has its successor.
use mathlib.Core.Path.{refl}
use mathlib.Core.Logic.{inl, inr}
use native.Mathlib.Omega.{arith}
use Rattle.paths.proofs.Fits.{pick_none, picked}
use Rattle.paths.proofs.question.Question.settle.Goals as goal

pub returns-in_default : goal.returns-in_default
returns-in_default c = inr (refl, λ t l e k. absurd (pick_none (picked c.args.self.now.graph.ready.accepted.graph c.pick.ensures) c.in_default.is t e k (omega arith)))

pub returns : goal.returns
returns c =
    let one = (picked c.args.self.now.graph.ready.accepted.graph c.pick.ensures).is_one _ c.in-Some.is in
    inl (refl, c.if-distances-s-ne0.false, c.if-self-s.false, (c.in-Some._next, one.0, one.1))
