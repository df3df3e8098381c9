-- `begin` meets its contract: zeros, and a row filled from the front as far as there are states.
use mathlib.Core.Path.{ap, ◌∙◌}
use Prim.Native.Nat.{ℕ}
use native.Mathlib.Omega.{arith}
use lib.ListN.{replicate, length-replicate}
use Rattle.values.specs.Limits.{most_states}
use Rattle.lists.proofs.Rows.{filled_more, filled_none}
use Rattle.paths.proofs.Zeros.{at_once_none, filled_zeros}
use Rattle.paths.proofs.question.Question.begin.Goals as goal

pub loop-s-init : goal.loop-s-init
loop-s-init c = c.fill.ensures.after (λ y e. e) ∙ ap (λ (n : ℕ). replicate {A = ℕ} n 0) c.told-distances ∙ filled_none _ _

pub loop-s-preserved : goal.loop-s-preserved
loop-s-preserved c = filled_more _ _ _ _ _ c.loop-s.invariant (omega (arith, length-replicate {A = ℕ} most_states 0, c.args.self.now.graph.ready.accepted.few, c.loop-s-test.true)) c.at_once.ensures

pub returns : goal.returns
returns c =
    let few = c.args.self.now.graph.ready.accepted.few in
    filled_zeros _ _ most_states _ _ (λ t h. at_once_none _ _ _ t (omega (arith, h, c.loop-s-test.false))) (omega (arith, few, c.loop-s.auto.s-end)) c.told-distances c.loop-s.invariant
