-- `round` meets its contract: one state after the other is settled.
use native.Mathlib.Omega.{arith}
use Rattle.paths.proofs.Rounding.{rounding_end, rounding_step}
use Rattle.paths.proofs.question.Question.round.Goals as goal

pub loop-s-preserved : goal.loop-s-preserved
loop-s-preserved c = rounding_step c.loop-s.invariant c.loop-s-test.true (omega (arith, c.told-distances, c.args.self.now.graph.ready.accepted.few)) c.requires.0 c.settle.ensures

pub returns : goal.returns
returns c = rounding_end c.loop-s.invariant c.loop-s-test.false c.requires.0
