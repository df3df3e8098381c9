-- `measure` meets its contract: with each round the distances reach one entry further.
use native.Mathlib.Omega.{arith}
use Rattle.paths.proofs.Rounding.{begun_upto}
use Rattle.paths.proofs.question.Question.measure.Goals as goal

pub loop-k-init : goal.loop-k-init
loop-k-init c =
    let x = c.args in
    (begun_upto x.self.now.graph.states x.self.now.graph.transitions.now x.self.now.left.now x.self.now.right.now x.self.now.level x.distances.now _ (omega (arith, c.told-distances, c.args.self.now.graph.ready.accepted.few)) c.begin.ensures)
