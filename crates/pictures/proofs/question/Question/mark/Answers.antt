-- `mark` meets its contract: with each round that takes off a mark there are fewer.
use Rattle.pictures.proofs.Marking.{begun_holds, round_fewer}
use Rattle.pictures.proofs.question.Question.mark.Goals as goal

pub loop-init : goal.loop-init
loop-init c = (begun_holds _ c.args.self.now.graph.ready.accepted.graph c.begin.ensures, c.requires)

pub loop-smaller : goal.loop-smaller
loop-smaller c = round_fewer (rw c.loop-test.true at c.round.ensures.rounded)

pub round-requires : goal.round-requires
round-requires c = c.loop.invariant.1

pub loop-preserved : goal.loop-preserved
loop-preserved c = (c.round.ensures.rounded.keeps _ c.loop.invariant.0, c.round.ensures.led)
