-- `mark` meets its contract: with each round that takes off a mark there are fewer.
use Rattle.pictures.specs.Inside.{Holds, Led}
use Rattle.pictures.proofs.Marking.{marked_count}
use Rattle.pictures.proofs.question.Question.mark.Given as goal

abbrev pub invariant-loop : goal.invariant-loop
invariant-loop l = Holds l.self.graph.states l.self.graph.transitions.now l.self.left.now l.self.right.now l.marks × Led l.self.graph.transitions.now l.ways

abbrev pub decreases-loop : goal.decreases-loop
decreases-loop l = marked_count l.marks l.self.graph.states
