-- `round` meets its contract: one state after the other.
use Rattle.pictures.proofs.Marking.{Rounding}
use Rattle.pictures.proofs.question.Question.round.Given as goal

abbrev pub invariant-loop-s : goal.invariant-loop-s
invariant-loop-s l = Rounding l.self.graph.states l.self.graph.transitions.now l.self.left.now l.initial.marks l.marks l.ways l.some l.s
