-- `way` meets its contract: what is left of the successors, and the last with a mark so far.
use Rattle.kripke.specs.Answers.{targets}
use Rattle.pictures.proofs.Marking.{Seeking}
use Rattle.pictures.proofs.question.Question.way.Given as goal

abbrev pub invariant-loop-t : goal.invariant-loop-t
invariant-loop-t l = Seeking l.self.graph.states l.self.graph.transitions.now l.marks l.s l.way (targets l.t-iterator.pairs.now)
