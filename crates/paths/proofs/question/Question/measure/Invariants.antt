-- `measure` meets its contract: with each round the distances reach one entry further.
use Rattle.lists.specs.Entries.{at}
use Rattle.paths.specs.Questions.{Reaches}
use Rattle.paths.specs.Inside.{Upto}
use Rattle.paths.proofs.question.Question.measure.Given as goal

abbrev pub invariant-loop-k : goal.invariant-loop-k
invariant-loop-k l = Upto l.self.graph.transitions.now (Reaches l.self.graph.states l.self.level (at l.self.left.now)) (Reaches l.self.graph.states l.self.level (at l.self.right.now)) l.k l.k l.distances
