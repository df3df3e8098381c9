-- `round` meets its contract: one state after the other is settled.
use Rattle.paths.proofs.Rounding.{Rounding}
use Rattle.paths.proofs.question.Question.round.Given as goal

abbrev pub invariant-loop-s : goal.invariant-loop-s
invariant-loop-s l = Rounding l.self.graph.states l.self.graph.transitions.now l.self.left.now l.self.level l.k l.initial.distances l.distances l.s
