-- `begin` meets its contract: zeros, and a row filled from the front as far as there are states.
use lib.ListN.{replicate}
use Rattle.lists.specs.Entries.{at}
use Rattle.lists.specs.Rows.{Filled}
use Rattle.values.specs.Limits.{most_states}
use Rattle.paths.specs.Inside.{at_once}
use Rattle.paths.proofs.question.Question.begin.Given as goal

abbrev pub invariant-loop-s : goal.invariant-loop-s
invariant-loop-s l = Filled (at_once l.self.graph.states (at l.self.right.now) l.self.level) l.s (replicate most_states 0) l.distances
