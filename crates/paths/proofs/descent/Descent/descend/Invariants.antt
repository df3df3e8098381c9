-- `descend` meets its contract: each place has the smallest state below the one before.
use Rattle.paths.proofs.Descending.{Filling}
use Rattle.paths.proofs.descent.Descent.descend.Given as goal

abbrev pub invariant-loop-i : goal.invariant-loop-i
invariant-loop-i l = Filling l.self.graph.transitions.now l.self.distances.now l.start l.n l.path l.s l.i
