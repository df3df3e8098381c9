-- `advance` meets its contract: from the last place back, no larger state yet; then one, and the smallest below it each time.
use Prim.Native.Nat.{◌-◌}
use Rattle.lists.specs.Entries.{at}
use Rattle.paths.proofs.Advancing.{Advancing}
use Rattle.paths.proofs.descent.Descent.advance.Given as goal

abbrev pub invariant-loop-i : goal.invariant-loop-i
invariant-loop-i l = Advancing l.self.graph.transitions.now (at l.self.distances.now) l.initial.path l.path (l.i - 1)
