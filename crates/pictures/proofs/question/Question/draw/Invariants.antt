-- `draw` meets its contract: by the mark of the start, the room, and the walk, on which no state is passed twice.
use Prim.Native.Nat.{◌-◌}
use Rattle.pictures.proofs.OnWalk.{Going}
use Rattle.pictures.proofs.question.Question.draw.Given as goal

abbrev pub invariant-loop-s : goal.invariant-loop-s
invariant-loop-s l = let g = l.self.graph in Going g.states g.transitions.now l.self.left.now l.self.right.now l.ways l.start l.initial.path l.path l.places l.s l.n

abbrev pub decreases-loop-s : goal.decreases-loop-s
decreases-loop-s l = l.self.graph.states - l.n
