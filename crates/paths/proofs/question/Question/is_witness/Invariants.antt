-- `is_witness` meets its contract: a search through the entries.
use mathlib.Core.Path.{◌≡◌}
use mathlib.Core.Bool.{false}
use Rattle.lists.specs.Entries.{any_below, at}
use Rattle.paths.specs.Inside.{at_fault}
use Rattle.paths.proofs.question.Question.is_witness.Given as goal

abbrev pub invariant-loop-i : goal.invariant-loop-i
invariant-loop-i l = any_below (at_fault l.self.graph.states l.self.graph.transitions.now (at l.self.left.now) (at l.self.right.now) l.self.level l.path) l.i ≡ false
