-- `round` meets its contract: a row filled from the front.
use Rattle.ctl.specs.Inside.{stepped}
use Rattle.lists.specs.Rows.{Filled}
use Rattle.ctl.proofs.until.Until.round.Given as goal

abbrev pub invariant-loop-s : goal.invariant-loop-s
invariant-loop-s l = Filled (stepped l.self.all l.self.graph.transitions.now l.self.left.now l.self.right.now l.row) l.s l.initial.out l.out
