-- `next_row` meets its contract: a row filled from the front.
use mathlib.Core.Bool.{false}
use Rattle.kripke.specs.Until.{next}
use Rattle.lists.specs.Rows.{Filled}
use Rattle.ctl.proofs.nodes.next_row.Given as goal

abbrev pub invariant-loop-s : goal.invariant-loop-s
invariant-loop-s l = Filled (next false l.graph.transitions.now l.left) l.s l.initial.row l.row
