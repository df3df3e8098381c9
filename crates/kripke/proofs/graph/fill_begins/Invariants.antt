-- `fill_begins` meets its contract: a row filled from the front.
use Rattle.kripke.specs.Transitions.{first_out}
use Rattle.lists.specs.Rows.{Filled}
use Rattle.kripke.proofs.graph.fill_begins.Given as goal

abbrev pub invariant-loop-s : goal.invariant-loop-s
invariant-loop-s l = Filled (first_out l.transitions) l.s l.initial.begins l.begins
