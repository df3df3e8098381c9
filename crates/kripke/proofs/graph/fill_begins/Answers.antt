-- `fill_begins` meets its contract: a row filled from the front.
use native.Mathlib.Omega.{arith}
use Rattle.kripke.proofs.Begins.{first_within}
use Rattle.lists.proofs.Rows.{filled_more, filled_none}
use Rattle.kripke.proofs.graph.fill_begins.Goals as goal

pub loop-s-init : goal.loop-s-init
loop-s-init c = filled_none _ _

pub overflow_cast-begins : goal.overflow_cast-begins
overflow_cast-begins c = omega (arith, c.first_out.ensures, c.requires.1, first_within c.args.transitions.now c.loop-s.s)

pub loop-s-preserved : goal.loop-s-preserved
loop-s-preserved c = filled_more _ _ _ _ _ c.loop-s.invariant (omega arith) c.first_out.ensures
