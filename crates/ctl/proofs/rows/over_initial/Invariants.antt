-- `over_initial` meets its contract: after s states it holds the smallest value at the initial ones among them.
use mathlib.Core.Path.{◌≡◌}
use Rattle.values.specs.Answers.{verdict}
use Rattle.ctl.proofs.OverInitial.{smallest_so_far}
use Rattle.ctl.proofs.rows.over_initial.Given as goal

abbrev pub invariant-loop-s : goal.invariant-loop-s
invariant-loop-s l = (l.found ≡ verdict (smallest_so_far l.fn.initial l.row l.s))
