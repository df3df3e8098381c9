-- `take_row` meets its contract: the front is the source's already, or it is filled from the front.
use Rattle.lists.specs.Entries.{at}
use Rattle.lists.specs.Rows.{Filled}
use Rattle.ctl.proofs.until.take_row.Given as goal

abbrev pub invariant-loop-s : goal.invariant-loop-s
invariant-loop-s l = Filled (at l.source) l.s l.initial.row l.row
