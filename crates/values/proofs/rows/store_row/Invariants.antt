-- `store_row` meets its contract: a row filled from the front.
use Rattle.lists.specs.Entries.{at}
use Rattle.lists.specs.Rows.{Filled}
use Rattle.values.proofs.rows.store_row.Given as goal

abbrev pub invariant-loop-i : goal.invariant-loop-i
invariant-loop-i l = Filled (at l.values) l.i l.initial.space l.space
