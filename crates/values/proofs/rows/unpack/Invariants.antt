-- `unpack` meets its contract: a row filled from the front.
use Rattle.values.specs.Rows.{value_at}
use Rattle.lists.specs.Rows.{Filled}
use Rattle.values.proofs.rows.unpack.Given as goal

abbrev pub invariant-loop-s : goal.invariant-loop-s
invariant-loop-s l = Filled (value_at l.stored) l.s l.initial.values l.values
