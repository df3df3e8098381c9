-- `put_rows` meets its contract: after i nodes the space holds their rows.
use mathlib.Core.Path.{◌≡◌}
use Rattle.lists.specs.Rows.{fill}
use Rattle.ctl.specs.Lent.{model_of}
use Rattle.ctl.specs.Rows.{stored_rows}
use Rattle.ctl.proofs.NodeLists.{first_rows}
use Rattle.ctl.proofs.rows.put_rows.Given as goal

abbrev pub invariant-loop-i : goal.invariant-loop-i
invariant-loop-i l = (l.verdicts ≡ fill (stored_rows (first_rows (model_of l.structure) l.nodes l.i)) l.initial.verdicts)
