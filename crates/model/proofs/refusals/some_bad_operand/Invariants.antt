-- `some_bad_operand` meets its contract: a search through the nodes.
use mathlib.Core.Path.{◌≡◌}
use mathlib.Core.Bool.{false}
use Rattle.model.specs.Refusals.{bad_operand}
use Rattle.lists.specs.Entries.{any_below}
use Rattle.model.proofs.refusals.some_bad_operand.Given as goal

abbrev pub invariant-loop-i : goal.invariant-loop-i
invariant-loop-i l = (any_below (bad_operand l.atoms l.nodes) l.i ≡ false)
