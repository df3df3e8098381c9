-- `check_each` meets its contract: no end seen yet is no state, and whether an order was broken is remembered.
use mathlib.Core.Path.{◌≡◌}
use mathlib.Core.Bool.{false}
use Rattle.kripke.specs.Refusals.{falls, leaves}
use Rattle.lists.specs.Entries.{any_below}
use Rattle.kripke.proofs.graph.check_each.Given as goal

abbrev pub invariant-loop-k : goal.invariant-loop-k
invariant-loop-k l = (any_below (leaves l.states l.transitions) l.k ≡ false) × (any_below (falls l.transitions) l.k ≡ l.fell)
