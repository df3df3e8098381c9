-- `some_kind_above` meets its contract: a search through the nodes.
use mathlib.Core.Path.{◌≡◌}
use Prim.Native.Nat.{ℕ}
use mathlib.Core.Bool.{false}
use lib.Dec.{ltb}
use Rattle.model.specs.Model.{kind_at}
use Rattle.values.specs.Limits.{greatest_kind}
use Rattle.lists.specs.Entries.{any_below}
use Rattle.model.proofs.refusals.some_kind_above.Given as goal

abbrev pub invariant-loop-i : goal.invariant-loop-i
invariant-loop-i l = (any_below (λ (j : ℕ). ltb greatest_kind (kind_at l.nodes j)) l.i ≡ false)
