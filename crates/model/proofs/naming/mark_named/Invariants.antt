-- `mark_named` meets its contract: the marks of the nodes before, and one more.
use mathlib.Core.Path.{◌≡◌}
use lib.ListN.{length}
use Rattle.model.specs.Inside.{Marked}
use Rattle.model.proofs.naming.mark_named.Given as goal

abbrev pub invariant-loop-i : goal.invariant-loop-i
invariant-loop-i l = (length l.marks ≡ length l.initial.marks) × Marked l.nodes l.i l.marks
