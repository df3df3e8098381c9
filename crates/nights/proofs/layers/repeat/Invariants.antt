-- What `repeat` puts stays within the page, which keeps its length.
use mathlib.Core.Path.{◌≡◌}
use Prim.Native.Nat.{◌≤◌}
use lib.ListN.{length}
use Rattle.nights.proofs.layers.repeat.Given as goal

abbrev pub invariant-loop : goal.invariant-loop
invariant-loop l = (l.place ≤ length l.page) × (length l.page ≡ length l.initial.page)
