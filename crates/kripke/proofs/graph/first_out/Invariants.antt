-- `first_out` meets its contract, and looks at no more transitions than their number has binary digits: that is the measure.
use Prim.Native.Nat.{◌-◌}
use lib.Ieee.{size}
use Rattle.kripke.proofs.Halving.{Between}
use Rattle.kripke.proofs.graph.first_out.Given as goal

abbrev pub invariant-loop-low : goal.invariant-loop-low
invariant-loop-low l = Between l.transitions l.s l.low l.high

abbrev pub decreases-loop-low : goal.decreases-loop-low
decreases-loop-low l = size (l.high - l.low)
