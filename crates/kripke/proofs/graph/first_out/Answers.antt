-- `first_out` meets its contract, and looks at no more transitions than their number has binary digits: that is the measure.
use native.Mathlib.Omega.{arith}
use Rattle.kripke.proofs.Halving.{closed_in, half_shorter, lower_half, upper_half}
use Rattle.kripke.proofs.graph.first_out.Goals as goal

pub loop-low-smaller-then-from-s : goal.loop-low-smaller-then-from-s
loop-low-smaller-then-from-s c = half_shorter _ _ (omega arith) (omega arith)

pub loop-low-preserved-then-from-s : goal.loop-low-preserved-then-from-s
loop-low-preserved-then-from-s c =
    upper_half c.args.transitions.now c.requires _ _ _ _ c.loop-low.invariant (omega arith) (omega arith)

pub loop-low-smaller : goal.loop-low-smaller
loop-low-smaller c = half_shorter _ _ (omega arith) (omega arith)

pub loop-low-preserved : goal.loop-low-preserved
loop-low-preserved c =
    lower_half c.args.transitions.now c.requires _ _ _ _ c.loop-low.invariant (omega arith) (omega arith) (omega arith)

pub returns : goal.returns
returns c = closed_in _ _ _ _ c.loop-low.invariant c.loop-low-test.false
