-- `atom_row` meets its contract: a row filled from the front.
use mathlib.Core.Path.{◌≡◌, refl}
use Prim.Native.Nat.{ℕ, ◌+◌, ◌*◌, ◌<◌}
use native.Mathlib.Omega.{arith}
use native.Mathlib.Nat.{mul-le-mul_right}
use Rattle.lists.proofs.Rows.{filled_more, filled_none}
use Rattle.ctl.proofs.nodes.Structure.atom_row.Goals as goal

-- a label's place lies within the list
within : (states atoms s atom n : ℕ) → n ≡ states * atoms → s < states → atom < atoms → s * atoms + atom < n
within states atoms s atom n e h k = omega (arith, mul-le-mul_right atoms h)

pub loop-s-init : goal.loop-s-init
loop-s-init c = filled_none _ _

pub loop-s-preserved : goal.loop-s-preserved
loop-s-preserved c = filled_more _ _ _ _ _ c.loop-s.invariant (omega arith) refl
