-- `map_row` meets its contract: a row made from the front.
use native.Mathlib.Omega.{arith}
use Rattle.ctl.proofs.Made.{made_more, made_none}
use Rattle.ctl.proofs.nodes.map_row.Goals as goal

pub loop-s-init : goal.loop-s-init
loop-s-init g c = (c.requires, made_none _ _ _ _)

pub loop-s-preserved : goal.loop-s-preserved
loop-s-preserved g c = (c.requires, made_more _ _ _ _ c.loop-s.s c.loop-s.row c.made.result c.number.result c.loop-s.invariant.1 (omega arith) (omega arith) c.number.ensures c.made.ensures)
