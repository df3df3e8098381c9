-- `descend` meets its contract: each place has the smallest state below the one before.
use native.Mathlib.Omega.{arith}
use Rattle.paths.proofs.Fits.{picked}
use Rattle.paths.proofs.Descending.{filling_end, filling_in, filling_step, picked_lowest}
use Rattle.kripke.proofs.Successors.{edge_state}
use Rattle.paths.proofs.descent.Descent.descend.Goals as goal

pub overflow_cast-path-in-loop-i : goal.overflow_cast-path-in-loop-i
overflow_cast-path-in-loop-i c =
    let g = c.args.self.now.graph.ready.accepted in
    omega (arith, g.few, edge_state _ _ g.graph _ _ ((picked g.graph c.pick.ensures).is_one _ c.unwrap-s.ensures).0)

pub loop-i-preserved : goal.loop-i-preserved
loop-i-preserved c =
    let i = c.loop-i.invariant in
    let f = filling_in c.args.self.now.layers i c.loop-i-test.true in
    filling_step i c.loop-i-test.true (picked_lowest _ _ c.args.self.now.graph.ready.accepted.graph c.pick.ensures c.unwrap-s.ensures f.1)

pub returns : goal.returns
returns c = filling_end c.loop-i.invariant c.loop-i-test.false
