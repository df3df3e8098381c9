-- `put` meets its contract: before round k the row has the values over walks of k states.
use Rattle.kripke.specs.Until.{until}
use Rattle.lists.specs.Rows.{Filled}
use Rattle.ctl.proofs.until.Until.put.Given as goal

abbrev pub invariant-loop-k : goal.invariant-loop-k
invariant-loop-k l = let u = l.self in Filled (until u.all u.graph.transitions.now u.left.now u.right.now l.k) u.graph.states l.initial.row l.row
