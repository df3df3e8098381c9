-- `map_row` meets its contract: a row made from the front.
use Rattle.ctl.specs.Inside.{Made}
use Rattle.ctl.proofs.nodes.map_row.Given as goal

abbrev pub invariant-loop-s : goal.invariant-loop-s
invariant-loop-s g l = goal.F-IsAlwaysCallable g l.made × Made (λ a b r. goal.F-post g l.made a b r) l.s l.left l.right l.initial.row l.row
