-- `put` meets its contract: before round k the row has the values over walks of k states.
use mathlib.Core.Path.{◌∙◌}
use Prim.Native.Nat.{◌+◌}
use native.Mathlib.Omega.{arith}
use Rattle.kripke.specs.Until.{until}
use Rattle.lists.specs.Rows.{Filled}
use Rattle.ctl.proofs.UntilRows.{rested, right_row, round_row}
use Rattle.lists.proofs.Rows.{filled_again, filled_self}
use Rattle.ctl.proofs.until.Until.put.Goals as goal
use Rattle.ctl.proofs.until.Until.put.Goals.{After-advance, After-take_row}

-- the right row, copied: the values over walks of one state
started : (c : After-take_row) → let u = c.args.self.now in Filled (until u.all u.graph.transitions.now u.left.now u.right.now 1) u.graph.states c.args.row.now c.take_row.new.row
started c = let u = c.args.self.now in right_row u.all u.graph.states u.graph.transitions.now u.graph.ready.accepted.graph u.left.now u.right.now _ _ c.take_row.ensures.0

-- one round more
advanced : (c : After-advance) → let u = c.args.self.now in Filled (until u.all u.graph.transitions.now u.left.now u.right.now (c.loop-k.k + 1)) u.graph.states c.take_row.new.row c.advance.new.row
advanced c = let u = c.args.self.now in round_row u.all u.graph.states u.graph.transitions.now u.graph.ready.accepted.graph u.left.now u.right.now c.loop-k.k _ c.loop-k.row _ (omega arith) c.loop-k.invariant c.advance.ensures.0

pub loop-k-init : goal.loop-k-init
loop-k-init c = filled_self _ _ _ _ (started (goal.at.loop-k-init c).After-take_row)

pub returns-then-not-advance : goal.returns-then-not-advance
returns-then-not-advance c =
    let u = c.args.self.now in
    let l = c.loop-k in
    let same = c.advance.ensures.1 c.if-not-advance.true in
    filled_again _ _ _ _ _ _ (started (goal.at.returns-then-not-advance c).After-take_row) (rested u.all u.graph.states u.graph.transitions.now u.graph.ready.accepted.graph u.left.now u.right.now l.k _ _ (omega arith) (omega arith) (same ∙ l.invariant) (advanced (goal.at.returns-then-not-advance c).After-advance))

pub loop-k-preserved : goal.loop-k-preserved
loop-k-preserved c = advanced (goal.at.loop-k-preserved c).After-advance
