-- `put_node` meets its contract.
use native.Mathlib.Omega.{arith}
use Rattle.formula.proofs.NodeSpace.{put_node}
use Rattle.formula.proofs.nodes.put_node.Goals as goal

pub returns-then-n-lt-MOST_NODES : goal.returns-then-n-lt-MOST_NODES
returns-then-n-lt-MOST_NODES c =
    let a = c.args in
    λ l. rw (← c.number.ensures) (put_node a.space.now a.n c.number.result a.left a.right (omega arith))
