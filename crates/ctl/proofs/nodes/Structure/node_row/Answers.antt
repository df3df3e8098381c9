-- `node_row` meets its contract: each kind by its own function.
use Rattle.std.proofs.Common.{rules}
use Prim.Native.Nat.{ℕ, min, max}
use Rattle.values.specs.Values.{neg}
use Rattle.ctl.specs.Nodes.{node_value}
use Rattle.ctl.proofs.Made.{made_filled}
use Rattle.ctl.proofs.nodes.Structure.node_row.Goals as goal

pub returns-in-And : goal.returns-in-And
unfolding node_value
returns-in-And c = rw c.in-And.is (made_filled _ _ _ _ min _ _ (λ a b r h. search rules) c.map_row.ensures)

pub returns-in-Or : goal.returns-in-Or
unfolding node_value
returns-in-Or c = rw c.in-Or.is (made_filled _ _ _ _ max _ _ (λ a b r h. search rules) c.map_row-in-Or.ensures)

pub returns-in-Implies : goal.returns-in-Implies
unfolding node_value
returns-in-Implies c = rw c.in-Implies.is (made_filled _ _ _ _ (λ (x y : ℕ). max (neg x) y) _ _ (λ a b r h. search rules) c.map_row-in-Implies.ensures)
