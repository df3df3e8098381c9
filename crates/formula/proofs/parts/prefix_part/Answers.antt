-- `prefix_part` meets its contract.
use Rattle.formula.proofs.PartLaws.{prefix_right, prefix_left, prefix_of}
use Rattle.formula.proofs.parts.prefix_part.Goals as goal

pub returns-then-node-ne0 : goal.returns-then-node-ne0
returns-then-node-ne0 c = prefix_right _ _ _ _ c.requires c.if-node-ne0.true

pub returns-then-node-i : goal.returns-then-node-i
returns-then-node-i c = prefix_left _ _ _ _ c.requires c.if-node-i.true

pub returns : goal.returns
returns c = prefix_of _ _ _ _ c.requires c.if-node-ne0.false c.if-node-i.false c.signs_size.ensures
