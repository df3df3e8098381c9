-- The cycle of calls of `part_at`: the node's number falls.
use Rattle.formula.proofs.parts.+part_at.Given as goal

abbrev pub decreases-part_at : goal.decreases-part_at
decreases-part_at l = l.i
