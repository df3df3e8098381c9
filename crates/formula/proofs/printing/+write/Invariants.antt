-- The cycle of calls of `write`: the node's number falls.
use Rattle.formula.proofs.printing.+write.Given as goal

abbrev pub decreases-write : goal.decreases-write
decreases-write l = l.i
