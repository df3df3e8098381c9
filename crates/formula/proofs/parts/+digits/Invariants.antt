-- The cycle of calls of `digits`: the number falls.
use Rattle.formula.proofs.parts.+digits.Given as goal

abbrev pub decreases-digits : goal.decreases-digits
decreases-digits l = l.number
