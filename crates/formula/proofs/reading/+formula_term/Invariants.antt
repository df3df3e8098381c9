-- The cycle of the two readers: each call is on less text, and a term is measured below the formula that it is all of.
use Prim.Native.Nat.{◌+◌, ◌*◌}
use lib.ListN.{length}
use Rattle.formula.proofs.reading.+formula_term.Given as goal

abbrev pub decreases-formula : goal.decreases-formula
decreases-formula l = 2 * length l.place.now.rest.now + 1

abbrev pub decreases-term : goal.decreases-term
decreases-term l = 2 * length l.place.now.rest.now
