-- `infinity` meets its contract: one over zero, computed.
use mathlib.Core.Path.{ap, sym}
use lib.Ieee.{inf, div, neg, of_bits}
use Rattle.numerals.proofs.doubles.infinity.Goals as goal

pub returns-then-negative : goal.returns-then-negative
unfolding div neg of_bits
returns-then-negative c = ap inf (sym c.if-negative.true)

pub returns : goal.returns
unfolding div of_bits
returns c = ap inf (sym c.if-negative.false)
