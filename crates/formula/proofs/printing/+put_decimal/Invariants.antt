-- The cycle of calls of `put_decimal`: the number falls.
use Rattle.formula.proofs.printing.+put_decimal.Given as goal

abbrev pub decreases-put_decimal : goal.decreases-put_decimal
decreases-put_decimal l = l.number
