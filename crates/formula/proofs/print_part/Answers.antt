-- `print_part` meets its contract: the node is the whole of an accepted formula, or of none.
use native.Mathlib.Omega.{arith}
use Rattle.formula.proofs.Accepting.{refused_tight, refused_none, part_printed}
use Rattle.formula.proofs.print_part.Goals as goal

pub returns-then-text-lt-MOST_FORMULA : goal.returns-then-text-lt-MOST_FORMULA
returns-then-text-lt-MOST_FORMULA c = refused_tight (omega (arith, c.if-text-lt-MOST_FORMULA.true))

pub returns-in_default : goal.returns-in_default
returns-in_default c = refused_none (omega (arith, c.if-text-lt-MOST_FORMULA.false)) c.in_default.ensures

pub returns : goal.returns
returns c = part_printed c.in-Some.ensures (omega (arith, c.if-text-lt-MOST_FORMULA.false)) c.write.ensures
