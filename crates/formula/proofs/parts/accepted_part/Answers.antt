-- `accepted_part` meets its contract: the lengths are asked, and what ends at the node.
use Rattle.formula.proofs.Accepting.{found_none, found_long}
use Rattle.formula.proofs.parts.accepted_part.Goals as goal

pub returns-in_err-part : goal.returns-in_err-part
returns-in_err-part c = rw c.from_residual.ensures (found_none c.in_err-part.ensures)

pub returns-then-part-gt-MOST_FORMULA : goal.returns-then-part-gt-MOST_FORMULA
returns-then-part-gt-MOST_FORMULA c = found_long c.in_ok-part.ensures c.if-part-gt-MOST_FORMULA.true
