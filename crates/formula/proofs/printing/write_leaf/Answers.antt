-- `write_leaf` meets its contract: true, or p and the number.
use Rattle.lists.proofs.Placed.{put_then}
use Rattle.formula.proofs.Sorts.{other_leaf}
use Rattle.formula.proofs.printing.write_leaf.Goals as goal

pub returns : goal.returns
returns c = rw (other_leaf _ c.requires.none c.in_default.not-True) (put_then c.put-number.ensures c.put_decimal.ensures)
