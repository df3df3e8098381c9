-- `put_digit` meets its contract: the byte of a digit.
use Rattle.lists.proofs.Placed.{put_one}
use Rattle.values.proofs.Decimals.{digit_at}
use Rattle.formula.proofs.printing.put_digit.Goals as goal

pub returns : goal.returns
returns c = rw (digit_at _ c.requires.0) (put_one _ _ _ c.requires.1)
