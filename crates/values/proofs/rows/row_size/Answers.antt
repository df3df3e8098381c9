-- `row_size` meets its contract.
use mathlib.Core.Path.{refl}
use Rattle.values.specs.Rows.{row_size}
use Rattle.values.proofs.rows.row_size.Goals as goal

pub returns : goal.returns
unfolding row_size
returns c = refl
