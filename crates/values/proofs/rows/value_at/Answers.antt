-- `value_at` meets its contract.
use mathlib.Core.Path.{refl}
use Rattle.values.specs.Rows.{value_at}
use Rattle.values.proofs.rows.value_at.Goals as goal

pub returns : goal.returns
unfolding value_at
returns c = refl
