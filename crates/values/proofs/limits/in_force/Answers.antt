-- The limits of the code are those of the definitions.
use mathlib.Core.Path.{refl}
use Rattle.values.specs.Answers.{limits_in_force}
use Rattle.values.specs.Rows.{most_verdicts, row_begin, row_size}
use Rattle.values.proofs.limits.in_force.Goals as goal

pub returns : goal.returns
unfolding limits_in_force most_verdicts row_begin row_size
returns c = refl
