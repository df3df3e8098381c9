-- `label` meets its contract: `<=` of voltages is IEEE 754's.
use mathlib.Core.Path.{◌∙◌}
use lib.Ieee.{le}
use Rattle.std.specs.Ordering.{partial_le, float_partial_cmp}
use Rattle.readings.specs.Answers.{voltage_label}
use Rattle.readings.proofs.Comparing.{label_by, voltages_compared}
use Rattle.readings.proofs.voltages.label.Goals as goal

pub returns : goal.returns
unfolding voltage_label
returns c = c.label.ensures ∙ label_by (partial_le float_partial_cmp) le voltages_compared c.args.gate _ _
