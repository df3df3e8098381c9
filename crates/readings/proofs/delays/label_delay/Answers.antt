-- `label_delay` meets its contract: `<=` of delays is that of whole numbers.
use mathlib.Core.Path.{ap, ◌∙◌}
use lib.IntN.{ℤ}
use lib.Signed.{le_z}
use Rattle.std.specs.Prelude.{Some}
use Rattle.std.specs.Ordering.{partial_le, int_cmp}
use Rattle.readings.specs.Answers.{labelled, delay_label}
use Rattle.readings.proofs.Bits.{seen}
use Rattle.readings.proofs.Comparing.{label_by, delays_compared}
use Rattle.readings.proofs.delays.label_delay.Goals as goal

pub returns : goal.returns
unfolding delay_label
returns c =
    c.label.ensures
    ∙ label_by (partial_le (λ (x y : ℤ). Some (int_cmp x y))) le_z delays_compared c.args.gate _ _
    ∙ ap (λ (d : ℤ). labelled le_z c.args.gate d d) (seen c.args.delay c.ranges.delay.sfits)
