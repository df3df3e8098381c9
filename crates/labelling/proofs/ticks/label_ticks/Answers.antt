-- `label_ticks` meets its contract: both parts are read, and the delay between the counters is labelled.
use mathlib.Core.Path.{ap, sym, ◌∙◌}
use lib.IntN.{ℤ}
use Rattle.std.specs.Result.{result_ok}
use Rattle.readings.specs.Answers.{delay_label}
use Rattle.readings.proofs.Bits.{seen}
use Rattle.readings.proofs.Turns.{delay_small}
use Rattle.labelling.proofs.Saying.{ticks_both}
use Rattle.labelling.proofs.ticks.label_ticks.Goals as goal

pub returns : goal.returns
unfolding delay_label
returns c =
    let g = c.in_ok-gate.gate in
    let later = c.in_ok-later.later in
    let earlier = c.in_ok-later.earlier in
    let d = c.delay.result in
    let limits = sym c.read_gate.ensures ∙ c.ok_or.ensures.ok_part ∙ ap result_ok c.in_ok-gate.was in
    let counters = sym c.read_pair.ensures ∙ c.ok_or-2.ensures.ok_part ∙ ap result_ok c.in_ok-later.was in
    ticks_both _ _ g later earlier limits counters _
    (record { delay = d; between = c.delay.ensures; label = c.label_delay.ensures ∙ ap (λ (z : ℤ). delay_label z g) (seen d (delay_small later earlier d c.delay.ensures)) })
