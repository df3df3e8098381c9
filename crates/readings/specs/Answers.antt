-- What the calls of this crate answer, for every input.
use Rattle.std.specs.Prelude.{Bool, cond, ℤ, Float, Result, Ok, Err}
use Rattle.std.specs.Int.Signed.{le_z}
use Rattle.std.specs.Float.Ieee.{le}
use Rattle.values.specs.Answers.{verdict}
use Rattle.values.specs.declared.refusal.Refusal.{Refusal}
use Rattle.values.specs.declared.refusal.Refusal.TheVariants as refusal
use Rattle.values.specs.declared.verdict.Verdict.{Verdict}
use Rattle.readings.specs.declared.voltages.Reading.{Reading}
use Rattle.readings.specs.declared.gate.Gate.{Gate}
use Rattle.readings.specs.Gates.{sound, measured}

-- a gate with a NaN or crossed limits is refused, whatever was measured
unfoldable pub labelled : {A : Type 0} → (A → A → Bool) → Gate A → A → A → Result Verdict Refusal
labelled le gate least greatest = cond (sound le gate) (Ok (verdict (measured le gate least greatest))) (Err refusal.Gate)

-- `label`: by IEEE 754's order
unfoldable pub voltage_label : Reading → Gate Float → Result Verdict Refusal
voltage_label reading gate = labelled le gate reading.least reading.greatest

-- `label_delay`: by that of whole numbers, the delay being its own least and greatest value
unfoldable pub delay_label : ℤ → Gate ℤ → Result Verdict Refusal
delay_label d gate = labelled le_z gate d d
