-- What a line is answered with, for every line.
use Rattle.std.specs.Prelude.{◌≡◌, ℕ, List, ℤ, Result, Err}
use Rattle.std.specs.Int.Signed.{le_z}
use Rattle.std.specs.Float.Ieee.{le}
use Rattle.values.specs.declared.refusal.Refusal.{Refusal}
use Rattle.values.specs.declared.refusal.Refusal.TheVariants as refusal
use Rattle.values.specs.declared.verdict.Verdict.{Verdict}
use Rattle.readings.specs.declared.gate.Gate.{Gate}
use Rattle.readings.specs.Delays.{Delay}
use Rattle.readings.specs.Answers.{labelled}
use Rattle.labelling.specs.Lines.{Said, volts, ticks, nothing, said}

-- the label of the delay between two counters
pub record DelayLabelled (gate : Gate ℤ) (later earlier : ℕ) (r : Result Verdict Refusal) : Type 0 where
  pub delay : ℤ
  pub between : Delay later earlier delay
  pub label : r ≡ labelled le_z gate delay delay

-- the label of what a line says; a line that says nothing breaks the form
abbrev pub Labels : Said → Result Verdict Refusal → Type 0
Labels (volts gate least greatest) r = r ≡ labelled le gate least greatest
Labels (ticks gate later earlier) r = DelayLabelled gate later earlier r
Labels nothing r = r ≡ Err refusal.TextForm

-- `label_line`
abbrev pub LineLabelled : List ℕ → Result Verdict Refusal → Type 0
LineLabelled line r = Labels (said line) r
