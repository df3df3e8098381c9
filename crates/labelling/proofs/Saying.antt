-- What a line says of delays, from its two parts, and that a line has one answer.
use mathlib.Core.Path.{◌≡◌, sym, ap, ◌∙◌}
use lib.IntN.{ℤ}
use lib.Signed.{le_z}
use Rattle.std.specs.Prelude.{Option, Some, Result}
use Prim.Native.Nat.{ℕ}
use Rattle.readings.specs.declared.gate.Gate.{Gate}
use Rattle.values.specs.declared.refusal.Refusal.{Refusal}
use Rattle.values.specs.declared.verdict.Verdict.{Verdict}
use Rattle.readings.specs.Answers.{labelled}
use Rattle.readings.proofs.Turns.{delay_one}
use Rattle.labelling.specs.Lines.{Said, volts, ticks, nothing, ticks_said}
use Rattle.labelling.specs.Answers.{Labels, DelayLabelled}

-- the label of what two parts say
pub ticks_both : (o : Option (Gate ℤ)) (p : Option (ℕ × ℕ)) (g : Gate ℤ) (a b : ℕ) → o ≡ Some g → p ≡ Some (a, b) → (r : Result Verdict Refusal) → DelayLabelled g a b r → Labels (ticks_said o p) r
ticks_both o p g a b e h r l = rw (e, h) l

pub labels_one : (s : Said) (r r' : Result Verdict Refusal) → Labels s r → Labels s r' → r ≡ r'
labels_one (volts g a b) r r' p q = p ∙ sym q
labels_one (ticks g a b) r r' p q =
    p.label ∙ ap (λ (d : ℤ). labelled le_z g d d) (delay_one a b p.delay q.delay p.between q.between) ∙ sym q.label
labels_one nothing r r' p q = p ∙ sym q
