-- Labels made from measurements: what the labels say of every possible value, the delay, and lines from their bytes.
use mathlib.Core.Path.{◌≡◌, refl, sym, ap, ◌∙◌}
use Prim.Native.Nat.{ℕ, zero, suc, ◌≤◌}
use mathlib.Core.Bool.{Bool, true, false, cond}
use native.Mathlib.Omega.{arith}
use lib.IntN.{pos, negsuc}
use lib.Signed.{le_z}
use lib.Ieee.{Float, le}
use Rattle.values.specs.Answers.{verdict}
use Rattle.values.specs.declared.verdict.Verdict.{Verdict}
use Rattle.values.specs.declared.refusal.Refusal.{Refusal}
use Rattle.values.specs.declared.refusal.Refusal.TheVariants as refusal
use Rattle.std.specs.Prelude.{Err}
use Rattle.readings.specs.declared.voltages.Reading.{Reading}
use Rattle.readings.specs.declared.gate.Gate.{Gate}
use Rattle.readings.specs.Gates.{sound, measured}
use Rattle.readings.specs.Delays.{mod_turn}
use Rattle.readings.specs.Answers.{labelled, voltage_label, delay_label}
use Rattle.readings.proofs.FloatOrder.{above_nan, not_itself}
use Rattle.readings.proofs.Orders.{voltages_ordered, whole_itself}
use Rattle.readings.proofs.Gates.{crossed, single, measured_small}
use Rattle.readings.proofs.Meaning.{true_all, false_none, all_true, none_false, single_known, narrower_true, narrower_false}
use Rattle.readings.proofs.Turns.{turn_more, delay_there_lem, delay_one}
use Rattle.promises.specs.Labels.{label_of, TrueIsInside, FalseIsOutside, SoundIsLabelled, BrokenIsUnknown, GateRefused, NanAlone, NarrowerKeeps, EqualEndsKnown, DelayKnown, DelayThere, OneDelay, TurnsCount, WorkedDelays}

-- a label is its number
one_label : (m n : ℕ) → label_of m ≡ label_of n → m ≡ n
one_label m n e = let v : verdict m ≡ verdict n = cc in ap (λ (x : Verdict). x.0) v

no_refusal : (m : ℕ) (n : Refusal) → label_of m ≡ Err n → ⊥
no_refusal m n e = let z : ◌≡◌ {A = ℕ} 0 1 = cc in omega arith

-- behind a sound gate the label is the measurement's
sound_label : (r : Reading) (g : Gate Float) → sound le g ≡ true → voltage_label r g ≡ label_of (measured le g r.least r.greatest)
unfolding voltage_label labelled
sound_label r g s = rw s

-- a label that was given behind a gate, sound as it must have been
label_number : (r : Reading) (g : Gate Float) (n : ℕ) → voltage_label r g ≡ label_of n → (sound le g ≡ true) × (measured le g r.least r.greatest ≡ n)
unfolding voltage_label labelled
label_number r g n e = by_gate (sound le g) refl e
  where
    by_gate : (t : Bool) → sound le g ≡ t → cond t (label_of (measured le g r.least r.greatest)) (Err refusal.Gate) ≡ label_of n
        → (sound le g ≡ true) × (measured le g r.least r.greatest ≡ n)
    by_gate true q e = (q, one_label _ n e)
    by_gate false q e = absurd (no_refusal n refusal.Gate (sym e))

pub true_is_inside : TrueIsInside
true_is_inside r g s w = (
  λ e v p. true_all le voltages_ordered g r.least r.greatest (label_number r g 2 e).1 v p,
  λ f. sound_label r g s ∙ ap label_of (all_true le voltages_ordered g r.least r.greatest w f),
)

pub false_is_outside : FalseIsOutside
false_is_outside r g s w = (
  λ e v p. false_none le voltages_ordered g r.least r.greatest (label_number r g 0 e).1 v p,
  λ f. sound_label r g s ∙ ap label_of (none_false le voltages_ordered g r.least r.greatest s w f),
)

pub sound_is_labelled : SoundIsLabelled
sound_is_labelled r g s =
    record { value = measured le g r.least r.greatest; is = sound_label r g s; range = measured_small le g r.least r.greatest }

pub broken_is_unknown : BrokenIsUnknown
broken_is_unknown r g s e = sound_label r g s ∙ ap label_of (crossed le g r.least r.greatest e)

pub gate_refused : GateRefused
unfolding voltage_label labelled
gate_refused r g = (λ s. rw s refl, λ n e. by_gate n (sound le g) refl e)
  where
    by_gate : (n : Refusal) (t : Bool) → sound le g ≡ t → cond t (label_of (measured le g r.least r.greatest)) (Err refusal.Gate) ≡ Err n
        → (n ≡ refusal.Gate) × (sound le g ≡ false)
    by_gate n true q e = absurd (no_refusal _ n e)
    by_gate n false q e = (cc, q)

pub nan_alone : NanAlone
unfolding le
nan_alone = (not_itself, λ x. (above_nan x, refl))

pub narrower_keeps : NarrowerKeeps
narrower_keeps r narrower g p n other e =
    let m = label_number r g n e in
    sound_label narrower g m.0 ∙ ap label_of (by_number n other (omega (arith, m.1, measured_small le g r.least r.greatest)) m.1)
  where
    by_number : (n : ℕ) → (n ≡ 1 → ⊥) → n ≤ 2 → measured le g r.least r.greatest ≡ n → measured le g narrower.least narrower.greatest ≡ n
    by_number zero other h e = narrower_false le voltages_ordered g _ _ _ _ p.least p.whole p.greatest e
    by_number (suc zero) other h e = absurd (other refl)
    by_number (suc (suc zero)) other h e = narrower_true le voltages_ordered g _ _ _ _ p.least p.whole p.greatest e
    by_number (suc (suc (suc k))) other h e = absurd (omega arith)

pub equal_ends_known : EqualEndsKnown
equal_ends_known r g w back e = single_known le voltages_ordered g r.least r.greatest w back (label_number r g 1 e).1

pub delay_known : DelayKnown
unfolding delay_label labelled
delay_known d g = rw (single le_z d (whole_itself d) g) refl

pub delay_there : DelayThere
delay_there = delay_there_lem

pub one_delay : OneDelay
one_delay = delay_one

pub turns_count : TurnsCount
unfolding mod_turn
turns_count = (turn_more, λ n h. omega arith)

pub worked_delays : WorkedDelays
unfolding mod_turn
worked_delays = (
  λ d p. delay_one 3 5 d (negsuc 1) p (record { congruent = refl; not_less = refl; not_more = refl }),
  λ d p. delay_one 2 4294967295 d (pos 3) p (record { congruent = refl; not_less = refl; not_more = refl }),
)
