-- Lines of the label desk from their bytes, computed: what each says, a double's rounding included, and its answer.
use mathlib.Core.Path.{refl, ap, ◌∙◌}
use lib.IntN.{ℤ, negsuc}
use lib.Signed.{le_z}
use lib.Ieee.{le, round}
use Rattle.numerals.specs.Texts.{has, before, behind, begins_with, same}
use Rattle.numerals.specs.Wholes.{digit_of, digits_from, plain, whole, signed}
use Rattle.numerals.specs.Decimals.{pointed, mantissa, exponent}
use Rattle.numerals.specs.Doubles.{nearest, scaled, decimal, magnitude, double}
use Rattle.readings.specs.declared.gate.Gate.TheVariants.{AtLeast, AtMost}
use Rattle.readings.specs.Gates.{sound, not_below, not_above, inside, wholly_inside, wholly_outside, three_way, measured}
use Rattle.readings.specs.Delays.{mod_turn}
use Rattle.readings.specs.Answers.{labelled}
use Rattle.readings.proofs.Turns.{delay_one}
use Rattle.labelling.specs.Lines.{pair, gate, in_range, limit, turned, counter, said_both, said}
use Rattle.labelling.proofs.Saying.{labels_one}
use Rattle.promises.specs.Labels.{LineNights, OneLineLabelled}

pub one_line_labelled : OneLineLabelled
unfolding said
one_line_labelled line r r' p q = labels_one (said line) r r' p q

pub line_nights : LineNights
unfolding said said_both pair gate limit in_range counter turned double magnitude decimal scaled nearest round exponent mantissa pointed signed whole plain digits_from digit_of has before behind begins_with same labelled measured three_way wholly_inside wholly_outside inside not_below not_above sound le mod_turn
line_nights = (
  λ r p. p.label ∙ ap (λ (d : ℤ). labelled le_z (AtLeast (negsuc 1)) d d) (delay_one 3 5 p.delay (negsuc 1) p.between (record { congruent = refl; not_less = refl; not_more = refl })),
  (
    λ r p. p.label ∙ ap (λ (d : ℤ). labelled le_z (AtMost (negsuc 0)) d d) (delay_one 100 103 p.delay (negsuc 2) p.between (record { congruent = refl; not_less = refl; not_more = refl })),
    (
      λ r p. p,
      (
        λ r p. p,
        (
          λ r p. p,
          (
            λ r p. p,
            (λ r p. p, tt),
          ),
        ),
      ),
    ),
  ),
)
