-- What a line of the label desk says: a gate, one blank, a measurement.
use Rattle.std.specs.Prelude.{ℕ, List, cond, ◌&&◌, length, drop, ltb, ℤ, pos, neg_ℤ, Float, Option, None, Some, option_map, option_and_then}
use Rattle.std.specs.Int.Signed.{le_z}
use Rattle.values.specs.Signs.{comma}
use Rattle.numerals.specs.Texts.{has, before, behind, begins_with}
use Rattle.numerals.specs.Wholes.{whole, signed}
use Rattle.numerals.specs.declared.wholes.Signed.{Signed}
use Rattle.numerals.specs.Doubles.{double}
use Rattle.readings.specs.declared.gate.Gate.{Gate}
use Rattle.readings.specs.declared.gate.Gate.TheVariants.{AtLeast, AtMost, Between}
use Rattle.readings.specs.Delays.{turn, least_delay, greatest_delay}
use Rattle.labelling.specs.Keys.{key_at_least, key_at_most, key_between, key_volts, key_ticks, blank, most_line}

-- what a line says
pub data Said : Type 0 where
  volts : Gate Float → Float → Float → Said
  ticks : Gate ℤ → ℕ → ℕ → Said
  nothing : Said

-- two numbers with a comma between them, by the reader of one
unfoldable pub pair : {A : Type 0} → (List ℕ → Option A) → List ℕ → Option (A × A)
pair {A} number xs =
    cond (has comma xs) (option_and_then (λ (a : A). option_map (λ (b : A). (a, b)) (number (behind comma xs))) (number (before comma xs))) None

-- a gate, by the reader of a limit
unfoldable pub gate : {A : Type 0} → (List ℕ → Option A) → List ℕ → Option (Gate A)
gate {A} number xs =
    cond (begins_with key_at_least xs) (option_map AtLeast (number (drop (length key_at_least) xs)))
    (cond (begins_with key_at_most xs) (option_map AtMost (number (drop (length key_at_most) xs)))
    (cond (begins_with key_between xs) (option_map (λ (p : A × A). Between p.0 p.1) (pair number (drop (length key_between) xs))) None))

-- a whole number with its sign
abbrev pub value_of : Signed → ℤ
value_of n = cond n.negative (neg_ℤ (pos n.size)) (pos n.size)

-- a number that a delay can be
unfoldable pub in_range : ℤ → Option ℤ
in_range z = cond (le_z least_delay z && le_z z greatest_delay) (Some z) None

-- a limit of a delay
unfoldable pub limit : List ℕ → Option ℤ
limit xs = option_and_then (λ (n : Signed). in_range (value_of n)) (signed xs)

-- a number that a counter can be
unfoldable pub turned : ℕ → Option ℕ
turned n = cond (ltb n turn) (Some n) None

unfoldable pub counter : List ℕ → Option ℕ
counter xs = option_and_then turned (whole xs)

abbrev pub volts_said : Option (Gate Float) → Option (Float × Float) → Said
volts_said None p = nothing
volts_said (Some g) None = nothing
volts_said (Some g) (Some p) = volts g p.0 p.1

abbrev pub ticks_said : Option (Gate ℤ) → Option (ℕ × ℕ) → Said
ticks_said None p = nothing
ticks_said (Some g) None = nothing
ticks_said (Some g) (Some p) = ticks g p.0 p.1

-- a gate and a measurement: the measurement says of what kind both are
unfoldable pub said_both : List ℕ → List ℕ → Said
said_both limits measured =
    cond (begins_with key_volts measured) (volts_said (gate double limits) (pair double (drop (length key_volts) measured)))
    (cond (begins_with key_ticks measured) (ticks_said (gate limit limits) (pair counter (drop (length key_ticks) measured))) nothing)

-- a line without its line feed
unfoldable pub said : List ℕ → Said
said line = cond (ltb most_line (length line)) nothing (cond (has blank line) (said_both (before blank line) (behind blank line)) nothing)
