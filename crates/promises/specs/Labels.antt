-- Labels made from measurements. The statements speak of what `label`, `label_delay`, `delay` and `label_line` promise.
use Rattle.std.specs.Prelude.{◌≡◌, ℕ, ◌≤◌, ◌<◌, List, [], ◌∷◌, true, false, cond, ℤ, pos, negsuc, ◌+ℤ◌, Float, Result, Ok, Err}
use Rattle.std.specs.Int.Signed.{le_z}
use Rattle.std.specs.Float.{nan}
use Rattle.std.specs.Float.Ieee.{le}
use Rattle.lists.specs.Entries.{All}
use Rattle.values.specs.Answers.{verdict}
use Rattle.values.specs.declared.refusal.Refusal.{Refusal}
use Rattle.values.specs.declared.refusal.Refusal.TheVariants as refusal
use Rattle.values.specs.declared.verdict.Verdict.{Verdict}
use Rattle.readings.specs.declared.voltages.Reading.{Reading}
use Rattle.readings.specs.declared.gate.Gate.{Gate}
use Rattle.readings.specs.Gates.{sound, inside}
use Rattle.readings.specs.Delays.{Delay, turn, mod_turn}
use Rattle.readings.specs.Answers.{voltage_label, delay_label}
use Rattle.labelling.specs.Answers.{LineLabelled}

-- what a gate makes of a measurement: a label, or a refusal
abbrev pub Labelled : Type 0
Labelled = Result Verdict Refusal

-- a label by its number
abbrev pub label_of : ℕ → Labelled
label_of n = Ok (verdict n)

-- a value that a reading leaves possible
abbrev pub Possible : Reading → Float → Type 0
Possible r v = (le r.least v ≡ true) × (le v r.greatest ≡ true)

-- neither a NaN nor crossed ends
abbrev pub Whole : Reading → Type 0
Whole r = le r.least r.greatest ≡ true

abbrev pub Sound : Gate Float → Type 0
Sound g = sound le g ≡ true

-- "True if the whole reading lies in the gate": exactly if every possible value lies in it, ends included.
abbrev pub TrueIsInside : Type 0
TrueIsInside = (r : Reading) (g : Gate Float) → Sound g → Whole r
    → (voltage_label r g ≡ label_of 2 → (v : Float) → Possible r v → inside le g v ≡ true)
    × (((v : Float) → Possible r v → inside le g v ≡ true) → voltage_label r g ≡ label_of 2)

-- "False if it lies wholly outside": exactly if no possible value lies in it.
abbrev pub FalseIsOutside : Type 0
FalseIsOutside = (r : Reading) (g : Gate Float) → Sound g → Whole r
    → (voltage_label r g ≡ label_of 0 → (v : Float) → Possible r v → inside le g v ≡ false)
    × (((v : Float) → Possible r v → inside le g v ≡ false) → voltage_label r g ≡ label_of 0)

-- "Otherwise unknown": a sound gate gives a label and no other number.
pub record LabelGiven (a : Labelled) : Type 0 where
  pub value : ℕ
  pub is : a ≡ label_of value
  pub range : value ≤ 2

abbrev pub SoundIsLabelled : Type 0
SoundIsLabelled = (r : Reading) (g : Gate Float) → Sound g → LabelGiven (voltage_label r g)

-- "A reading with a NaN or with its ends crossed is unknown."
abbrev pub BrokenIsUnknown : Type 0
BrokenIsUnknown = (r : Reading) (g : Gate Float) → Sound g → le r.least r.greatest ≡ false → voltage_label r g ≡ label_of 1

-- "A gate with a NaN or crossed limits is refused as such, with 21, whatever the reading", and only then.
abbrev pub GateRefused : Type 0
GateRefused = (r : Reading) (g : Gate Float)
    → (sound le g ≡ false → voltage_label r g ≡ Err refusal.Gate)
    × ((e : Refusal) → voltage_label r g ≡ Err e → (e ≡ refusal.Gate) × (sound le g ≡ false))

-- That a value isn't at most itself says that it is a NaN, and nothing is at most a NaN, nor a NaN at most anything.
abbrev pub NanAlone : Type 0
NanAlone = ((x : Float) → le x x ≡ false → x ≡ nan) × ((x : Float) → (le x nan ≡ false) × (le nan x ≡ false))

-- A narrower measurement never contradicts: a label true or false stays so for every reading whose ends lie within the first one's.
pub record Narrower (r narrower : Reading) : Type 0 where
  pub least : le r.least narrower.least ≡ true
  pub whole : Whole narrower
  pub greatest : le narrower.greatest r.greatest ≡ true

abbrev pub NarrowerKeeps : Type 0
NarrowerKeeps = (r narrower : Reading) (g : Gate Float) → Narrower r narrower → (n : ℕ) → (n ≡ 1 → ⊥) → voltage_label r g ≡ label_of n → voltage_label narrower g ≡ label_of n

-- A reading with equal ends, 0 and −0 among them, is never unknown; a NaN is equal to nothing.
abbrev pub EqualEndsKnown : Type 0
EqualEndsKnown = (r : Reading) (g : Gate Float) → Whole r → le r.greatest r.least ≡ true → voltage_label r g ≡ label_of 1 → ⊥

-- The label of a delay is true or false: true exactly if it lies in the gate; crossed limits are refused.
abbrev pub DelayKnown : Type 0
DelayKnown = (d : ℤ) (g : Gate ℤ) → delay_label d g ≡ cond (sound le_z g) (label_of (cond (inside le_z g d) 2 0)) (Err refusal.Gate)

-- Two counters have a delay, and one only; a turn more or less changes nothing modulo a turn.
abbrev pub DelayThere : Type 0
DelayThere = (later earlier : ℕ) → later < turn → earlier < turn → (d : ℤ) × Delay later earlier d

abbrev pub OneDelay : Type 0
OneDelay = (later earlier : ℕ) (d d' : ℤ) → Delay later earlier d → Delay later earlier d' → d ≡ d'

abbrev pub TurnsCount : Type 0
TurnsCount = ((z : ℤ) → mod_turn (z +ℤ pos turn) ≡ mod_turn z) × ((n : ℕ) → n < turn → mod_turn (pos n) ≡ n)

-- "3 minus 5 is −2 and 2 minus 4,294,967,295 is 3"
abbrev pub WorkedDelays : Type 0
WorkedDelays = ((d : ℤ) → Delay 3 5 d → d ≡ negsuc 1) × ((d : ℤ) → Delay 2 4294967295 d → d ≡ pos 3)

-- Every line of the label desk has one answer.
abbrev pub OneLineLabelled : Type 0
OneLineLabelled = (line : List ℕ) (r r' : Labelled) → LineLabelled line r → LineLabelled line r' → r ≡ r'

-- a line as bytes, and its answer
pub record LineNight : Type 0 where
  pub line : List ℕ
  pub answer : Labelled

abbrev pub line_night : List ℕ → Labelled → LineNight
line_night line answer = record { line = line; answer = answer }

abbrev pub line_nights : List LineNight
line_nights =
    -- atleast=-2 ticks=3,5
    line_night (97 ∷ 116 ∷ 108 ∷ 101 ∷ 97 ∷ 115 ∷ 116 ∷ 61 ∷ 45 ∷ 50 ∷ 32 ∷ 116 ∷ 105 ∷ 99 ∷ 107 ∷ 115 ∷ 61 ∷ 51 ∷ 44 ∷ 53 ∷ []) (label_of 2)
    -- atmost=-1 ticks=100,103
    ∷ line_night (97 ∷ 116 ∷ 109 ∷ 111 ∷ 115 ∷ 116 ∷ 61 ∷ 45 ∷ 49 ∷ 32 ∷ 116 ∷ 105 ∷ 99 ∷ 107 ∷ 115 ∷ 61 ∷ 49 ∷ 48 ∷ 48 ∷ 44 ∷ 49 ∷ 48 ∷ 51 ∷ []) (label_of 2)
    -- between=4.75,5.25 volts=4.9,5.3
    ∷ line_night (98 ∷ 101 ∷ 116 ∷ 119 ∷ 101 ∷ 101 ∷ 110 ∷ 61 ∷ 52 ∷ 46 ∷ 55 ∷ 53 ∷ 44 ∷ 53 ∷ 46 ∷ 50 ∷ 53 ∷ 32 ∷ 118 ∷ 111 ∷ 108 ∷ 116 ∷ 115 ∷ 61 ∷ 52 ∷ 46 ∷ 57 ∷ 44 ∷ 53 ∷ 46 ∷ 51 ∷ []) (label_of 1)
    -- atleast=0.3 volts=3e-1,30e-2
    ∷ line_night (97 ∷ 116 ∷ 108 ∷ 101 ∷ 97 ∷ 115 ∷ 116 ∷ 61 ∷ 48 ∷ 46 ∷ 51 ∷ 32 ∷ 118 ∷ 111 ∷ 108 ∷ 116 ∷ 115 ∷ 61 ∷ 51 ∷ 101 ∷ 45 ∷ 49 ∷ 44 ∷ 51 ∷ 48 ∷ 101 ∷ 45 ∷ 50 ∷ []) (label_of 2)
    -- atmost=1e22 volts=-0,0.1
    ∷ line_night (97 ∷ 116 ∷ 109 ∷ 111 ∷ 115 ∷ 116 ∷ 61 ∷ 49 ∷ 101 ∷ 50 ∷ 50 ∷ 32 ∷ 118 ∷ 111 ∷ 108 ∷ 116 ∷ 115 ∷ 61 ∷ 45 ∷ 48 ∷ 44 ∷ 48 ∷ 46 ∷ 49 ∷ []) (label_of 2)
    -- between=2,1 volts=nan,inf
    ∷ line_night (98 ∷ 101 ∷ 116 ∷ 119 ∷ 101 ∷ 101 ∷ 110 ∷ 61 ∷ 50 ∷ 44 ∷ 49 ∷ 32 ∷ 118 ∷ 111 ∷ 108 ∷ 116 ∷ 115 ∷ 61 ∷ 110 ∷ 97 ∷ 110 ∷ 44 ∷ 105 ∷ 110 ∷ 102 ∷ []) (Err refusal.Gate)
    -- atleast=4.75  volts=4.9,5.1
    ∷ line_night (97 ∷ 116 ∷ 108 ∷ 101 ∷ 97 ∷ 115 ∷ 116 ∷ 61 ∷ 52 ∷ 46 ∷ 55 ∷ 53 ∷ 32 ∷ 32 ∷ 118 ∷ 111 ∷ 108 ∷ 116 ∷ 115 ∷ 61 ∷ 52 ∷ 46 ∷ 57 ∷ 44 ∷ 53 ∷ 46 ∷ 49 ∷ []) (Err refusal.TextForm)
    ∷ []

-- Lines from their bytes, a double's own rounding among them.
abbrev pub LineNights : Type 0
LineNights = All (λ (n : LineNight). (r : Labelled) → LineLabelled n.line r → r ≡ n.answer) line_nights
