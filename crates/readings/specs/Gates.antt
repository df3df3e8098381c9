-- A gate and a measurement over any comparison: IEEE 754's for voltages, that of whole numbers for delays.
use Rattle.std.specs.Prelude.{ℕ, Bool, true, not, cond, ◌&&◌, ◌||◌}
use Rattle.readings.specs.declared.gate.Gate.{Gate}
use Rattle.readings.specs.declared.gate.Gate.TheVariants.{AtLeast, AtMost, Between}

-- no limit is a NaN, which alone isn't ≤ itself, and they are not crossed
unfoldable pub sound : {A : Type 0} → (A → A → Bool) → Gate A → Bool
sound le (AtLeast x) = le x x
sound le (AtMost x) = le x x
sound le (Between a b) = le a b

-- a value isn't below the gate
unfoldable pub not_below : {A : Type 0} → (A → A → Bool) → Gate A → A → Bool
not_below le (AtLeast x) v = le x v
not_below le (AtMost x) v = true
not_below le (Between a b) v = le a v

-- a value isn't above the gate
unfoldable pub not_above : {A : Type 0} → (A → A → Bool) → Gate A → A → Bool
not_above le (AtLeast x) v = true
not_above le (AtMost x) v = le v x
not_above le (Between a b) v = le v b

-- a value lies in the gate, ends included
unfoldable pub inside : {A : Type 0} → (A → A → Bool) → Gate A → A → Bool
unfolding not_below not_above
inside le gate v = not_below le gate v && not_above le gate v

-- a whole measurement, from its least to its greatest value, lies in the gate
unfoldable pub wholly_inside : {A : Type 0} → (A → A → Bool) → Gate A → A → A → Bool
unfolding inside
wholly_inside le gate least greatest = inside le gate least && inside le gate greatest

-- it lies wholly outside: all of it below the gate, or all of it above
unfoldable pub wholly_outside : {A : Type 0} → (A → A → Bool) → Gate A → A → A → Bool
unfolding not_below not_above
wholly_outside le gate least greatest = not (not_below le gate greatest) || not (not_above le gate least)

-- true if it lies wholly in the gate, false if wholly outside, otherwise unknown
unfoldable pub three_way : {A : Type 0} → (A → A → Bool) → Gate A → A → A → ℕ
unfolding wholly_inside wholly_outside
three_way le gate least greatest = cond (wholly_inside le gate least greatest) 2 (cond (wholly_outside le gate least greatest) 0 1)

-- a measurement with a NaN or with its ends crossed is unknown
unfoldable pub measured : {A : Type 0} → (A → A → Bool) → Gate A → A → A → ℕ
unfolding three_way
measured le gate least greatest = cond (le least greatest) (three_way le gate least greatest) 1
