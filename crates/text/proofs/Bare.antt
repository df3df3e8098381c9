-- Symbols read without their values, one step at a time.
use Prim.Native.Nat.{ℕ, ◌+◌, ◌-◌, ◌<◌}
use mathlib.Core.Path.{◌≡◌, refl, ap, ◌∙◌}
use mathlib.Core.List.{List, ◌∷◌}
use lib.ListN.{length, drop}
use Rattle.lists.specs.Entries.{at}
use Rattle.form.specs.Readers.{Reading, valued, place_of, symbols}
use Rattle.form.specs.Readers.Reading.{found, ends, refused}
use Rattle.text.specs.Inside.{bare}
use Rattle.form.proofs.Steps.{symbols_ends, symbols_broken, symbols_on, symbols_done}

-- a reading made of another is as bare
bare_valued : {A B : Type 0} (f : A → B) (o : Reading A) → bare (valued f o) ≡ bare o
bare_valued f (found a s) = refl
bare_valued f ends = refl
bare_valued f (refused n) = refl

pub symbols_past : (signs : List ℕ) (n j : ℕ) (s : List ℕ) (i : ℕ) → j < n → i < length s → place_of signs (at s i) < length signs
    → bare (symbols signs (n - j) (drop i s)) ≡ bare (symbols signs (n - (j + 1)) (drop (i + 1) s))
symbols_past signs n j s i b h g =
    let v = place_of signs (at s i) in
    ap bare (symbols_on signs n j s i v b h refl g) ∙ bare_valued (λ (vs : List ℕ). v ∷ vs) (symbols signs (n - (j + 1)) (drop (i + 1) s))

pub ruleset symbols_steps = (symbols_past, symbols_ends, symbols_broken, symbols_done)
