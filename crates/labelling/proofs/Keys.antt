-- Whether a text begins with a key, as it is found when the key is taken off.
use mathlib.Core.Path.{◌≡◌, sym}
use Prim.Native.Nat.{ℕ}
use mathlib.Core.List.{List}
use lib.Dec.{eqb}
use lib.ListN.{take}
use lib.Pointwise.{pointwise}
use Rattle.numerals.specs.Texts.{begins_with}
use Rattle.numerals.proofs.Cuts.{begins_is}
use Rattle.labelling.specs.Keys.{key_at_least, key_at_most, key_between, key_volts, key_ticks}

module _ (xs : List ℕ) where
  pub at_least_is : begins_with key_at_least xs ≡ pointwise eqb (take 8 xs) key_at_least
  at_least_is = sym (begins_is key_at_least xs)

  pub at_most_is : begins_with key_at_most xs ≡ pointwise eqb (take 7 xs) key_at_most
  at_most_is = sym (begins_is key_at_most xs)

  pub between_is : begins_with key_between xs ≡ pointwise eqb (take 8 xs) key_between
  between_is = sym (begins_is key_between xs)

  pub volts_is : begins_with key_volts xs ≡ pointwise eqb (take 6 xs) key_volts
  volts_is = sym (begins_is key_volts xs)

  pub ticks_is : begins_with key_ticks xs ≡ pointwise eqb (take 6 xs) key_ticks
  ticks_is = sym (begins_is key_ticks xs)
