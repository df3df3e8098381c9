-- `read_double` meets its contract: NaN by its word, or what stands behind an optional -.
use mathlib.Core.Path.{◌≡◌, refl, sym, ap, ◌∙◌}
use Prim.Native.Nat.{ℕ}
use mathlib.Core.List.{List}
use mathlib.Core.Bool.{Bool}
use lib.Dec.{eqb}
use lib.Ieee.{div, of_bits}
use lib.Pointwise.{pointwise}
use Rattle.std.proofs.Common.{rules}
use Rattle.numerals.specs.Texts.{same}
use Rattle.numerals.specs.Wholes.{minus}
use Rattle.numerals.specs.Doubles.{nan_word, double}
use Rattle.numerals.proofs.Cuts.{same_is, begins_is}
use Rattle.numerals.proofs.doubles.read_double.Goals as goal

-- whether the text is the word that it was compared with
compared : (xs word : List ℕ) (t : Bool) → word ≡ nan_word → t ≡ pointwise eqb xs word → same nan_word xs ≡ t
compared xs word t e h = sym (same_is nan_word xs) ∙ ap (pointwise eqb xs) (sym e) ∙ sym h

pub returns-then-eq : goal.returns-then-eq
unfolding double div of_bits
returns-then-eq c = rw (compared c.args.text.now _ _ c.as_slice.ensures c.if-eq.ensures) refl

pub returns-in-Some : goal.returns-in-Some
unfolding double
returns-in-Some c =
    let s = sym (begins_is minus c.args.text.now) ∙ c.in-Some.ensures.cases.0 in
    rw (compared c.args.text.now _ _ c.as_slice.ensures c.if-eq.ensures, s) (search rules)

pub returns : goal.returns
unfolding double
returns c =
    let s = sym (begins_is minus c.args.text.now) ∙ c.in_default.ensures.cases in
    rw (compared c.args.text.now _ _ c.as_slice.ensures c.if-eq.ensures, s) (search rules)
