-- The comparisons of the code, `<=` of voltages and of delays, are those of the definitions.
use mathlib.Core.Path.{◌≡◌, refl, sym, ap, fun_ext}
use mathlib.Core.Bool.{Bool, true, false, cond, ◌||◌}
use Prim.Native.Nat.{ℕ}
use native.Mathlib.Omega.{arith}
use lib.Dec.{ltb, leb}
use borrow.Author.Tests.{ltb-true, ltb-false, le-leb, lt-leb}
use lib.IntN.{ℤ, pos, negsuc}
use lib.Signed.{le_z}
use lib.Ieee.{Float, le, lt, eq}
use Rattle.std.specs.Prelude.{Some, None}
use Rattle.std.specs.Ordering.{partial_le, float_partial_cmp, int_cmp, is_le, is_some_and}
use Rattle.std.proofs.Common.{Less, Equal, Greater}
use Rattle.readings.specs.declared.gate.Gate.{Gate}
use Rattle.readings.specs.Answers.{labelled}

-- comparisons that agree give the same label
pub label_by : {A : Type 0} (f h : A → A → Bool) → ((x y : A) → f x y ≡ h x y) → (gate : Gate A) (least greatest : A) → labelled f gate least greatest ≡ labelled h gate least greatest
label_by {A} f h e gate least greatest =
    ap (λ (k : A → A → Bool). labelled k gate least greatest) (fun_ext (λ (x : A). fun_ext (λ (y : A). e x y)))

pub voltages_compared : (x y : Float) → partial_le float_partial_cmp x y ≡ le x y
unfolding le
voltages_compared x y = by_tests (lt x y) (eq x y) (lt y x)
  where
    by_tests : (p q r : Bool) → is_some_and is_le (cond p (Some Less) (cond q (Some Equal) (cond r (Some Greater) None))) ≡ (p || q)
    by_tests true q r = refl
    by_tests false true r = refl
    by_tests false false true = refl
    by_tests false false false = refl

-- of two sizes
sizes_compared : (a b : ℕ) → is_le (cond (ltb a b) Less (cond (ltb b a) Greater Equal)) ≡ leb a b
sizes_compared a b = by_less (ltb a b) refl
  where
    by_more : (u : Bool) → ltb b a ≡ u → ltb a b ≡ false → is_le (cond u Greater Equal) ≡ leb a b
    by_more true r q = sym (lt-leb a b (ltb-true b a r))
    by_more false r q = sym (le-leb a b (ltb-false b a r))

    by_less : (t : Bool) → ltb a b ≡ t → is_le (cond t Less (cond (ltb b a) Greater Equal)) ≡ leb a b
    by_less true q = sym (le-leb a b (omega (arith, ltb-true a b q)))
    by_less false q = by_more (ltb b a) refl q

pub delays_compared : (x y : ℤ) → partial_le (λ (x y : ℤ). Some (int_cmp x y)) x y ≡ le_z x y
delays_compared (pos a) (pos b) = sizes_compared a b
delays_compared (pos a) (negsuc b) = refl
delays_compared (negsuc a) (pos b) = refl
delays_compared (negsuc a) (negsuc b) = sizes_compared b a
