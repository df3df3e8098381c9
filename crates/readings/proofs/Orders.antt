-- What gates ask of a comparison, and that voltages and delays have it. Only a NaN isn't at most itself.
use mathlib.Core.Path.{◌≡◌, refl, sym}
use mathlib.Core.Bool.{Bool, true, true≢false}
use mathlib.Core.Logic.{◌⊎◌, inl, inr, ⊎_elim}
use Prim.Native.Nat.{◌≤◌, ◌<◌}
use native.Mathlib.Omega.{arith}
use lib.IntN.{ℤ, pos, negsuc}
use lib.Signed.{le_z}
use lib.Ieee.{le}
use borrow.Author.Tests.{leb-true, le-leb}
use Rattle.lists.proofs.Numbers.{lt_or_le}
use Rattle.readings.proofs.FloatOrder.{le_trans, le_total, le_first, le_second}

pub record Order {A : Type 0} (le : A → A → Bool) : Type 0 where
  pub through : (x y z : A) → le x y ≡ true → le y z ≡ true → le x z ≡ true
  pub either : (x y : A) → le x x ≡ true → le y y ≡ true → (le x y ≡ true) ⊎ (le y x ≡ true)
  pub first : (x y : A) → le x y ≡ true → le x x ≡ true
  pub second : (x y : A) → le x y ≡ true → le y y ≡ true

pub voltages_ordered : Order le
voltages_ordered = record { through = le_trans; either = le_total; first = le_first; second = le_second }

pub whole_itself : (x : ℤ) → le_z x x ≡ true
whole_itself (pos n) = le-leb n n (omega arith)
whole_itself (negsuc n) = le-leb n n (omega arith)

whole_through : (x y z : ℤ) → le_z x y ≡ true → le_z y z ≡ true → le_z x z ≡ true
whole_through (pos a) (pos b) (pos c) p q = le-leb a c (omega (arith, leb-true a b p, leb-true b c q))
whole_through (pos a) (pos b) (negsuc c) p q = q
whole_through (pos a) (negsuc b) z p q = absurd (true≢false (sym p))
whole_through (negsuc a) y (pos c) p q = refl
whole_through (negsuc a) (pos b) (negsuc c) p q = absurd (true≢false (sym q))
whole_through (negsuc a) (negsuc b) (negsuc c) p q = le-leb c a (omega (arith, leb-true b a p, leb-true c b q))

whole_either : (x y : ℤ) → (le_z x y ≡ true) ⊎ (le_z y x ≡ true)
whole_either (pos a) (pos b) = ⊎_elim (λ (l : a < b). inl (le-leb a b (omega arith))) (λ (l : b ≤ a). inr (le-leb b a l)) (lt_or_le a b)
whole_either (pos a) (negsuc b) = inr refl
whole_either (negsuc a) (pos b) = inl refl
whole_either (negsuc a) (negsuc b) = ⊎_elim (λ (l : a < b). inr (le-leb a b (omega arith))) (λ (l : b ≤ a). inl (le-leb b a l)) (lt_or_le a b)

pub delays_ordered : Order le_z
delays_ordered = record { through = whole_through; either = λ x y p q. whole_either x y; first = λ x y p. whole_itself x; second = λ x y p. whole_itself y }
