-- What the label of a measurement comes to, over any comparison that is an order: by the tests of its ends, limit by limit.
use mathlib.Core.Path.{◌≡◌, refl, sym}
use Prim.Native.Nat.{ℕ, min, ◌≤◌}
use native.Mathlib.Omega.{arith}
use mathlib.Core.Bool.{Bool, true, false, not, cond, ◌&&◌, ◌||◌, true≢false}
use Rattle.readings.specs.declared.gate.Gate.{Gate}
use Rattle.readings.specs.declared.gate.Gate.TheVariants.{AtLeast, AtMost, Between}
use Rattle.readings.specs.Gates.{not_below, not_above, inside, wholly_inside, wholly_outside, three_way, measured}
use Rattle.readings.proofs.Orders.{Order}

pub crossed : {A : Type 0} (le : A → A → Bool) (gate : Gate A) (l g : A) → le l g ≡ false → measured le gate l g ≡ 1
unfolding measured
crossed le gate l g e = rw e

-- of four tests, the ends against two limits, where the first implies the second and the last the third
two_sided : (p q r s : Bool) → (p ≡ true → q ≡ true) → (s ≡ true → r ≡ true)
    → cond ((p && r) && (q && s)) 2 (cond (not q || not r) 0 1)
    ≡ min (cond ((p && true) && (q && true)) 2 (cond (not q || not true) 0 1)) (cond ((true && r) && (true && s)) 2 (cond (not true || not r) 0 1))
two_sided true false r s h k = absurd (true≢false (sym (h refl)))
two_sided true true true true h k = refl
two_sided true true true false h k = refl
two_sided true true false true h k = absurd (true≢false (sym (k refl)))
two_sided true true false false h k = refl
two_sided false true true true h k = refl
two_sided false true true false h k = refl
two_sided false true false true h k = absurd (true≢false (sym (k refl)))
two_sided false true false false h k = refl
two_sided false false true true h k = refl
two_sided false false true false h k = refl
two_sided false false false true h k = absurd (true≢false (sym (k refl)))
two_sided false false false false h k = refl

-- between a and b is at least a and at most b
pub both_limits : {A : Type 0} (le : A → A → Bool) → Order le → (a b l g : A) → measured le (Between a b) l g ≡ min (measured le (AtLeast a) l g) (measured le (AtMost b) l g)
unfolding measured three_way wholly_inside wholly_outside inside not_below not_above
both_limits le o a b l g = by_order (le l g) refl
  where
    by_order : (w : Bool) → le l g ≡ w → measured le (Between a b) l g ≡ min (measured le (AtLeast a) l g) (measured le (AtMost b) l g)
    by_order true e = rw e (two_sided (le a l) (le a g) (le l b) (le g b) (λ h. o.through a l g h e) (λ h. o.through l g b e h))
    by_order false e = rw e

-- a measurement of one value: it lies in the gate or outside
module _ {A : Type 0} (le : A → A → Bool) (v : A) (itself : le v v ≡ true) where
  pub single : (gate : Gate A) → measured le gate v v ≡ cond (inside le gate v) 2 0
  unfolding measured three_way wholly_inside wholly_outside inside
  single gate = rw itself (by_tests (not_below le gate v) (not_above le gate v))
    where
      by_tests : (p q : Bool) → ◌≡◌ {A = ℕ} (cond ((p && q) && (p && q)) 2 (cond (not p || not q) 0 1)) (cond (p && q) 2 0)
      by_tests true true = refl
      by_tests true false = refl
      by_tests false q = refl

-- a label is at most true
pub measured_small : {A : Type 0} (le : A → A → Bool) (gate : Gate A) (l g : A) → measured le gate l g ≤ 2
unfolding measured three_way
measured_small le gate l g = by_tests (le l g) (wholly_inside le gate l g) (wholly_outside le gate l g)
  where
    by_tests : (w i u : Bool) → cond w (cond i 2 (cond u 0 1)) 1 ≤ 2
    by_tests true true u = omega arith
    by_tests true false true = omega arith
    by_tests true false false = omega arith
    by_tests false i u = omega arith
