-- The delay of two counters: their difference, a turn more or a turn less where it is out of range, and that no other number is a delay of them.
use mathlib.Core.Path.{◌≡◌, refl, sym, ap, ◌∙◌}
use mathlib.Core.Bool.{Bool, true, false, true≢false}
use mathlib.Core.Logic.{⊎_elim}
use Prim.Native.Nat.{ℕ, zero, suc, ◌-◌, ◌≤◌, ◌<◌}
use native.Mathlib.Omega.{arith}
use lib.IntN.{ℤ, pos, negsuc, ◌+ℤ◌, ◌-ℤ◌, -ℤ-+ℤ_cancel}
use lib.Signed.{mag, le_z, lt_z}
use borrow.Author.Tests.{lt-ltb, le-ltb, le-leb, leb-true, ltb-true, ltb-false}
use Rattle.lists.proofs.Numbers.{lt_or_le}
use Rattle.readings.specs.Delays.{turn, least_delay, greatest_delay, mod_turn, Delay}

-- −1 − k and n more, above zero and below
above : (k n : ℕ) → k < n → negsuc k +ℤ pos n ≡ pos (n - suc k)
above k n h = rw (le-ltb n (suc k) h)

under : (k n : ℕ) → n ≤ k → negsuc k +ℤ pos n ≡ negsuc (k - n)
under k n h = let t : n < suc k = omega arith in let u : suc k - suc n ≡ k - n = omega arith in rw (lt-ltb n (suc k) t) (ap negsuc u)

-- a turn more changes nothing modulo a turn
pub turn_more : (z : ℤ) → mod_turn (z +ℤ pos turn) ≡ mod_turn z
unfolding mod_turn
turn_more (pos n) = omega arith
turn_more (negsuc n) =
    ⊎_elim (λ (l : n < turn). ap mod_turn (above n turn l) ∙ omega arith) (λ (l : turn ≤ n). ap mod_turn (under n turn l) ∙ omega arith) (lt_or_le n turn)

pub turn_less : (z : ℤ) → mod_turn (z -ℤ pos turn) ≡ mod_turn z
turn_less z = sym (turn_more (z -ℤ pos turn)) ∙ ap mod_turn (-ℤ-+ℤ_cancel z (pos turn))

-- two counters apart: above zero, or below
apart_up : (l e : ℕ) → e ≤ l → pos l -ℤ pos e ≡ pos (l - e)
apart_up l zero h = ap pos (omega arith)
apart_up l (suc e) h = rw (le-ltb l (suc e) h)

apart_down : (l e : ℕ) → l < e → pos l -ℤ pos e ≡ negsuc (e - suc l)
apart_down l zero h = absurd (omega arith)
apart_down l (suc e) h = rw (lt-ltb l (suc e) h)

pub apart_small : (l e : ℕ) → l < turn → e < turn → mag (pos l -ℤ pos e) < turn
apart_small l e hl he =
    ⊎_elim (λ (h : l < e). rw (apart_down l e h) (omega arith)) (λ (h : e ≤ l). rw (apart_up l e h) (omega arith)) (lt_or_le l e)

-- a number of so small a size is in range
in_range : (d : ℤ) → mag d < 2147483648 → (le_z least_delay d ≡ true) × (le_z d greatest_delay ≡ true)
in_range (pos n) h = (refl, le-leb n 2147483647 (omega arith))
in_range (negsuc n) h = (le-leb n 2147483647 (omega arith), refl)

-- below the least delay a turn more is in range, above the greatest a turn less
pub grown_small : (z : ℤ) → mag z < turn → lt_z z least_delay ≡ true → mag (z +ℤ pos turn) < 2147483648
grown_small (pos n) h t = absurd (true≢false (sym t))
grown_small (negsuc n) h t = rw (above n turn h) (omega (arith, ltb-true 2147483647 n t))

pub shrunk_small : (z : ℤ) → mag z < turn → lt_z greatest_delay z ≡ true → mag (z -ℤ pos turn) < 2147483648
shrunk_small (pos n) h t = rw (apart_down n turn h) (omega (arith, ltb-true 2147483647 n t))
shrunk_small (negsuc n) h t = absurd (true≢false (sym t))

pub between_small : (z : ℤ) → lt_z z least_delay ≡ false → lt_z greatest_delay z ≡ false → mag z < 2147483648
between_small (pos n) t u = omega (arith, ltb-false 2147483647 n u)
between_small (negsuc n) t u = omega (arith, ltb-false 2147483647 n t)

pub delay_of : (l e : ℕ) (d : ℤ) → mag d < 2147483648 → mod_turn d ≡ mod_turn (pos l -ℤ pos e) → Delay l e d
delay_of l e d h c = record { congruent = c; not_less = (in_range d h).0; not_more = (in_range d h).1 }

-- within the range a number is known by what it is modulo a turn
range_one : (d d' : ℤ) → le_z least_delay d ≡ true → le_z d greatest_delay ≡ true → le_z least_delay d' ≡ true → le_z d' greatest_delay ≡ true → mod_turn d ≡ mod_turn d' → d ≡ d'
unfolding mod_turn
range_one (pos n) (pos m) a b a' b' c = ap pos (omega (arith, leb-true n 2147483647 b, leb-true m 2147483647 b'))
range_one (pos n) (negsuc m) a b a' b' c = absurd (omega (arith, leb-true n 2147483647 b, leb-true m 2147483647 a'))
range_one (negsuc n) (pos m) a b a' b' c = absurd (omega (arith, leb-true n 2147483647 a, leb-true m 2147483647 b'))
range_one (negsuc n) (negsuc m) a b a' b' c = ap negsuc (omega (arith, leb-true n 2147483647 a, leb-true m 2147483647 a'))

pub delay_one : (l e : ℕ) (d d' : ℤ) → Delay l e d → Delay l e d' → d ≡ d'
delay_one l e d d' p q = range_one d d' p.not_less p.not_more q.not_less q.not_more (p.congruent ∙ sym q.congruent)

-- a delay fits 32 bits
pub delay_small : (l e : ℕ) (d : ℤ) → Delay l e d → mag d < 2147483648
delay_small l e (pos n) p = omega (arith, leb-true n 2147483647 p.not_more)
delay_small l e (negsuc n) p = omega (arith, leb-true n 2147483647 p.not_less)

-- every two counters have a delay: their difference, or a turn more or less
pub delay_there_lem : (l e : ℕ) → l < turn → e < turn → (d : ℤ) × Delay l e d
delay_there_lem l e hl he = by_tests (lt_z apart least_delay) refl (lt_z greatest_delay apart) refl
  where
    apart : ℤ
    apart = pos l -ℤ pos e

    by_tests : (s : Bool) → lt_z apart least_delay ≡ s → (t : Bool) → lt_z greatest_delay apart ≡ t → (d : ℤ) × Delay l e d
    by_tests true p t q = (apart +ℤ pos turn, delay_of l e (apart +ℤ pos turn) (grown_small apart (apart_small l e hl he) p) (turn_more apart))
    by_tests false p true q = (apart -ℤ pos turn, delay_of l e (apart -ℤ pos turn) (shrunk_small apart (apart_small l e hl he) q) (turn_less apart))
    by_tests false p false q = (apart, delay_of l e apart (between_small apart p q) refl)
