-- Digits one after the other: what they say, and that the number stays small enough.
use mathlib.Core.Path.{◌≡◌, sym, ap, ◌∙◌}
use Prim.Native.Nat.{ℕ, suc, ◌+◌, ◌-◌, ◌*◌, ◌^◌, ◌≤◌, ◌<◌}
use mathlib.Core.List.{List, ◌∷◌}
use native.Mathlib.Numerals.{add-one}
use lib.Seq.{drop-cons}
use Rattle.std.specs.Prelude.{None, Some}
use native.Mathlib.Nat.{mul_assoc, mul-le-mul_right, pow-succ', one-le-pow, le-mul_of_pos_right}
use native.Mathlib.Omega.{arith}
use Rattle.std.proofs.lemmas.Option.{cond_some}
use mathlib.Core.Bool.{◌&&◌}
use lib.Dec.{leb}
use Rattle.lists.proofs.Tests.{and_parts}
use lib.ListN.{length, drop, get_or, drop_of_length-le}
use borrow.Author.Tests.{leb-true}
use Rattle.numerals.specs.Wholes.{zero_digit, digit_of, digits_from}

-- the entry at a place and what follows
from_place : (xs : List ℕ) (i : ℕ) → i < length xs → drop i xs ≡ get_or xs i 0 ∷ drop (i + 1) xs
from_place xs i h = rw (add-one, drop-cons xs i 0)

module _ (n : ℕ) (xs : List ℕ) (i : ℕ) where
  pub digits_on : (d : ℕ) → i < length xs → digit_of (get_or xs i 0) ≡ Some d → digits_from n (drop i xs) ≡ digits_from (n * 10 + d) (drop (i + 1) xs)
  unfolding digits_from
  digits_on d h e = rw (from_place xs i h, e)

  pub digits_other : i < length xs → digit_of (get_or xs i 0) ≡ None → digits_from n (drop i xs) ≡ None
  unfolding digits_from
  digits_other h e = rw (from_place xs i h, e)

  pub digits_end : length xs ≤ i → digits_from n (drop i xs) ≡ Some n
  unfolding digits_from
  digits_end h = rw (drop_of_length-le xs h)

-- a digit's value is below ten
pub digit_small : (b d : ℕ) → digit_of b ≡ Some d → d < 10
unfolding digit_of
digit_small b d e =
    let p = cond_some (leb zero_digit b && leb b 57) (b - zero_digit) d e in
    let q = and_parts (leb zero_digit b) (leb b 57) p.0 in
    omega (arith, p.1, leb-true b 57 q.1)

-- a number below 10 to the k with room for j digits more: one digit more takes one of them
pub grown_room : (n d k most : ℕ) → d < 10 → (n + 1) * 10 ^ suc k ≤ most → (n * 10 + d + 1) * 10 ^ k ≤ most
grown_room n d k most h r =
    let p : (n + 1) * 10 ^ suc k ≡ (n + 1) * 10 * 10 ^ k = ap (λ (x : ℕ). (n + 1) * x) (pow-succ' 10 k) ∙ sym (mul_assoc (n + 1) 10 (10 ^ k)) in
    let q : (n * 10 + d + 1) * 10 ^ k ≤ (n + 1) * 10 * 10 ^ k = mul-le-mul_right (10 ^ k) (omega arith) in
    omega arith

pub room_small : (n k most : ℕ) → (n + 1) * 10 ^ k ≤ most → n < most
room_small n k most r = omega (arith, le-mul_of_pos_right (n + 1) (one-le-pow k 10 (omega arith)))
