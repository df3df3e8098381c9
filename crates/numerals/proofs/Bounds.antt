-- How large a number that was read can be.
use mathlib.Core.Path.{◌≡◌, refl, sym, ap, ◌∙◌, subst}
use Prim.Native.Nat.{ℕ, suc, ◌+◌, ◌*◌, ◌^◌, ◌≤◌, ◌<◌}
use mathlib.Core.List.{List, [], ◌∷◌}
use mathlib.Core.Bool.{Bool, true, false, cond, ◌&&◌}
use Rattle.std.specs.Prelude.{Option, None, Some, option_map}
use native.Mathlib.Nat.{mul_assoc, mul-one, mul-le-mul_right, one-mul, pow-succ', pow-le-pow_right}
use native.Mathlib.Omega.{arith}
use lib.ListN.{length, drop}
use lib.Pow.{pow-add}
use lib.Dec.{leb, ltb}
use borrow.Author.Tests.{leb-true}
use Rattle.std.proofs.lemmas.Option.{none-some, same_Some, option_and_then_some}
use Rattle.numerals.proofs.Digits.{digit_small}
use Rattle.numerals.specs.declared.wholes.Signed.{Signed}
use Rattle.numerals.specs.declared.decimals.Mantissa.{Mantissa}
use Rattle.lists.proofs.Tests.{and_parts}
use Rattle.numerals.specs.Texts.{has, before, behind, begins_with}
use Rattle.numerals.specs.Wholes.{most_digits, minus, digit_of, digits_from, plain, whole, with_sign, signed}
use Rattle.numerals.specs.Decimals.{point, exponent_sign, with_fraction, pointed, mantissa, exponent}

-- the number that digits say has as many digits as they are, behind those of the first
pub digits_bound : (n : ℕ) (xs : List ℕ) (m : ℕ) → digits_from n xs ≡ Some m → m + 1 ≤ (n + 1) * 10 ^ length xs
unfolding digits_from
digits_bound n [] m e = omega (arith, same_Some n m e, mul-one (n + 1))
digits_bound n (x ∷ xs) m e =
    option_and_then_some (λ (d : ℕ). digits_from (n * 10 + d) xs) (digit_of x) m e
    (λ (d : ℕ) (is : digit_of x ≡ Some d) (f : digits_from (n * 10 + d) xs ≡ Some m).
    let p : (n + 1) * 10 ^ suc (length xs) ≡ (n + 1) * 10 * 10 ^ length xs = ap (λ (k : ℕ). (n + 1) * k) (pow-succ' 10 (length xs)) ∙ sym (mul_assoc (n + 1) 10 (10 ^ length xs)) in
    let r : (n * 10 + d + 1) * 10 ^ length xs ≤ (n + 1) * 10 * 10 ^ length xs = mul-le-mul_right (10 ^ length xs) (omega (arith, digit_small x d is)) in
    omega (arith, p, r, digits_bound (n * 10 + d) xs m f))

-- a whole number has at most so many digits
pub whole_bound : (xs : List ℕ) (n : ℕ) → whole xs ≡ Some n → (n + 1 ≤ 10 ^ length xs) × (length xs ≤ most_digits)
unfolding whole
whole_bound xs n e = by_test (plain xs && leb (length xs) most_digits) refl e
  where
    by_test : (t : Bool) → (plain xs && leb (length xs) most_digits) ≡ t → cond t (digits_from 0 xs) None ≡ Some n → (n + 1 ≤ 10 ^ length xs) × (length xs ≤ most_digits)
    by_test true q e = (omega (arith, digits_bound 0 xs n e, one-mul (10 ^ length xs)), leb-true (length xs) most_digits (and_parts (plain xs) _ q).1)
    by_test false q e = absurd (none-some n e)

pub whole_small : (xs : List ℕ) (n : ℕ) → whole xs ≡ Some n → n < 10 ^ most_digits
whole_small xs n e = let b = whole_bound xs n e in omega (arith, b.0, pow-le-pow_right {n = 10} (omega arith) {i = length xs} {j = most_digits} b.1)

-- what was made of a number that was read
made_of : {A B : Type 0} (f : A → B) (o : Option A) (b : B) (P : B → Type 0) → option_map f o ≡ Some b → ((a : A) → o ≡ Some a → P (f a)) → P b
made_of f None b P e k = absurd (none-some b e)
made_of f (Some a) b P e k = subst P (same_Some (f a) b e) (k a refl)

pub signed_small : (xs : List ℕ) (p : Signed) → signed xs ≡ Some p → p.size < 10 ^ most_digits
unfolding signed
signed_small xs p e = by_test (begins_with minus xs) e
  where
    by_test : (t : Bool) → cond t (option_map (with_sign true) (whole (drop 1 xs))) (option_map (with_sign false) (whole xs)) ≡ Some p → p.size < 10 ^ most_digits
    by_test true e = made_of (with_sign true) (whole (drop 1 xs)) p (λ (q : Signed). q.size < 10 ^ most_digits) e (whole_small (drop 1 xs))
    by_test false e = made_of (with_sign false) (whole xs) p (λ (q : Signed). q.size < 10 ^ most_digits) e (whole_small xs)

pub exponent_small : (xs : List ℕ) (p : Signed) → exponent xs ≡ Some p → p.size < 10 ^ most_digits
unfolding exponent
exponent_small xs p e = by_test (has exponent_sign xs) e
  where
    by_test : (t : Bool) → cond t (signed (behind exponent_sign xs)) (Some (with_sign false 0)) ≡ Some p → p.size < 10 ^ most_digits
    by_test true e = signed_small (behind exponent_sign xs) p e
    by_test false e = subst (λ (q : Signed). q.size < 10 ^ most_digits) (same_Some (with_sign false 0) p e) (omega arith)

-- a front's digits and those behind the point are together at most so many
pub room_behind : (xs fraction : List ℕ) (n : ℕ) → whole xs ≡ Some n → length xs + length fraction ≤ most_digits → (n + 1) * 10 ^ length fraction ≤ 10 ^ most_digits
room_behind xs fraction n e h =
    omega
    (arith, mul-le-mul_right (10 ^ length fraction) (whole_bound xs n e).0, pow-add 10 (length xs) (length fraction), pow-le-pow_right {n = 10} (omega arith) {i = length xs + length fraction} {j = most_digits} h)

-- how large a mantissa is, and how many digits stand behind its point
abbrev Few : Mantissa → Type 0
Few m = (m.digits < 10 ^ most_digits) × (m.fraction ≤ most_digits)

pointed_small : (front fraction : List ℕ) (m : Mantissa) → length front + length fraction ≤ most_digits → pointed front fraction ≡ Some m → Few m
unfolding pointed
pointed_small front fraction m h e =
    option_and_then_some (λ (n : ℕ). option_map (with_fraction (length fraction)) (digits_from n fraction)) (whole front) m e
    (λ (n : ℕ) (q : whole front ≡ Some n) (f : option_map (with_fraction (length fraction)) (digits_from n fraction) ≡ Some m).
    made_of (with_fraction (length fraction)) (digits_from n fraction) m Few f
    (λ (k : ℕ) (d : digits_from n fraction ≡ Some k). (omega (arith, digits_bound n fraction k d, room_behind front fraction n q h), omega arith)))

pub mantissa_small : (xs : List ℕ) (m : Mantissa) → mantissa xs ≡ Some m → Few m
unfolding mantissa
mantissa_small xs m e = by_point (has point xs) e
  where
    by_length : (t : Bool) → (ltb 0 (length (behind point xs)) && leb (length (before point xs) + length (behind point xs)) most_digits) ≡ t → cond t (pointed (before point xs) (behind point xs)) None ≡ Some m → Few m
    by_length true q e = pointed_small (before point xs) (behind point xs) m (leb-true (length (before point xs) + length (behind point xs)) most_digits (and_parts (ltb 0 (length (behind point xs))) _ q).1) e
    by_length false q e = absurd (none-some m e)

    by_point : (t : Bool) → cond t (cond (ltb 0 (length (behind point xs)) && leb (length (before point xs) + length (behind point xs)) most_digits) (pointed (before point xs) (behind point xs)) None) (option_map (with_fraction 0) (whole xs)) ≡ Some m → Few m
    by_point true e = by_length (ltb 0 (length (behind point xs)) && leb (length (before point xs) + length (behind point xs)) most_digits) refl e
    by_point false e = made_of (with_fraction 0) (whole xs) m Few e (λ (n : ℕ) (w : whole xs ≡ Some n). (whole_small xs n w, omega arith))
