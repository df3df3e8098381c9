-- A number in decimal, by how many digits it has.
use Prim.Native.Nat.{ℕ, ◌+◌, ◌≤◌, ◌<◌, ◌/◌, ◌%◌}
use mathlib.Core.Path.{◌≡◌, ap, ◌∙◌}
use mathlib.Core.List.{List, [], ◌∷◌, ◌++◌, append_assoc}
use native.Mathlib.Omega.{arith}
use lib.ListN.{length, length-append}
use borrow.Author.Tests.{lt-ltb, le-ltb}
use Rattle.lists.specs.Entries.{at}
use Rattle.values.specs.Signs.{digits, numeral, decimal}
use Rattle.values.proofs.Decimals.{numeral_more, numeral_step}

pub decimal_two : (n : ℕ) → 10 ≤ n → n < 100 → decimal n ≡ at digits (n / 10) ∷ at digits (n % 10) ∷ []
unfolding numeral
decimal_two n h k = simp (le-ltb n 10 h, lt-ltb (n / 10) 10 (omega arith))

pub decimal_three : (n : ℕ) → 100 ≤ n → n < 1000 → decimal n ≡ at digits (n / 100) ∷ at digits (n / 10 % 10) ∷ at digits (n % 10) ∷ []
unfolding numeral
decimal_three n h k =
    let hundreds : n / 10 / 10 ≡ n / 100 = omega arith in
    simp (le-ltb n 10 (omega arith), le-ltb (n / 10) 10 (omega arith), hundreds, lt-ltb (n / 100) 10 (omega arith))

-- the hundreds, and two digits more
pub decimal_more : (n : ℕ) → 1000 ≤ n → n ≤ 65535 → decimal n ≡ decimal (n / 100) ++ (at digits (n / 10 % 10) ∷ at digits (n % 10) ∷ [])
decimal_more n h k =
    let hundreds : n / 10 / 10 ≡ n / 100 = omega arith in
    let few : numeral 3 (n / 10 / 10) ≡ decimal (n / 100) = ap (numeral 3) hundreds ∙ numeral_more 2 (n / 100) (omega arith) ∙ numeral_more 3 (n / 100) (omega arith) in
    numeral_step 4 n (omega arith) ∙ ap (λ (l : List ℕ). l ++ (at digits (n % 10) ∷ [])) (numeral_step 3 (n / 10) (omega arith) ∙ ap (λ (l : List ℕ). l ++ (at digits (n / 10 % 10) ∷ [])) few)
    ∙ append_assoc (decimal (n / 100)) (at digits (n / 10 % 10) ∷ []) (at digits (n % 10) ∷ [])

pub size_more : (n : ℕ) → 1000 ≤ n → n ≤ 65535 → length (decimal n) ≡ length (decimal (n / 100)) + 2
size_more n h k = ap length (decimal_more n h k) ∙ length-append (decimal (n / 100)) (at digits (n / 10 % 10) ∷ at digits (n % 10) ∷ [])

pub size_four : (n : ℕ) → 1000 ≤ n → n < 10000 → length (decimal n) ≡ 4
size_four n h k = omega (arith, size_more n h (omega arith), ap length (decimal_two (n / 100) (omega arith) (omega arith)))

pub size_five : (n : ℕ) → 10000 ≤ n → n ≤ 65535 → length (decimal n) ≡ 5
size_five n h k = omega (arith, size_more n (omega arith) k, ap length (decimal_three (n / 100) (omega arith) (omega arith)))
