-- A number in decimal: the byte of each digit, how many digits there are, and that more room for them changes nothing.
use Prim.Native.Nat.{ℕ, zero, suc, ◌+◌, ◌*◌, ◌≤◌, ◌<◌, ◌/◌, ◌%◌}
use mathlib.Core.Path.{◌≡◌, refl, ap, ◌∙◌}
use mathlib.Core.List.{List, [], ◌∷◌, ◌++◌}
use mathlib.Core.Bool.{Bool, true, false, cond}
use native.Mathlib.Omega.{arith}
use lib.ListN.{length, length-append}
use lib.Dec.{ltb}
use borrow.Author.Tests.{lt-ltb, le-ltb}
use Rattle.lists.specs.Entries.{at}
use Rattle.lists.specs.Rows.{tab}
use Rattle.lists.proofs.Rows.{tab_at}
use Rattle.values.specs.Signs.{digits, numeral, decimal}

-- the digits 0 to 9 stand from byte 48 on
digits_listed : digits ≡ tab (λ (i : ℕ). 48 + i) 10
unfolding tab
digits_listed = refl

pub digit_at : (d : ℕ) → d < 10 → at digits d ≡ 48 + d
digit_at d h = ap (λ (l : List ℕ). at l d) digits_listed ∙ tab_at (λ (i : ℕ). 48 + i) 10 d h

-- 10 to the k
abbrev pub cap : ℕ → ℕ
cap zero = 1
cap (suc k) = cap k * 10

-- a number of fewer digits is printed the same
pub numeral_more : (k m : ℕ) → m < cap (suc k) → numeral (suc k) m ≡ numeral (suc (suc k)) m
unfolding numeral
numeral_more zero m h = simp (lt-ltb m 10 (omega arith))
numeral_more (suc k) m h = ap (λ (l : List ℕ). cond (ltb m 10) (at digits m ∷ []) (l ++ (at digits (m % 10) ∷ []))) (numeral_more k (m / 10) (omega arith))

-- no more digits than are asked for
numeral_short : (k n : ℕ) → length (numeral k n) ≤ k
unfolding numeral
numeral_short zero n = omega arith
numeral_short (suc k) n = go (ltb n 10) (numeral_short k (n / 10))
  where
    go : (x : Bool) → length (numeral k (n / 10)) ≤ k → length (cond x (at digits n ∷ []) (numeral k (n / 10) ++ (at digits (n % 10) ∷ []))) ≤ suc k
    go true h = omega arith
    go false h = omega (arith, length-append (numeral k (n / 10)) (at digits (n % 10) ∷ []))

pub decimal_short : (n : ℕ) → length (decimal n) ≤ 5
decimal_short n = numeral_short 5 n

-- a digit alone, and the last digit behind the others
pub decimal_one : (n : ℕ) → n < 10 → decimal n ≡ at digits n ∷ []
unfolding numeral
decimal_one n h = simp (lt-ltb n 10 h)

pub numeral_step : (k n : ℕ) → 10 ≤ n → numeral (suc k) n ≡ numeral k (n / 10) ++ (at digits (n % 10) ∷ [])
unfolding numeral
numeral_step k n h = simp (le-ltb n 10 h)

pub decimal_step : (n : ℕ) → 10 ≤ n → n ≤ 65535 → decimal n ≡ decimal (n / 10) ++ (at digits (n % 10) ∷ [])
decimal_step n h k = numeral_step 4 n h ∙ ap (λ (l : List ℕ). l ++ (at digits (n % 10) ∷ [])) (numeral_more 3 (n / 10) (omega arith))

-- the same by the digits' bytes
pub decimal_digit : (d : ℕ) → d < 10 → decimal d ≡ (48 + d) ∷ []
decimal_digit d h = decimal_one d h ∙ ap (λ (x : ℕ). x ∷ []) (digit_at d h)

pub decimal_grown : (a d : ℕ) → 0 < a → d < 10 → a * 10 + d ≤ 65535 → decimal (a * 10 + d) ≡ decimal a ++ ((48 + d) ∷ [])
decimal_grown a d p h b =
    let q : (a * 10 + d) / 10 ≡ a = omega arith in
    let r : (a * 10 + d) % 10 ≡ d = omega arith in
    decimal_step (a * 10 + d) (omega arith) b ∙ rw (q, r, digit_at d h)

pub decimal_size : (n : ℕ) → 10 ≤ n → n ≤ 65535 → length (decimal n) ≡ length (decimal (n / 10)) + 1
decimal_size n h k = ap length (decimal_step n h k) ∙ length-append (decimal (n / 10)) (at digits (n % 10) ∷ [])
