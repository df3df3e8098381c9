-- One multiplication or division of two whole numbers that are doubles exactly rounds the exact product or quotient once.
use mathlib.Core.Path.{◌≡◌, refl, sym, ap, ◌∙◌, subst, subst⁻¹}
use mathlib.Core.Bool.{Bool, true, false, not, ◌&&◌}
use mathlib.Core.List.{List, [], ◌∷◌}
use Prim.Native.Nat.{ℕ, zero, suc, ◌+◌, ◌*◌, ◌^◌, ◌<◌}
use native.Mathlib.Nat.{zero-add, add-zero, add-suc, suc-add, mul-pos, mul-one, mul_assoc, mul_comm, mul-mul-mul_comm, mul-lt-mul_of_pos_right, lt_of_lt_of_le, pow-le-pow_right, zero-mul}
use native.Mathlib.Omega.{arith}
use lib.Dec.{T, eqb, eqb→eq}
use lib.IntN.{ℤ, pos}
use lib.ListN.{length, get_or}
use lib.Pow.{pow_pos}
use mir.Facts.{and_yes}
use lib.Ieee.{Float, nan, inf, fin, Format, binary64, up, down, unlike, low, prec, emax, neg, mul, div, round, of_int}
use lib.Ieee.Exact.{HasValue, round_exact}
use lib.Ieee.Positive.{den_pos}
use lib.Ieee.Scale.{round_same}
use borrow.Author.Tests.{ne_eqb}

-- the other sign
pub negated : (x : Float) (a c : ℕ) → HasValue x false a c → HasValue (neg x) true a c
unfolding neg
negated nan a c h = h
negated (inf s) a c h = h
negated (fin s m e) a c h = (ap not h.0, h.1)

-- a whole number below 2 to the 53rd is a double exactly
pub whole_exact : (n : ℕ) → n < 2 ^ prec binary64 → HasValue (of_int binary64 (pos n)) false n 1
unfolding of_int
whole_exact n h =
    round_exact binary64 false n 1 n (low binary64) (omega arith) h
    (mul-lt-mul_of_pos_right (lt_of_lt_of_le h (pow-le-pow_right {n = 2} (omega arith) {i = prec binary64} {j = suc (emax binary64)} (omega arith))) (pow_pos (low binary64)))
    (sym (mul-one (n * 2 ^ low binary64)))

unlike_none : (s : Bool) → unlike s false ≡ s
unlike_none true = refl
unlike_none false = refl

-- over 1 a fraction is its upper part
whole_value : (m : ℕ) (e : ℤ) (a : ℕ) → m * up e * 1 ≡ a * down e → m * up e ≡ a * down e
whole_value m e a h = sym (mul-one (m * up e)) ∙ h

turned : (a b c d : ℕ) → a * b * c * d ≡ a * (d * c * b)
turned a b c d =
    ap (λ (x : ℕ). x * d) (mul_assoc a b c) ∙ mul_assoc a (b * c) d ∙ ap (λ (x : ℕ). a * x) (mul_comm (b * c) d ∙ ap (λ (x : ℕ). d * x) (mul_comm b c) ∙ sym (mul_assoc d c b))

module _ (f : Format) where
  -- of whole numbers, the first with a sign
  pub product : (s : Bool) (x y : Float) (a b : ℕ) → HasValue x s a 1 → HasValue y false b 1 → mul f x y ≡ round f s (a * b) 1
  unfolding mul
  product s nan y a b h k = absurd h
  product s (inf t) y a b h k = absurd h
  product s (fin t m e) nan a b h k = absurd k
  product s (fin t m e) (inf u) a b h k = absurd k
  product s (fin t m e) (fin u n d) a b h k =
      let M : m * up e ≡ a * down e = whole_value m e a h.1 in
      let N : n * up d ≡ b * down d = whole_value n d b k.1 in
      let sign : unlike t u ≡ s = ap (λ (x : Bool). unlike x u) h.0 ∙ ap (unlike s) k.0 ∙ unlike_none s in
      ap (λ (x : Bool). round f x (m * up e * (n * up d)) (down e * down d)) sign
      ∙ round_same f s (m * up e * (n * up d)) (down e * down d) (a * b) 1 (mul-pos (den_pos (fin t m e)) (den_pos (fin u n d))) (omega arith)
      (mul-one _ ∙ ap (λ (x : ℕ). x * (n * up d)) M ∙ ap (λ (x : ℕ). a * down e * x) N ∙ mul-mul-mul_comm a (down e) b (down d))

  pub quotient : (s : Bool) (x y : Float) (a b : ℕ) → 0 < b → HasValue x s a 1 → HasValue y false b 1 → div f x y ≡ round f s a b
  unfolding div
  quotient s nan y a b p h k = absurd h
  quotient s (inf t) y a b p h k = absurd h
  quotient s (fin t m e) nan a b p h k = absurd k
  quotient s (fin t m e) (inf u) a b p h k = absurd k
  quotient s (fin t m e) (fin u n d) a b p h k =
      let M : m * up e ≡ a * down e = whole_value m e a h.1 in
      let N : n * up d ≡ b * down d = whole_value n d b k.1 in
      let positive : 0 < n * up d = omega (arith, N, mul-pos p (den_pos (fin u n d))) in
      let some : (n ≡ 0 → ⊥) = (λ (z : n ≡ 0). omega (arith, positive, ap (λ (x : ℕ). x * up d) z, zero-mul (up d))) in
      let sign : unlike t u ≡ s = ap (λ (x : Bool). unlike x u) h.0 ∙ ap (unlike s) k.0 ∙ unlike_none s in
      rw (ne_eqb n 0 some)
      (ap (λ (x : Bool). round f x (m * up e * down d) (n * up d * down e)) sign
      ∙ round_same f s (m * up e * down d) (n * up d * down e) a b (mul-pos positive (den_pos (fin t m e))) p
      (ap (λ (x : ℕ). x * down d * b) M ∙ turned a (down e) (down d) b ∙ ap (λ (x : ℕ). a * (x * down e)) (sym N)))

-- a test that computes, of a table's entries: a double that is the whole number a
abbrev pub is_whole : ℕ → Float → Bool
is_whole a nan = false
is_whole a (inf s) = false
is_whole a (fin true m e) = false
is_whole a (fin false m e) = eqb (m * up e * 1) (a * down e)

is_whole_lem : (a : ℕ) (x : Float) → T (is_whole a x) → HasValue x false a 1
is_whole_lem a nan t = absurd t
is_whole_lem a (inf s) t = absurd t
is_whole_lem a (fin true m e) t = absurd t
is_whole_lem a (fin false m e) t = (refl, eqb→eq (m * up e * 1) (a * down e) t)

-- each entry is ten to its place, counted from k
abbrev tens_from : ℕ → List Float → Bool
tens_from k [] = true
tens_from k (x ∷ xs) = is_whole (10 ^ k) x && tens_from (suc k) xs

tens_from_lem : (k : ℕ) (xs : List Float) → T (tens_from k xs) → (i : ℕ) → i < length xs → HasValue (get_or xs i nan) false (10 ^ (k + i)) 1
tens_from_lem k [] t i h = absurd (omega arith)
tens_from_lem k (x ∷ xs) t zero h = subst⁻¹ (λ (n : ℕ). HasValue x false (10 ^ n) 1) (add-zero k) (is_whole_lem (10 ^ k) x (and_yes (is_whole (10 ^ k) x) (tens_from (suc k) xs) t).0)
tens_from_lem k (x ∷ xs) t (suc i) h =
    subst (λ (n : ℕ). HasValue (get_or xs i nan) false (10 ^ n) 1) (suc-add k i ∙ sym (add-suc k i)) (tens_from_lem (suc k) xs (and_yes (is_whole (10 ^ k) x) (tens_from (suc k) xs) t).1 i (omega arith))

pub tens_at : (xs : List Float) → T (tens_from 0 xs) → (i : ℕ) → i < length xs → HasValue (get_or xs i nan) false (10 ^ i) 1
tens_at xs t i h = subst (λ (n : ℕ). HasValue (get_or xs i nan) false (10 ^ n) 1) (zero-add i) (tens_from_lem 0 xs t i h)
