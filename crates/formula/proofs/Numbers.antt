-- Numbers as digits: what a list of digits says, a number's decimal says it, and digits end where no digit follows.
use Prim.Native.Nat.{ℕ, zero, suc, ◌+◌, ◌-◌, ◌*◌, ◌/◌, ◌%◌, ◌≤◌, ◌<◌}
use mathlib.Core.Path.{◌≡◌, refl, ap, sym, ◌∙◌}
use mathlib.Core.List.{List, [], ◌∷◌, ◌++◌}
use mathlib.Core.Bool.{Bool, true, false, true≢false}
use native.Mathlib.Omega.{arith}
use lib.ListN.{length, length-append, get_or-append}
use lib.Dec.{ltb}
use borrow.Author.Tests.{lt-ltb, le-leb, ltb-true, ltb-false}
use Rattle.lists.specs.Entries.{at, All}
use Rattle.lists.proofs.Tests.{and_both}
use Rattle.values.specs.Signs.{decimal, digits, numeral}
use Rattle.values.proofs.Decimals.{cap, digit_at}
use Rattle.formula.specs.Inside.{is_digit, Stops}

abbrev pub Digits : List ℕ → Type 0
Digits = All (λ (c : ℕ). is_digit c ≡ true)

-- the number that digits say, behind those that say v
unfoldable pub said : ℕ → List ℕ → ℕ
said v [] = v
said v (c ∷ cs) = said (v * 10 + (c - 48)) cs

pub said_append : (v : ℕ) (xs ys : List ℕ) → said v (xs ++ ys) ≡ said (said v xs) ys
unfolding said
said_append v [] ys = refl
said_append v (x ∷ xs) ys = said_append (v * 10 + (x - 48)) xs ys

pub said_more : (v : ℕ) (xs : List ℕ) → v ≤ said v xs
unfolding said
said_more v [] = omega arith
said_more v (x ∷ xs) = let h = said_more (v * 10 + (x - 48)) xs in omega (arith, h)

pub digit_is : (d : ℕ) → d < 10 → is_digit (48 + d) ≡ true
digit_is d h = and_both _ _ (le-leb 48 (48 + d) (omega arith)) (le-leb (48 + d) 57 (omega arith))

all_append : (xs ys : List ℕ) → Digits xs → Digits ys → Digits (xs ++ ys)
all_append [] ys a b = b
all_append (x ∷ xs) ys a b = (a.0, all_append xs ys a.1 b)

pub one_more : (ds : List ℕ) (c : ℕ) → Digits ds → is_digit c ≡ true → Digits (ds ++ (c ∷ []))
one_more ds c a h = all_append ds (c ∷ []) a (h, tt)

last_digit : (m : ℕ) → at digits (m % 10) ≡ 48 + m % 10
last_digit m = digit_at (m % 10) (omega arith)

-- a numeral says its number, in digits, and a positive one begins with no 0
pub record Says (a : ℕ) (ds : List ℕ) : Type 0 where
  pub value : said 0 ds ≡ a
  pub each : Digits ds
  pub some : 0 < length ds
  pub lead : 0 < a → at ds 0 ≡ 48 → ⊥

says_one : (a : ℕ) → a < 10 → Says a ((48 + a) ∷ [])
unfolding said
says_one a h = record { value = omega arith; each = (digit_is a h, tt); some = omega arith; lead = λ p e. omega arith }

says_more : (a : ℕ) (ds : List ℕ) → 10 ≤ a → Says (a / 10) ds → Says a (ds ++ ((48 + a % 10) ∷ []))
unfolding said
says_more a ds h s = record {
  value = said_append 0 ds ((48 + a % 10) ∷ []) ∙ ap (λ (v : ℕ). v * 10 + (48 + a % 10 - 48)) s.value ∙ (let z : a / 10 * 10 + (48 + a % 10 - 48) ≡ a = omega arith in z);
  each = one_more ds (48 + a % 10) s.each (digit_is (a % 10) (omega arith));
  some = (let l = length-append ds ((48 + a % 10) ∷ []) in omega (arith, l, s.some));
  lead = λ p e. s.lead (omega arith) (sym (get_or-append ds ((48 + a % 10) ∷ []) 0 0 s.some) ∙ e);
}

numeral_says : (k a : ℕ) → a < cap (suc k) → Says a (numeral (suc k) a)
unfolding numeral
numeral_says zero a h = simp (lt-ltb a 10 (omega arith), digit_at a (omega arith)) (says_one a (omega arith))
numeral_says (suc k) a h = go (ltb a 10) refl (numeral_says k (a / 10) (omega arith))
  where
    go : (x : Bool) → ltb a 10 ≡ x → Says (a / 10) (numeral (suc k) (a / 10)) → Says a (numeral (suc (suc k)) a)
    go true e later = simp (numeral, e, digit_at a (ltb-true a 10 e)) (says_one a (ltb-true a 10 e))
    go false e later = simp (numeral, e, last_digit a) (says_more a (numeral (suc k) (a / 10)) (ltb-false a 10 e) later)

pub decimal_says : (a : ℕ) → a ≤ 65535 → Says a (decimal a)
decimal_says a h = numeral_says 4 a (omega arith)

-- digits up to where none follows: there is one way to cut them off
pub cut_once : (xs ys r t : List ℕ) → Digits xs → Digits ys → Stops r → Stops t → xs ++ r ≡ ys ++ t → (xs ≡ ys) × (r ≡ t)
cut_once [] [] r t a b p q e = (refl, e)
cut_once [] (y ∷ ys) [] t a b p q e = absurd (let z : ◌≡◌ {A = ℕ} 0 1 = cc in omega arith)
cut_once [] (y ∷ ys) (c ∷ r) t a b p q e = let z : c ≡ y = cc in absurd (true≢false (sym b.0 ∙ ap is_digit (sym z) ∙ p))
cut_once (x ∷ xs) [] r [] a b p q e = absurd (let z : ◌≡◌ {A = ℕ} 0 1 = cc in omega arith)
cut_once (x ∷ xs) [] r (c ∷ t) a b p q e = let z : x ≡ c = cc in absurd (true≢false (sym a.0 ∙ ap is_digit z ∙ q))
cut_once (x ∷ xs) (y ∷ ys) r t a b p q e =
    let rest : xs ++ r ≡ ys ++ t = cc in
    let w = cut_once xs ys r t a.1 b.1 p q rest in
    (let z : x ≡ y = cc in cc (z, w.0), w.1)

-- digits that go on are the beginning of those that don't
pub record GoesOn (ds : List ℕ) (c : ℕ) (xs : List ℕ) : Type 0 where
  pub behind : List ℕ
  pub on : xs ≡ ds ++ (c ∷ behind)

pub goes_on : (xs t ds : List ℕ) (c : ℕ) (w : List ℕ) → Digits ds → is_digit c ≡ true → Stops t → xs ++ t ≡ ds ++ (c ∷ w) → GoesOn ds c xs
goes_on [] [] [] c w b h q e = absurd (let z : ◌≡◌ {A = ℕ} 0 1 = cc in omega arith)
goes_on [] (d ∷ t) [] c w b h q e = let z : d ≡ c = cc in absurd (true≢false (sym h ∙ ap is_digit (sym z) ∙ q))
goes_on [] [] (d ∷ ds) c w b h q e = absurd (let z : ◌≡◌ {A = ℕ} 0 1 = cc in omega arith)
goes_on [] (x ∷ t) (d ∷ ds) c w b h q e = let z : x ≡ d = cc in absurd (true≢false (sym b.0 ∙ ap is_digit (sym z) ∙ q))
goes_on (x ∷ xs) t [] c w b h q e = record { behind = xs; on = (let z : x ≡ c = cc in ap (λ (y : ℕ). y ∷ xs) z) }
goes_on (x ∷ xs) t (d ∷ ds) c w b h q e =
    let rest : xs ++ t ≡ ds ++ (c ∷ w) = cc in
    let g = goes_on xs t ds c w b.1 h q rest in
    record { behind = g.behind; on = (let z : x ≡ d = cc in cc (z, g.on)) }
