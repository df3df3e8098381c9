-- A sign is read for its place and printed by it; a printed number reads back as itself, and a number that is read was printed so.
use Prim.Native.Nat.{ℕ, zero, suc, ◌+◌, ◌*◌, ◌/◌, ◌%◌, ◌≤◌, ◌<◌}
use mathlib.Core.Path.{◌≡◌, refl, ap, sym, ◌∙◌, subst}
use mathlib.Core.List.{List, [], ◌∷◌, ◌++◌, append_assoc}
use mathlib.Core.Bool.{Bool, true, false}
use native.Mathlib.Omega.{arith}
use lib.ListN.{length}
use lib.Dec.{ltb, eqb}
use borrow.Author.Tests.{eq-eqb, ne_eqb, lt-ltb, le-leb, ltb-true, ltb-false, eqb-true}
use Rattle.lists.specs.Entries.{at}
use Rattle.values.proofs.Decimals.{cap, digit_at, decimal_digit, decimal_grown}
use Rattle.values.specs.Signs.{decimal, digits, numeral}
use Rattle.form.specs.Readers.{place_of, may_grow, number_from, number}
use Rattle.form.specs.Readers.Reading.{found}
use Rattle.form.proofs.Steps.{grows}
use Rattle.form.proofs.Readings.{found_same, ends_found, refused_found}

-- no sign stands twice
abbrev pub Apart : List ℕ → Type 0
Apart [] = Unit {0}
Apart (g ∷ gs) = (place_of gs g ≡ length gs) × Apart gs

pub place_sign : (gs : List ℕ) → Apart gs → (v : ℕ) → v < length gs → place_of gs (at gs v) ≡ v
unfolding place_of
place_sign [] a v h = absurd (omega arith)
place_sign (g ∷ gs) a zero h = simp (eq-eqb g g refl)
place_sign (g ∷ gs) a (suc v) h =
    let later : place_of gs (at gs v) ≡ v = place_sign gs a.1 v (omega arith) in
    simp (ne_eqb g (at gs v) (λ e. omega (arith, later, a.0, ap (place_of gs) e)), later)

pub sign_place : (gs : List ℕ) (c : ℕ) → place_of gs c < length gs → at gs (place_of gs c) ≡ c
unfolding place_of
sign_place [] c h = absurd (omega arith)
sign_place (g ∷ gs) c h = go (eqb g c) refl (λ k. sign_place gs c k)
  where
    go : (t : Bool) → eqb g c ≡ t → (place_of gs c < length gs → at gs (place_of gs c) ≡ c) → at (g ∷ gs) (place_of (g ∷ gs) c) ≡ c
    go true e later = simp (place_of, e) (eqb-true g c e)
    go false e later =
        let p : place_of (g ∷ gs) c ≡ suc (place_of gs c) = simp (place_of, e) in
        ap (at (g ∷ gs)) p ∙ later (omega (arith, p, h))

-- the byte of a digit, by its place
digit_byte : (c : ℕ) → place_of digits c < 10 → 48 + place_of digits c ≡ c
digit_byte c h = sym (digit_at (place_of digits c) h) ∙ sign_place digits c h

digits_apart : Apart digits
unfolding place_of
digits_apart = (refl, (refl, (refl, (refl, (refl, (refl, (refl, (refl, (refl, (refl, tt))))))))))

module _ (stop : ℕ) (other : place_of digits stop ≡ 10) where
  one_digit : (m : ℕ) (t : List ℕ) → m < 10 → number stop (at digits m ∷ t) ≡ number_from stop m t
  unfolding number
  one_digit m t h = simp (number, place_sign digits digits_apart m h, lt-ltb m 10 h)

  more_digits : (m : ℕ) (t : List ℕ) → 10 ≤ m → m ≤ 65535 → number_from stop (m / 10) (at digits (m % 10) ∷ t) ≡ number_from stop m t
  unfolding number_from may_grow
  more_digits m t a b =
      let p : place_of digits (at digits (m % 10)) ≡ m % 10 = place_sign digits digits_apart (m % 10) (omega arith) in
      let e : m / 10 * 10 + m % 10 ≡ m = omega arith in
      let n : eqb (at digits (m % 10)) stop ≡ false = ne_eqb (at digits (m % 10)) stop (λ q. omega (arith, p, other, ap (place_of digits) q)) in
      simp (number_from, n, p, e, lt-ltb 0 (m / 10) (omega arith), lt-ltb (m % 10) 10 (omega arith), le-leb m 65535 b)

  number_digits : (k m : ℕ) (t : List ℕ) → m < cap (suc k) → m ≤ 65535 → number stop (numeral (suc k) m ++ t) ≡ number_from stop m t
  unfolding numeral
  number_digits zero m t h b = simp (lt-ltb m 10 (omega arith)) (one_digit m t (omega arith))
  number_digits (suc k) m t h b = go (ltb m 10) refl (number_digits k (m / 10) (at digits (m % 10) ∷ t) (omega arith) (omega arith))
    where
      go : (x : Bool) → ltb m 10 ≡ x → number stop (numeral (suc k) (m / 10) ++ (at digits (m % 10) ∷ t)) ≡ number_from stop (m / 10) (at digits (m % 10) ∷ t)
          → number stop (numeral (suc (suc k)) m ++ t) ≡ number_from stop m t
      go true e later = simp (numeral, e) (one_digit m t (ltb-true m 10 e))
      go false e later = simp (numeral, e, append_assoc) (later ∙ more_digits m t (ltb-false m 10 e) b)

  pub number_reads : (m : ℕ) (t : List ℕ) → m ≤ 65535 → number stop (decimal m ++ (stop ∷ t)) ≡ found m t
  unfolding number_from
  number_reads m t b = number_digits 4 m (stop ∷ t) (omega arith) b ∙ simp (number_from, eq-eqb stop stop refl)

grown : (a c : ℕ) → may_grow a (place_of digits c) ≡ true → decimal (a * 10 + place_of digits c) ≡ decimal a ++ (c ∷ [])
grown a c e =
    let g = grows a (place_of digits c) e in
    decimal_grown a (place_of digits c) g.some g.digit g.most ∙ ap (λ (x : ℕ). decimal a ++ (x ∷ [])) (digit_byte c g.digit)

Said : ℕ → ℕ → ℕ → List ℕ → List ℕ → Type 0
Said stop a n s rest = (decimal a ++ s ≡ decimal n ++ (stop ∷ rest)) × (n ≤ 65535)

from_back : (stop : ℕ) (s : List ℕ) (a n : ℕ) (rest : List ℕ) → a ≤ 65535 → number_from stop a s ≡ found n rest → Said stop a n s rest
unfolding number_from Said
from_back stop [] a n rest b e = absurd (ends_found e)
from_back stop (c ∷ s) a n rest b e = stops (eqb c stop) refl (λ h d. from_back stop s (a * 10 + place_of digits c) n rest h d)
  where
    goes : eqb c stop ≡ false → (y : Bool) → may_grow a (place_of digits c) ≡ y
        → (a * 10 + place_of digits c ≤ 65535 → number_from stop (a * 10 + place_of digits c) s ≡ found n rest → Said stop (a * 10 + place_of digits c) n s rest)
        → Said stop a n (c ∷ s) rest
    goes f true g later =
        let w = later (grows a (place_of digits c) g).most (simp (number_from, f, g) at e) in
        (sym (append_assoc (decimal a) (c ∷ []) s) ∙ ap (λ (x : List ℕ). x ++ s) (sym (grown a c g)) ∙ w.0, w.1)
    goes f false g later = absurd (refused_found (simp (number_from, f, g) at e))

    stops : (x : Bool) → eqb c stop ≡ x
        → (a * 10 + place_of digits c ≤ 65535 → number_from stop (a * 10 + place_of digits c) s ≡ found n rest → Said stop (a * 10 + place_of digits c) n s rest)
        → Said stop a n (c ∷ s) rest
    stops true f later =
        let p = found_same (simp (number_from, f) at e) in
        let q : c ≡ stop = eqb-true c stop f in
        (rw (p.0, p.1, q), subst (λ (x : ℕ). x ≤ 65535) p.0 b)
    stops false f later = goes f (may_grow a (place_of digits c)) refl later

alone : (c : ℕ) → place_of digits c < 10 → decimal (place_of digits c) ≡ c ∷ []
alone c h = decimal_digit (place_of digits c) h ∙ ap (λ (x : ℕ). x ∷ []) (digit_byte c h)

pub number_back : (stop : ℕ) (s : List ℕ) (n : ℕ) (rest : List ℕ) → number stop s ≡ found n rest → (s ≡ decimal n ++ (stop ∷ rest)) × (n ≤ 65535)
unfolding number Said
number_back stop [] n rest e = absurd (ends_found e)
number_back stop (c ∷ s) n rest e = go (ltb (place_of digits c) 10) refl
  where
    go : (x : Bool) → ltb (place_of digits c) 10 ≡ x → (c ∷ s ≡ decimal n ++ (stop ∷ rest)) × (n ≤ 65535)
    go true f =
        let h : place_of digits c < 10 = ltb-true (place_of digits c) 10 f in
        let w = from_back stop s (place_of digits c) n rest (omega arith) (simp (number, f) at e) in
        (ap (λ (x : List ℕ). x ++ s) (sym (alone c h)) ∙ w.0, w.1)
    go false f = absurd (refused_found (simp (number, f) at e))
