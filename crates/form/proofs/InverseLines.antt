-- Rows, lines of numbers and lines of one sort read exactly what is printed of them.
use Prim.Native.Nat.{ℕ, zero, suc, ◌*◌, ◌≤◌}
use mathlib.Core.Path.{◌≡◌, refl, ap, sym, ◌∙◌, subst}
use mathlib.Core.List.{List, [], ◌∷◌, ◌++◌, map, append_assoc}
use mathlib.Core.Bool.{Bool, true, false}
use native.Mathlib.Omega.{arith}
use native.Mathlib.Nat.{mul-suc, mul-zero}
use lib.ListN.{length, take, drop, take-append-drop, length-append, length-drop}
use lib.Seq.{length-take-le, take_at, drop_at}
use lib.Dec.{ltb}
use borrow.Author.Tests.{lt-ltb, ltb-true}
use Rattle.lists.specs.Entries.{at, All}
use Rattle.values.specs.Signs.{decimal, line_feed, numbers_print, stop_before}
use Rattle.form.specs.Readers.{Reader, on, give, exactly, place_of, number, symbol, symbols, numbers, row_line, numbers_line, lines}
use Rattle.form.specs.Readers.Reading.{found}
use Rattle.form.specs.Print.{row_print, line_print, lines_print, Values}
use Rattle.form.proofs.Readings.{found_same, ends_found, refused_found, through}
use Rattle.form.proofs.Decimal.{Apart, place_sign, sign_place, number_reads, number_back}
use Rattle.form.proofs.Inverse.{Reads, next, given, said, exactly_inverse, stop_apart}

nil : (vs : List ℕ) → length vs ≡ 0 → vs ≡ []
nil [] e = refl
nil (v ∷ vs) e = absurd (omega arith)

none : (h : ℕ) → Values 0 h []
none h = record { size = refl; each = tt }

more : (n h v : ℕ) (vs : List ℕ) → v ≤ h → Values n h vs → Values (suc n) h (v ∷ vs)
more n h v vs l g = record { size = ap suc g.size; each = (l, g.each) }

-- a line's end, after which its values are given
feed : (vs : List ℕ) → Reads (λ s. on (exactly (line_feed ∷ []) s) (λ u. give vs)) (λ b. line_feed ∷ []) (λ b. Unit {0} × (b ≡ vs))
feed vs = next (exactly (line_feed ∷ [])) _ _ (λ u. give vs) (λ u b. []) (λ u b. b ≡ vs) (λ b. tt) (exactly_inverse (line_feed ∷ [])) (λ u. given vs) (λ u b g. refl)

-- n symbols
module _ (signs : List ℕ) (h : ℕ) (apart : Apart signs) (many : length signs ≡ suc h) where
  symbol_there : (v : ℕ) (t : List ℕ) → v ≤ h → symbol signs (at signs v ∷ t) ≡ found v t
  unfolding symbol
  symbol_there v t l = simp (place_sign signs apart v (omega (arith, many)), lt-ltb v (length signs) (omega (arith, many)))

  symbol_back : (s : List ℕ) (v : ℕ) (rest : List ℕ) → symbol signs s ≡ found v rest → (s ≡ at signs v ∷ rest) × (v ≤ h)
  unfolding symbol
  symbol_back [] v rest e = absurd (ends_found e)
  symbol_back (c ∷ s) v rest e = go (ltb (place_of signs c) (length signs)) refl
    where
      go : (x : Bool) → ltb (place_of signs c) (length signs) ≡ x → (c ∷ s ≡ at signs v ∷ rest) × (v ≤ h)
      go true f =
          let p = found_same (simp (symbol, f) at e) in
          let l = ltb-true (place_of signs c) (length signs) f in
          let q : at signs v ≡ c = ap (at signs) (sym p.0) ∙ sign_place signs c l in
          (cc (q, p.1), omega (arith, l, many, p.0))
      go false f = absurd (refused_found (simp (symbol, f) at e))

  symbols_there : (n : ℕ) (vs t : List ℕ) → Values n h vs → symbols signs n (map (at signs) vs ++ t) ≡ found vs t
  unfolding symbols
  symbols_there zero [] t g = refl
  symbols_there zero (v ∷ vs) t g = absurd (omega (arith, g.size))
  symbols_there (suc n) [] t g = absurd (omega (arith, g.size))
  symbols_there (suc n) (v ∷ vs) t g =
      rw (symbol_there v (map (at signs) vs ++ t) g.each.0, symbols_there n vs t (record { size = omega (arith, g.size); each = g.each.1 }))

  symbols_back : (n : ℕ) (s vs rest : List ℕ) → symbols signs n s ≡ found vs rest → (s ≡ map (at signs) vs ++ rest) × Values n h vs
  unfolding symbols
  symbols_back zero s vs rest e =
      let q = found_same e in
      subst (λ (ws : List ℕ). (s ≡ map (at signs) ws ++ rest) × Values 0 h ws) q.0 (q.1, none h)
  symbols_back (suc n) s vs rest e =
      let x = through (symbol signs s) _ vs rest e in
      let y = through (symbols signs n x.left) _ vs rest x.then in
      let u = symbol_back s x.value x.left x.first in
      let w = symbols_back n x.left y.value y.left y.first in
      let q = found_same y.then in
      let t = w.0 ∙ ap (λ (l : List ℕ). map (at signs) y.value ++ l) q.1 in
      subst (λ (ws : List ℕ). (s ≡ map (at signs) ws ++ rest) × Values (suc n) h ws) q.0
      (u.0 ∙ ap (λ (l : List ℕ). at signs x.value ∷ l) t, more n h x.value y.value u.1 w.1)

  pub row_inverse : (k : List ℕ) (n : ℕ) → Reads (row_line k signs n) (row_print k signs) (Values n h)
  unfolding row_line
  row_inverse k n =
      let row =
      next (symbols signs n) (map (at signs)) (Values n h) (λ vs s. on (exactly (line_feed ∷ []) s) (λ u. give vs)) (λ vs b. line_feed ∷ []) (λ vs b. Unit {0} × (b ≡ vs)) (λ b. b)
      (record { reads = λ vs t g. symbols_there n vs t g; back = λ s vs rest e. symbols_back n s vs rest e }) feed (λ vs b g. g.1) in
      said _ _ (row_print k signs) _ (Values n h)
      (next (exactly k) _ _ (λ u s. on (symbols signs n s) (λ vs s. on (exactly (line_feed ∷ []) s) (λ u. give vs))) (λ u b. map (at signs) b ++ (line_feed ∷ []))
      (λ u b. Values n h b × (Unit {0} × (b ≡ b))) (λ b. tt) (exactly_inverse k) (λ u. row) (λ u b g. refl))
      (λ b g. g.1.0) (λ b g. (tt, (g, (tt, refl)))) (λ b. refl)

-- w numbers up to the line's end
numbers_there : (w : ℕ) (ns t : List ℕ) → Values w 65535 ns → numbers w (numbers_print ns ++ t) ≡ found ns t
unfolding numbers numbers_print
numbers_there zero [] t g = refl
numbers_there zero (n ∷ ns) t g = absurd (omega (arith, g.size))
numbers_there (suc w) [] t g = absurd (omega (arith, g.size))
numbers_there (suc w) (n ∷ ns) t g =
    let i : length ns ≡ w = omega (arith, g.size) in
    rw (i, append_assoc, number_reads (stop_before w) (stop_apart w) n (numbers_print ns ++ t) g.each.0, numbers_there w ns t (record { size = i; each = g.each.1 }))

numbers_back : (w : ℕ) (s ns rest : List ℕ) → numbers w s ≡ found ns rest → (s ≡ numbers_print ns ++ rest) × Values w 65535 ns
unfolding numbers numbers_print
numbers_back zero s ns rest e =
    let q = found_same e in
    subst (λ (ms : List ℕ). (s ≡ numbers_print ms ++ rest) × Values 0 65535 ms) q.0 (q.1, none 65535)
numbers_back (suc w) s ns rest e =
    let x = through (number (stop_before w) s) _ ns rest e in
    let y = through (numbers w x.left) _ ns rest x.then in
    let u = number_back (stop_before w) s x.value x.left x.first in
    let v = numbers_back w x.left y.value y.left y.first in
    let q = found_same y.then in
    let ms = y.value in
    let t = v.0 ∙ ap (λ (l : List ℕ). numbers_print ms ++ l) q.1 in
    subst (λ (ms : List ℕ). (s ≡ numbers_print ms ++ rest) × Values (suc w) 65535 ms) q.0 (
      u.0 ∙ ap (λ (l : List ℕ). decimal x.value ++ (stop_before w ∷ l)) t ∙ ap (λ (i : ℕ). decimal x.value ++ (stop_before i ∷ (numbers_print ms ++ rest))) (sym v.1.size)
          ∙ sym (append_assoc (decimal x.value) (stop_before (length ms) ∷ numbers_print ms) rest),
      more w 65535 x.value ms u.1 v.1,
    )

pub line_inverse : (k : List ℕ) (w : ℕ) → Reads (numbers_line k w) (line_print k) (Values w 65535)
unfolding numbers_line
line_inverse k w =
    said _ _ (line_print k) _ (Values w 65535)
    (next (exactly k) _ _ (λ u. numbers w) (λ u b. numbers_print b) (λ u b. Values w 65535 b) (λ b. tt) (exactly_inverse k)
    (λ u. record { reads = λ ns t g. numbers_there w ns t g; back = λ s ns rest e. numbers_back w s ns rest e }) (λ u b g. refl))
    (λ b g. g.1) (λ b g. (tt, g)) (λ b. refl)

-- values one after the other, taken apart and put together
all_take : (P : ℕ → Type 0) (i : ℕ) (vs : List ℕ) → All P vs → All P (take i vs)
all_take P zero vs a = tt
all_take P (suc i) [] a = tt
all_take P (suc i) (v ∷ vs) a = (a.0, all_take P i vs a.1)

all_drop : (P : ℕ → Type 0) (i : ℕ) (vs : List ℕ) → All P vs → All P (drop i vs)
all_drop P zero vs a = a
all_drop P (suc i) [] a = tt
all_drop P (suc i) (v ∷ vs) a = all_drop P i vs a.1

all_append : (P : ℕ → Type 0) (vs ws : List ℕ) → All P vs → All P ws → All P (vs ++ ws)
all_append P [] ws a b = b
all_append P (v ∷ vs) ws a b = (a.0, all_append P vs ws a.1 b)

module _ (w n h : ℕ) where
  first_values : (vs : List ℕ) → Values (w * suc n) h vs → Values w h (take w vs)
  first_values vs g = record { size = length-take-le w vs (omega (arith, g.size, mul-suc w n)); each = all_take _ w vs g.each }

  other_values : (vs : List ℕ) → Values (w * suc n) h vs → Values (w * n) h (drop w vs)
  other_values vs g = record { size = omega (arith, length-drop w vs, g.size, mul-suc w n); each = all_drop _ w vs g.each }

  all_values : (vs ws : List ℕ) → Values w h vs → Values (w * n) h ws → Values (w * suc n) h (vs ++ ws)
  all_values vs ws a b = record { size = omega (arith, length-append vs ws, a.size, b.size, mul-suc w n); each = all_append _ vs ws a.each b.each }

-- n lines of w values
module _ (p : Reader (List ℕ)) (pr : List ℕ → List ℕ) (w h : ℕ) (r : Reads p pr (Values w h)) where
  lines_there : (n : ℕ) (vs t : List ℕ) → Values (w * n) h vs → lines p n (lines_print pr w n vs ++ t) ≡ found vs t
  unfolding lines lines_print
  lines_there zero vs t g = ap (λ (l : List ℕ). found l t) (sym (nil vs (g.size ∙ mul-zero w)))
  lines_there (suc n) vs t g =
      rw (append_assoc, r.reads (take w vs) (lines_print pr w n (drop w vs) ++ t) (first_values w n h vs g), lines_there n (drop w vs) t (other_values w n h vs g))
      (ap (λ (l : List ℕ). found l t) (take-append-drop w vs))

  lines_back : (n : ℕ) (s vs rest : List ℕ) → lines p n s ≡ found vs rest → (s ≡ lines_print pr w n vs ++ rest) × Values (w * n) h vs
  unfolding lines lines_print
  lines_back zero s vs rest e =
      let q = found_same e in
      (q.1, subst (λ (i : ℕ). Values i h vs) (sym (mul-zero w)) (subst (Values 0 h) q.0 (none h)))
  lines_back (suc n) s vs rest e =
      let x = through (p s) _ vs rest e in
      let y = through (lines p n x.left) _ vs rest x.then in
      let u = r.back s x.value x.left x.first in
      let v = lines_back n x.left y.value y.left y.first in
      let q = found_same y.then in
      let a : take w (x.value ++ y.value) ≡ x.value = take_at x.value y.value w u.1.size in
      let b : drop w (x.value ++ y.value) ≡ y.value = drop_at x.value y.value w u.1.size in
      let t = v.0 ∙ ap (λ (l : List ℕ). lines_print pr w n y.value ++ l) q.1 in
      subst (λ (ws : List ℕ). (s ≡ lines_print pr w (suc n) ws ++ rest) × Values (w * suc n) h ws) q.0 (
        rw (a, b) (u.0 ∙ ap (λ (l : List ℕ). pr x.value ++ l) t ∙ sym (append_assoc (pr x.value) (lines_print pr w n y.value) rest)),
        all_values w n h x.value y.value u.1 v.1,
      )

  pub lines_inverse : (n : ℕ) → Reads (lines p n) (lines_print pr w n) (Values (w * n) h)
  lines_inverse n = record { reads = λ vs t g. lines_there n vs t g; back = λ s vs rest e. lines_back n s vs rest e }
