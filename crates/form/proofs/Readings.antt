-- What a reading that found something came through, and what a row of symbols holds.
use Prim.Native.Nat.{ℕ, zero, suc, ◌+◌, ◌≤◌, ◌<◌}
use mathlib.Core.Path.{◌≡◌, refl, ap, sym, ◌∙◌}
use mathlib.Core.List.{List, [], ◌∷◌, map}
use mathlib.Core.Bool.{Bool, true, false}
use native.Mathlib.Omega.{arith}
use lib.ListN.{length, take, drop, length-drop}
use lib.Dec.{ltb}
use Rattle.values.specs.Signs.{line_feed}
use Rattle.form.specs.Readers.{Reading, Reader, on, give, exactly, place_of, symbol, symbols, row_line}
use Rattle.form.specs.Readers.Reading.{found, ends, refused}

pub found_same : {A : Type 0} {a b : A} {s t : List ℕ} → found a s ≡ found b t → (a ≡ b) × (s ≡ t)
found_same e = (cc, cc)

pub ends_found : {A : Type 0} {b : A} {t : List ℕ} → ◌≡◌ {A = Reading A} ends (found b t) → ⊥
ends_found e = let z : ◌≡◌ {A = ℕ} 0 1 = cc in omega arith

pub refused_found : {A : Type 0} {n : ℕ} {b : A} {t : List ℕ} → ◌≡◌ {A = Reading A} (refused n) (found b t) → ⊥
refused_found e = let z : ◌≡◌ {A = ℕ} 0 1 = cc in omega arith

-- a reading in two steps that found something: what the first found, and the second after it
pub record Through {A B : Type 0} (o : Reading A) (k : A → Reader B) (b : B) (rest : List ℕ) : Type 0 where
  pub value : A
  pub left : List ℕ
  pub first : o ≡ found value left
  pub then : k value left ≡ found b rest

pub through : {A B : Type 0} (o : Reading A) (k : A → Reader B) (b : B) (rest : List ℕ) → on o k ≡ found b rest → Through o k b rest
through (found a s) k b rest e = record { value = a; left = s; first = refl; then = e }
through ends k b rest e = absurd (ends_found e)
through (refused n) k b rest e = absurd (refused_found e)

-- bytes that were read exactly leave the text behind them
exactly_some : (k : ℕ) (ks s rest : List ℕ) (u : Unit {0}) → exactly (k ∷ ks) s ≡ found u rest → 0 < length s
unfolding exactly
exactly_some k ks [] rest u e = absurd (ends_found e)
exactly_some k ks (c ∷ s) rest u e = omega arith

-- n symbols: their places among the signs, what is left, and how many
pub record SymbolsFound (signs : List ℕ) (n : ℕ) (s vs rest : List ℕ) : Type 0 where
  pub row : vs ≡ map (place_of signs) (take n s)
  pub left : rest ≡ drop n s
  pub size : length vs ≡ n

pub symbols_found : (signs : List ℕ) (n : ℕ) (s vs rest : List ℕ) → symbols signs n s ≡ found vs rest → SymbolsFound signs n s vs rest
unfolding symbols symbol
symbols_found signs zero s vs rest e =
    let q = found_same e in
    record { row = sym q.0; left = sym q.1; size = ap length (sym q.0) }
symbols_found signs (suc n) [] vs rest e = absurd (ends_found e)
symbols_found signs (suc n) (c ∷ s) vs rest e = go (ltb (place_of signs c) (length signs)) refl (λ ws left f. symbols_found signs n s ws left f)
  where
    go : (t : Bool) → ltb (place_of signs c) (length signs) ≡ t → ((ws left : List ℕ) → symbols signs n s ≡ found ws left → SymbolsFound signs n s ws left) → SymbolsFound signs (suc n) (c ∷ s) vs rest
    go true f later =
        let x = through (symbols signs n s) (λ (ws : List ℕ). give (place_of signs c ∷ ws)) vs rest (simp (symbols, symbol, f) at e) in
        let y = later x.value x.left x.first in
        let q = found_same x.then in
        record {
          row = sym q.0 ∙ ap (λ (ws : List ℕ). place_of signs c ∷ ws) y.row;
          left = sym q.1 ∙ y.left;
          size = ap length (sym q.0) ∙ ap suc y.size;
        }
    go false f later = absurd (refused_found (simp (symbols, symbol, f) at e))

pub row_size_lem : (k signs : List ℕ) (n : ℕ) (s vs rest : List ℕ) → row_line k signs n s ≡ found vs rest → length vs ≡ n
unfolding row_line
row_size_lem k signs n s vs rest e =
    let x = through (exactly k s) _ vs rest e in
    let y = through (symbols signs n x.left) _ vs rest x.then in
    let z = through (exactly (line_feed ∷ []) y.left) _ vs rest y.then in
    ap length (sym (found_same z.then).0) ∙ (symbols_found signs n x.left y.value y.left y.first).size

-- a row whose line feed was read lies within the text
pub row_fits : (signs : List ℕ) (n from : ℕ) (text vs rest left : List ℕ) (k : ℕ) (ks : List ℕ) (u : Unit {0})
    → symbols signs n (drop from text) ≡ found vs rest → exactly (k ∷ ks) rest ≡ found u left → from + n ≤ length text
row_fits signs n from text vs rest left k ks u e f =
    let q = (symbols_found signs n (drop from text) vs rest e).left in
    let h = exactly_some k ks rest left u f in
    omega (arith, h, ap length q, length-drop n (drop from text), length-drop from text)
