-- The entries of a path, one behind the other: how many bytes they take, and what stands in the buffer after i of them.
use Prim.Native.Nat.{ℕ, zero, suc, ◌+◌, ◌-◌, ◌*◌, ◌≤◌, ◌<◌}
use mathlib.Core.Path.{◌≡◌, refl, ap, sym, ◌∙◌}
use mathlib.Core.List.{List, [], ◌∷◌, ◌++◌, append_assoc, append-nil}
use native.Mathlib.Numerals.{add-one}
use native.Mathlib.Omega.{arith}
use lib.ListN.{length, drop, length-append, length-drop}
use lib.Seq.{drop-cons}
use Rattle.lists.specs.Entries.{at}
use Rattle.values.specs.Signs.{decimal, stop_before, numbers_print}
use Rattle.values.proofs.Decimals.{decimal_short}
use Rattle.lists.specs.Rows.{Put}
use Rattle.lists.proofs.Placed.{put_then}

-- what is left from entry i on: its digits, what stands behind it, and the rest
step : (path : List ℕ) (i : ℕ) → i < length path → numbers_print (drop i path) ≡ decimal (at path i) ++ (stop_before (length path - (i + 1)) ∷ numbers_print (drop (i + 1) path))
unfolding numbers_print
step path i h =
    let rest : length (drop (i + 1) path) ≡ length path - (i + 1) = length-drop (i + 1) path in
    ap numbers_print (drop-cons path i 0 h ∙ ap (λ (k : ℕ). at path i ∷ drop k path) (sym (add-one i))) ∙ ap (λ (k : ℕ). decimal (at path i) ++ (stop_before k ∷ numbers_print (drop (i + 1) path))) rest

none_left : (path : List ℕ) (i : ℕ) → length path ≤ i → numbers_print (drop i path) ≡ []
unfolding numbers_print
none_left [] zero h = refl
none_left [] (suc i) h = refl
none_left (n ∷ path) zero h = absurd (omega arith)
none_left (n ∷ path) (suc i) h = none_left path i (omega arith)

-- the bytes of i entries are counted
pub record Counted (path : List ℕ) (i size : ℕ) : Type 0 where
  pub whole : size + length (numbers_print (drop i path)) ≡ length (numbers_print path)
  pub few : size ≤ 6 * i

pub counted_more : (path : List ℕ) (i size k : ℕ) → i < length path → Counted path i size → k ≡ length (decimal (at path i)) → Counted path (i + 1) (size + k + 1)
counted_more path i size k h c e = record {
  whole = omega (arith, c.whole, ap length (step path i h), length-append (decimal (at path i)) (stop_before (length path - (i + 1)) ∷ numbers_print (drop (i + 1) path)));
  few = omega (arith, c.few, decimal_short (at path i));
}

pub counted_all : (path : List ℕ) (i size : ℕ) → length path ≤ i → Counted path i size → size ≡ length (numbers_print path)
counted_all path i size h c = omega (arith, c.whole, ap length (none_left path i h))

pub entries_few : (path : List ℕ) → length (numbers_print path) ≤ 6 * length path
unfolding numbers_print
entries_few [] = omega arith
entries_few (n ∷ path) = omega (arith, entries_few path, decimal_short n, length-append (decimal n) (stop_before (length path) ∷ numbers_print path))

-- i entries stand in the buffer, up to a place
pub record EntriesPut (path before now : List ℕ) (to place i : ℕ) : Type 0 where
  pub bytes : List ℕ
  pub put : Put before now to place bytes
  pub whole : bytes ++ numbers_print (drop i path) ≡ numbers_print path

-- there is room for one more
pub entries_room : (path before now : List ℕ) (to place i : ℕ) → i < length path → EntriesPut path before now to place i
    → place + length (decimal (at path i)) + 1 ≤ to + length (numbers_print path)
entries_room path before now to place i h l =
    omega (arith, l.put.ends, ap length l.whole, length-append l.bytes (numbers_print (drop i path)), ap length (step path i h), length-append (decimal (at path i)) (stop_before (length path - (i + 1)) ∷ numbers_print (drop (i + 1) path)))

pub entries_more : {path before now then after : List ℕ} {to place behind next i stop : ℕ} → i < length path → EntriesPut path before now to place i
    → Put now then place behind (decimal (at path i)) → stop ≡ stop_before (length path - (i + 1)) → Put then after behind next (stop ∷ []) → EntriesPut path before after to next (i + 1)
entries_more {path} {i = i} {stop = stop} h l digits e end =
    let tail = numbers_print (drop (i + 1) path) in
    let d = decimal (at path i) in
    record {
      bytes = l.bytes ++ (d ++ (stop ∷ []));
      put = put_then l.put (put_then digits end);
      whole = append_assoc l.bytes (d ++ (stop ∷ [])) tail ∙ ap (λ (x : List ℕ). l.bytes ++ x) (append_assoc d (stop ∷ []) tail ∙ ap (λ (k : ℕ). d ++ (k ∷ tail)) e ∙ sym (step path i h)) ∙ l.whole;
    }

pub entries_all : (path before now : List ℕ) (to place i : ℕ) → length path ≤ i → EntriesPut path before now to place i → Put before now to place (numbers_print path)
entries_all path before now to place i h l =
    let e : l.bytes ≡ numbers_print path = sym (append-nil l.bytes) ∙ ap (λ (x : List ℕ). l.bytes ++ x) (sym (none_left path i h)) ∙ l.whole in
    rw e at l.put
