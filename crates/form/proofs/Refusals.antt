-- Each reader breaks off with 19 or with its count's number, so the form with no other.
use Prim.Native.Nat.{ℕ, zero, suc, ◌*◌, ◌+◌}
use mathlib.Core.List.{List, [], ◌∷◌}
use mathlib.Core.Bool.{Bool, true, false, cond, ◌&&◌}
use lib.ListN.{length}
use lib.Dec.{ltb, leb, eqb}
use Rattle.values.specs.Limits.{most_states, most_atoms, most_transitions, most_nodes}
use Rattle.values.specs.Signs.{digits, letters, line_feed, stop_before}
use Rattle.form.specs.Readers.{Reading, Reader, on, exactly, place_of, may_grow, number_from, number, symbol, symbols, numbers, within, count_line, row_line, numbers_line, lines, end}
use Rattle.form.specs.Readers.Reading.{found, ends, refused}
use Rattle.form.specs.Form.{listed, model_text, key_states, key_atoms, key_init, key_label, key_edges, key_edge, key_nodes, key_node, bits}

-- a refusal has P
abbrev pub Only : {A : Type 0} → (ℕ → Type 0) → Reading A → Type 0
Only P (found a s) = Unit {0}
Only P ends = Unit {0}
Only P (refused n) = P n

module _ (P : ℕ → Type 0) (form : P 19) where
  then : {A B : Type 0} (o : Reading A) (k : A → Reader B) → Only P o → ((a : A) (s : List ℕ) → Only P (k a s)) → Only P (on o k)
  then (found a s) k h next = next a s
  then ends k h next = tt
  then (refused n) k h next = h

  either : {A : Type 0} (x : Bool) (o q : Reading A) → Only P o → Only P q → Only P (cond x o q)
  either true o q h k = h
  either false o q h k = k

  test : {A : Type 0} (x : Bool) (o : Reading A) → Only P o → Only P (cond x o (refused 19))
  test x o h = either x o (refused 19) h form

  exactly_only : (k s : List ℕ) → Only P (exactly k s)
  unfolding exactly
  exactly_only [] s = tt
  exactly_only (c ∷ k) [] = tt
  exactly_only (c ∷ k) (d ∷ s) = test (eqb d c) (exactly k s) (exactly_only k s)

  from_only : (stop : ℕ) (s : List ℕ) (n : ℕ) → Only P (number_from stop n s)
  unfolding number_from
  from_only stop [] n = tt
  from_only stop (c ∷ s) n =
      either (eqb c stop) (found n s) _ tt (test (may_grow n (place_of digits c)) (number_from stop (n * 10 + place_of digits c) s) (from_only stop s (n * 10 + place_of digits c)))

  number_only : (stop : ℕ) (s : List ℕ) → Only P (number stop s)
  unfolding number
  number_only stop [] = tt
  number_only stop (c ∷ s) = test (ltb (place_of digits c) 10) (number_from stop (place_of digits c) s) (from_only stop s (place_of digits c))

  symbols_only : (signs : List ℕ) (n : ℕ) (s : List ℕ) → Only P (symbols signs n s)
  unfolding symbols symbol
  symbols_only signs zero s = tt
  symbols_only signs (suc n) [] = tt
  symbols_only signs (suc n) (c ∷ s) =
      then (symbol signs (c ∷ s)) _ (test (ltb (place_of signs c) (length signs)) (found (place_of signs c) s) tt) (λ v t. then (symbols signs n t) _ (symbols_only signs n t) (λ vs u. tt))

  numbers_only : (w : ℕ) (s : List ℕ) → Only P (numbers w s)
  unfolding numbers
  numbers_only zero s = tt
  numbers_only (suc w) s = then (number (stop_before w) s) _ (number_only (stop_before w) s) (λ n t. then (numbers w t) _ (numbers_only w t) (λ ns u. tt))

  count_only : (k : List ℕ) (least most r : ℕ) → P r → (s : List ℕ) → Only P (count_line k least most r s)
  unfolding count_line within
  count_only k least most r h s =
      then (exactly k s) _ (exactly_only k s) (λ u t. then (number line_feed t) _ (number_only line_feed t) (λ n v. either (leb least n && leb n most) (found n v) (refused r) tt h))

  row_only : (k signs : List ℕ) (n : ℕ) (s : List ℕ) → Only P (row_line k signs n s)
  unfolding row_line
  row_only k signs n s =
      then (exactly k s) _ (exactly_only k s)
      (λ u t. then (symbols signs n t) _ (symbols_only signs n t) (λ vs v. then (exactly (line_feed ∷ []) v) _ (exactly_only (line_feed ∷ []) v) (λ w x. tt)))

  line_only : (k : List ℕ) (w : ℕ) (s : List ℕ) → Only P (numbers_line k w s)
  unfolding numbers_line
  line_only k w s = then (exactly k s) _ (exactly_only k s) (λ u t. numbers_only w t)

  lines_only : (p : Reader (List ℕ)) → ((s : List ℕ) → Only P (p s)) → (n : ℕ) (s : List ℕ) → Only P (lines p n s)
  unfolding lines
  lines_only p h zero s = tt
  lines_only p h (suc n) s = then (p s) _ (h s) (λ vs t. then (lines p n t) _ (lines_only p h n t) (λ ws u. tt))

  end_only : (s : List ℕ) → Only P (end s)
  unfolding end
  end_only [] = tt
  end_only (c ∷ s) = form

  listed_only : (many one : List ℕ) (w most r : ℕ) → P r → (s : List ℕ) → Only P (listed many one w most r s)
  unfolding listed
  listed_only many one w most r h s = then (count_line many 1 most r s) _ (count_only many 1 most r h s) (λ n t. lines_only (numbers_line one w) (line_only one w) n t)

  pub model_only : P 1 → P 2 → P 6 → P 10 → (s : List ℕ) → Only P (model_text s)
  unfolding model_text
  model_only p q r t s =
      then (count_line key_states 1 most_states 1 s) _ (count_only key_states 1 most_states 1 p s)
      (λ S u. then (count_line key_atoms 0 most_atoms 2 u) _ (count_only key_atoms 0 most_atoms 2 q u)
      (λ A v. then (row_line key_init bits S v) _ (row_only key_init bits S v)
      (λ I w. then (lines (row_line key_label letters A) S w) _ (lines_only (row_line key_label letters A) (row_only key_label letters A) S w)
      (λ L x. then (listed key_edges key_edge 2 most_transitions 6 x) _ (listed_only key_edges key_edge 2 most_transitions 6 r x)
      (λ es y. then (listed key_nodes key_node 3 most_nodes 10 y) _ (listed_only key_nodes key_node 3 most_nodes 10 t y) (λ ns z. then (end z) _ (end_only z) (λ d f. tt)))))))
