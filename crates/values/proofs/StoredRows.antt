-- Stored rows: what `read_row` answers for what is no row and for what is one.
use mathlib.Core.Path.{◌≡◌, refl, sym, ap, ◌∙◌}
use Prim.Native.Nat.{ℕ, ◌-◌, ◌≤◌, ◌<◌}
use mathlib.Core.List.{List, ◌++◌}
use mathlib.Core.Bool.{true, false, not, ◌&&◌}
use mathlib.Core.Logic.{⊎_elim}
use native.Mathlib.Omega.{arith}
use native.Mathlib.Nat.{mul-le-mul}
use lib.ListN.{length, replicate, length-replicate, get_or-eq_default}
use lib.Dec.{eqb, ltb, leb}
use borrow.Author.Tests.{lt-ltb, lt-leb, le-ltb, le-leb, eq-eqb, ltb-false, eqb-true, not-false}
use Rattle.values.specs.Limits.{most_states, most_nodes}
use Rattle.values.specs.Rows.{bad_row, no_row, most_verdicts, row_begin, row_size, row_values, some_above, stored_row, value_at}
use Rattle.values.specs.Values.{top}
use Rattle.lists.specs.Entries.{at}
use Rattle.values.specs.Inside.{RowTaken}
use Rattle.lists.specs.Rows.{Filled, tab}
use Rattle.lists.proofs.Numbers.{lt_or_le}
use Rattle.lists.proofs.Rows.{drop_replicate, filled_at, filled_length, tab_at, tab_own}
use Rattle.lists.proofs.Search.{any_never, any_none, any_same}
use Rattle.lists.proofs.Tests.{and_fails, or_fails, or_left, or_right, and_both, and_holds, or_neither, or_none}

-- as many bytes as states at the least
pub row_bytes : (S : ℕ) (stored : List ℕ) → bad_row S stored ≡ false → S ≤ length stored
unfolding bad_row row_size
row_bytes S stored e = omega (arith, eqb-true (length stored) S (not-false _ (or_neither _ _ e).0))

pub row_many : (S : ℕ) (stored : List ℕ) → most_states < S → no_row S stored ≡ true
unfolding no_row
row_many S stored l = or_left _ _ (lt-ltb most_states S l)

pub row_bad : (S : ℕ) (stored : List ℕ) → bad_row S stored ≡ true → no_row S stored ≡ true
unfolding no_row
row_bad S stored e = or_right (ltb most_states S) _ e

pub row_some : (S : ℕ) (stored : List ℕ) → S ≤ most_states → bad_row S stored ≡ false → no_row S stored ≡ false
unfolding no_row
row_some S stored few fine = or_none _ _ (le-ltb most_states S few) fine

pub row_parts : (S : ℕ) (stored : List ℕ) → no_row S stored ≡ false → (S ≤ most_states) × (bad_row S stored ≡ false)
unfolding no_row
row_parts S stored e = let p = or_neither (ltb most_states S) (bad_row S stored) e in (ltb-false most_states S p.0, p.1)

pub row_not_read : (S : ℕ) (stored : List ℕ) → no_row S stored ≡ true → S ≤ most_states → bad_row S stored ≡ true
unfolding no_row
row_not_read S stored e few = sym (or_fails (ltb most_states S) _ (le-ltb most_states S few)) ∙ e

pub row_filled : (S : ℕ) (stored values : List ℕ) → Filled (value_at stored) S (replicate most_states 0) values → values ≡ row_values S stored ++ replicate (most_states - S) 0
unfolding row_values
row_filled S stored values w = w ∙ ap (λ (rest : List ℕ). tab (value_at stored) S ++ rest) (drop_replicate S most_states 0)

-- what a caller has of a row that is one
pub row_read_lem : (S : ℕ) (stored values : List ℕ) → no_row S stored ≡ false → values ≡ row_values S stored ++ replicate (most_states - S) 0 → RowTaken S stored values
unfolding row_values
row_read_lem S stored values some e =
    let p = row_parts S stored some in
    let filled : Filled (value_at stored) S (replicate most_states 0) values = e ∙ ap (λ (rest : List ℕ). tab (value_at stored) S ++ rest) (sym (drop_replicate S most_states 0)) in
    record {
      few = p.0;
      fine = p.1;
      long = filled_length (value_at stored) S (replicate most_states 0) values filled (rw length-replicate p.0) ∙ length-replicate {A = ℕ} most_states 0;
      here = filled_at (value_at stored) S (replicate most_states 0) values filled;
    }

-- the same by the two tests
pub row_valid : (S : ℕ) (stored : List ℕ) → no_row S stored ≡ false → (leb S most_states && not (bad_row S stored)) ≡ true
row_valid S stored e = let p = row_parts S stored e in and_both _ _ (le-leb S most_states p.0) (ap not p.1)

pub row_invalid : (S : ℕ) (stored : List ℕ) → no_row S stored ≡ true → (leb S most_states && not (bad_row S stored)) ≡ false
row_invalid S stored e =
    ⊎_elim
    (λ (many : most_states < S). and_fails _ _ (lt-leb S most_states many))
    (λ (few : S ≤ most_states). and_holds _ _ (le-leb S most_states few) ∙ ap not (row_not_read S stored e few))
    (lt_or_le most_states S)

-- no entry above v: each is at most v, and past the end it is 0
pub none_above : (xs : List ℕ) (v : ℕ) → some_above xs v ≡ false → (i : ℕ) → at xs i ≤ v
unfolding some_above
none_above xs v e i =
    ⊎_elim
    (λ (h : i < length xs). ltb-false v (at xs i) (any_none (λ (j : ℕ). ltb v (at xs j)) (length xs) e i h))
    (λ (h : length xs ≤ i). rw (get_or-eq_default xs 0 h) (omega arith))
    (lt_or_le i (length xs))

pub above_none : (xs : List ℕ) (v : ℕ) → ((i : ℕ) → at xs i ≤ v) → some_above xs v ≡ false
unfolding some_above
above_none xs v h = any_same (λ (i : ℕ). ltb v (at xs i)) (λ (i : ℕ). false) (length xs) (λ i l. le-ltb v (at xs i) (h i)) ∙ any_never (length xs)

-- the values of a row that is one are at most 2
pub row_values_small : (S : ℕ) (stored : List ℕ) → bad_row S stored ≡ false → (s : ℕ) → value_at stored s ≤ top
unfolding bad_row value_at
row_values_small S stored e s = none_above stored top (or_neither (not (eqb (length stored) (row_size S))) (some_above stored top) e).1 s

-- a row takes no more bytes than it has states
pub row_size_within : (S : ℕ) → row_size S ≤ S
unfolding row_size
row_size_within S = omega arith

-- more states take no fewer bytes, so that no verdict space within the limits is larger than the largest
row_size_grows : (S T : ℕ) → S ≤ T → row_size S ≤ row_size T
unfolding row_size
row_size_grows S T h = h

pub space_within : (S n : ℕ) → S ≤ most_states → n ≤ most_nodes → row_begin S n ≤ most_verdicts
unfolding row_begin most_verdicts
space_within S n s h = mul-le-mul h (row_size_grows S most_states s)

-- what is stored of a row of values up to 2 is a row, takes its size, and gives the values back
pub stored_size : (row : List ℕ) → length (stored_row row) ≡ row_size (length row)
unfolding stored_row row_size
stored_size row = refl

pub stored_valid : (row : List ℕ) → ((s : ℕ) → at row s ≤ top) → bad_row (length row) (stored_row row) ≡ false
unfolding bad_row stored_row row_size
stored_valid row h = or_none (not (eqb (length row) (length row))) (some_above row top) (ap not (eq-eqb (length row) (length row) refl)) (above_none row top h)

pub stored_values : (row : List ℕ) → row_values (length row) (stored_row row) ≡ row
unfolding row_values stored_row value_at
stored_values row = tab_own row

-- the value at a state, of the values and of what is stored
pub values_at : (S : ℕ) (stored : List ℕ) (s : ℕ) → s < S → at (row_values S stored) s ≡ value_at stored s
unfolding row_values
values_at S stored s h = tab_at (value_at stored) S s h
