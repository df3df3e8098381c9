-- How long each line is, and the values of a row that was read.
use Prim.Native.Nat.{ℕ, ◌+◌, ◌-◌, ◌≤◌, ◌<◌}
use mathlib.Core.Path.{◌≡◌, refl, ap, ◌∙◌}
use mathlib.Core.List.{List, [], ◌∷◌, ◌++◌, map}
use mathlib.Core.Bool.{true, false, ◌&&◌}
use native.Mathlib.Omega.{arith}
use lib.ListN.{length, take, replicate, length-append, length-map}
use lib.Seq.{take_at}
use lib.Dec.{ltb, leb}
use borrow.Author.Tests.{lt-ltb, le-leb}
use Rattle.lists.specs.Entries.{at}
use Rattle.lists.specs.Rows.{tab}
use Rattle.lists.proofs.Rows.{length_tab, tab_at}
use Rattle.lists.proofs.Tests.{and_both}
use Rattle.values.specs.Limits.{most_states}
use Rattle.values.specs.Rows.{no_row, row_values, value_at}
use Rattle.values.specs.Values.{top}
use Rattle.values.proofs.StoredRows.{row_parts, row_values_small}
use Rattle.values.specs.Signs.{decimal, line_feed, numbers_print}
use Rattle.answer.specs.Lines.{letter_of, answer_line, row_line, model_line, path_line}

pub answer_size : (n : ℕ) → length (answer_line n) ≡ length (decimal n) + 8
unfolding answer_line
answer_size n = omega (arith, length-append (decimal n) (line_feed ∷ []))

pub row_size_lem : (S : ℕ) (stored : List ℕ) → length (row_line (row_values S stored)) ≡ S + 5
unfolding row_line row_values
row_size_lem S stored =
    let values = tab (value_at stored) S in
    omega (arith, length-append (map letter_of values) (line_feed ∷ []), length-map values letter_of, length_tab (value_at stored) S)

pub model_size : (v : ℕ) → length (model_line v) ≡ 8
unfolding model_line
model_size v = omega arith

-- the row in the front of what was read: so many values, each at most 2
module _ (S : ℕ) (stored values : List ℕ) (valid : no_row S stored ≡ false) (e : values ≡ row_values S stored ++ replicate (most_states - S) 0) where
  pub row_few : S ≤ most_states
  row_few = (row_parts S stored valid).0

  pub row_front : take S values ≡ row_values S stored
  unfolding row_values
  row_front = ap (take S) e ∙ take_at (row_values S stored) (replicate (most_states - S) 0) S (length_tab (value_at stored) S)

  pub row_front_small : (i : ℕ) → i < length (take S values) → at (take S values) i ≤ top
  unfolding row_values
  row_front_small i h =
      let few : i < S = omega (arith, rw row_front at h, length_tab (value_at stored) S) in
      rw (row_front, tab_at (value_at stored) S i few) (row_values_small S stored (row_parts S stored valid).1 i)

pub path_size : (path : List ℕ) → length (path_line path) ≡ length (numbers_print path) + 5
unfolding path_line
path_size path = omega arith

-- whether a list has a line
module _ (path : List ℕ) where
  pub path_empty : length path ≡ 0 → (ltb 0 (length path) && leb (length path) most_states) ≡ false
  path_empty e = rw e refl

  pub path_right : 0 < length path → length path ≤ most_states → (ltb 0 (length path) && leb (length path) most_states) ≡ true
  path_right h k = and_both _ _ (lt-ltb 0 (length path) h) (le-leb (length path) most_states k)
