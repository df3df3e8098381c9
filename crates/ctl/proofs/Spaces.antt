-- A verdict space that holds rows of S values side by side: where each lies, and one row more.
use Rattle.lists.specs.Rows.{fill, laid, tab}
use mathlib.Core.Path.{◌≡◌, refl, sym, ap, ap₂, ◌∙◌, subst}
use Prim.Native.Nat.{ℕ, zero, suc, ◌+◌, ◌≤◌, ◌<◌}
use mathlib.Core.List.{List, [], ◌∷◌, ◌++◌, append_assoc, append-nil}
use mathlib.Core.Bool.{false}
use mathlib.Core.Logic.{⊎_elim}
use native.Mathlib.Omega.{arith}
use lib.ListN.{length, get_or, drop, length-append, length-drop, get_or-eq_default}
use lib.Seq.{take_at, drop-drop, drop-append-add}
use borrow.Author.Tests.{lt-ltb, le-ltb}
use Rattle.ctl.specs.Inside.{RowsFit, operand_row}
use Rattle.ctl.specs.Operators.{RowFine}
use Rattle.ctl.specs.Rows.{stored_rows}
use Rattle.values.specs.Limits.{most_states}
use Rattle.values.specs.Rows.{bad_row, held, row_begin, row_in, row_size, row_values, stored_row, value_at}
use Rattle.lists.specs.Entries.{All, at}
use Rattle.values.proofs.StoredRows.{stored_size, stored_valid, stored_values}
use Rattle.lists.proofs.Entries.{all_get}
use Rattle.lists.proofs.Numbers.{lt_or_le}
use Rattle.lists.proofs.Rows.{tab_at}

fine_stored : (S : ℕ) (row : List ℕ) → RowFine S row → length (stored_row row) ≡ row_size S
fine_stored S row f = stored_size row ∙ ap row_size f.size

begin_next : (S k : ℕ) → row_begin S (suc k) ≡ row_size S + row_begin S k
unfolding row_begin
begin_next S k = omega arith

begin_zero : (S : ℕ) → row_begin S 0 ≡ 0
unfolding row_begin
begin_zero S = omega arith

pub stored_length : (S : ℕ) (rows : List (List ℕ)) → All (RowFine S) rows → length (stored_rows rows) ≡ row_begin S (length rows)
unfolding stored_rows
stored_length S [] f = sym (begin_zero S)
stored_length S (row ∷ rows) f = length-append (stored_row row) (stored_rows rows) ∙ omega (arith, fine_stored S row f.0, stored_length S rows f.1, begin_next S (length rows))

pub space_none : (before : List ℕ) → fill (stored_rows []) before ≡ before
unfolding stored_rows
space_none before = refl

stored_more : (rows : List (List ℕ)) (row : List ℕ) → stored_rows (rows ++ (row ∷ [])) ≡ stored_rows rows ++ stored_row row
unfolding stored_rows
stored_more [] row = append-nil (stored_row row)
stored_more (x ∷ rows) row = ap (λ (r : List ℕ). stored_row x ++ r) (stored_more rows row) ∙ sym (append_assoc (stored_row x) (stored_rows rows) (stored_row row))

-- row k stands where it begins
bytes_at : (S : ℕ) (rows : List (List ℕ)) → All (RowFine S) rows → (rest : List ℕ) (k : ℕ) → k < length rows → row_in S (stored_rows rows ++ rest) k ≡ stored_row (get_or rows k [])
unfolding stored_rows row_in
bytes_at S [] f rest k h = absurd (omega arith)
bytes_at S (row ∷ rows) f rest zero h =
    rw (begin_zero S, append_assoc (stored_row row) (stored_rows rows) rest) (take_at (stored_row row) (stored_rows rows ++ rest) (row_size S) (fine_stored S row f.0))
bytes_at S (row ∷ rows) f rest (suc k) h =
    rw (begin_next S k, append_assoc (stored_row row) (stored_rows rows) rest, ← fine_stored S row f.0, drop-append-add (stored_row row) (stored_rows rows ++ rest) (row_begin S k), fine_stored S row f.0)
    (bytes_at S rows f.1 rest k (omega arith))

module _ (S : ℕ) (rows : List (List ℕ)) (fine : All (RowFine S) rows) (before : List ℕ) (room : row_begin S (length rows) ≤ length before) where
  pub space_length : length (fill (stored_rows rows) before) ≡ length before
  space_length = length-append (stored_rows rows) (drop (length (stored_rows rows)) before) ∙ omega (arith, length-drop (length (stored_rows rows)) before, stored_length S rows fine)

  row_in_space : (k : ℕ) → k < length rows → row_in S (fill (stored_rows rows) before) k ≡ stored_row (get_or rows k [])
  row_in_space k h = bytes_at S rows fine (drop (length (stored_rows rows)) before) k h

  fine_at : (k : ℕ) → k < length rows → RowFine S (get_or rows k [])
  fine_at k h = all_get (RowFine S) [] rows fine k h

  -- every row stands, and an operand's row is read back as it is
  pub rows_fit : S ≤ most_states → RowsFit S (length rows) (fill (stored_rows rows) before)
  rows_fit few =
      record {
        few = few;
        within = omega (arith, space_length);
        stand = λ k h. rw (row_in_space k h) (subst (λ (n : ℕ). bad_row n (stored_row (get_or rows k [])) ≡ false) (fine_at k h).size (stored_valid (get_or rows k []) (fine_at k h).small));
      }

  pub operand_in_space : (k : ℕ) → operand_row S (fill (stored_rows rows) before) (length rows) k ≡ get_or rows k []
  unfolding operand_row
  operand_in_space k =
      ⊎_elim
      (λ (h : k < length rows). rw (lt-ltb k (length rows) h, row_in_space k h) (subst (λ (n : ℕ). row_values n (stored_row (get_or rows k [])) ≡ get_or rows k []) (fine_at k h).size (stored_values (get_or rows k []))))
      (λ (h : length rows ≤ k). rw (le-ltb k (length rows) h) (sym (get_or-eq_default rows [] h)))
      (lt_or_le k (length rows))

  pub value_in_space : (k s : ℕ) → k < length rows → s < S → held S (fill (stored_rows rows) before) k s ≡ at (get_or rows k []) s
  unfolding held row_values
  value_in_space k s h l =
      let row : List ℕ = get_or rows k [] in
      let back : tab (value_at (stored_row row)) S ≡ row = subst (λ (n : ℕ). tab (value_at (stored_row row)) n ≡ row) (fine_at k h).size (stored_values row) in
      ap (λ (bytes : List ℕ). value_at bytes s) (row_in_space k h) ∙ sym (tab_at (value_at (stored_row row)) S s l) ∙ ap (λ (v : List ℕ). at v s) back

  -- one row more
  pub space_more : (row : List ℕ) → RowFine S row → laid (row_begin S (length rows)) (stored_row row) (fill (stored_rows rows) before) ≡ fill (stored_rows (rows ++ (row ∷ []))) before
  space_more row f =
      let n : ℕ = length (stored_rows rows) in
      let size : ℕ = length (stored_row row) in
      let place : row_begin S (length rows) ≡ n = sym (stored_length S rows fine) in
      let whole : length (stored_rows rows ++ stored_row row) ≡ n + size = length-append (stored_rows rows) (stored_row row) in
      rw (place, stored_more rows row)
      (ap₂ (λ (front rest : List ℕ). (front ++ stored_row row) ++ rest) (take_at (stored_rows rows) (drop n before) n refl) (drop-append-add (stored_rows rows) (drop n before) size ∙ drop-drop size n before ∙ ap (λ (k : ℕ). drop k before) (sym whole)))
