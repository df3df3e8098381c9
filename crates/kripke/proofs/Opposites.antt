-- The row "not" of a row: what `opposite_row` leaves in the space, and what stands in such a row.
use mathlib.Core.Path.{◌≡◌, refl, sym, ap, ap₂, ◌∙◌, subst}
use Prim.Native.Nat.{ℕ, ◌≤◌, ◌<◌}
use mathlib.Core.List.{List}
use mathlib.Core.Bool.{Bool, true, false, cond, not}
use mathlib.Core.Logic.{⊎_elim}
use native.Mathlib.Omega.{arith}
use lib.ListN.{length, take, get_or-eq_default}
use lib.Dec.{leb}
use borrow.Author.Tests.{le-leb, lt-leb}
use Rattle.lists.specs.Entries.{at}
use Rattle.lists.specs.Rows.{Filled, fill}
use Rattle.lists.proofs.Numbers.{lt_or_le}
use Rattle.lists.proofs.Rows.{filled_front, length_tab, tab_at, tab_same}
use Rattle.lists.proofs.Tests.{and_fails, and_holds}
use Rattle.values.specs.Answers.{RowStored}
use Rattle.values.specs.Limits.{most_states}
use Rattle.values.specs.Rows.{bad_row, no_row, row_size, row_values, stored_row, value_at}
use Rattle.values.specs.Values.{neg, top}
use Rattle.values.specs.declared.rows.Row.{Row}
use Rattle.values.specs.Inside.{RowTaken}
use Rattle.values.proofs.OneAnswer.{equation_one}
use Rattle.values.proofs.StoredRows.{row_not_read, stored_size, stored_valid, stored_values, values_at}
use Rattle.kripke.specs.Answers.{OppositeStored, opposite_row}
use Rattle.kripke.specs.Until.{opposite}

module _ (S : ℕ) (row : List ℕ) where
  opposite_length : length (opposite S row) ≡ S
  unfolding opposite
  opposite_length = length_tab _ S

  opposite_here : (s : ℕ) → s < S → at (opposite S row) s ≡ neg (at row s)
  unfolding opposite
  opposite_here s h = tab_at _ S s h

  opposite_small : (s : ℕ) → at (opposite S row) s ≤ top
  opposite_small s = ⊎_elim (λ (h : s < S). rw (opposite_here s h) (omega arith)) past (lt_or_le s S)
    where
      past : S ≤ s → at (opposite S row) s ≤ top
      past h = let l : length (opposite S row) ≤ s = omega (arith, opposite_length) in rw (get_or-eq_default (opposite S row) 0 l) (omega arith)

-- it is a row of its size, with "not" of the value at each state
module _ (S : ℕ) (stored : List ℕ) where
  pub opposite_size : length (opposite_row S stored) ≡ row_size S
  unfolding opposite_row
  opposite_size = stored_size (opposite S (row_values S stored)) ∙ ap row_size (opposite_length S (row_values S stored))

  pub opposite_valid : bad_row S (opposite_row S stored) ≡ false
  unfolding opposite_row
  opposite_valid = subst (λ (n : ℕ). bad_row n (opposite_row S stored) ≡ false) (opposite_length S (row_values S stored)) (stored_valid (opposite S (row_values S stored)) (opposite_small S (row_values S stored)))

  pub opposite_values : row_values S (opposite_row S stored) ≡ opposite S (row_values S stored)
  unfolding opposite_row
  opposite_values = subst (λ (n : ℕ). row_values n (opposite_row S stored) ≡ opposite S (row_values S stored)) (opposite_length S (row_values S stored)) (stored_values (opposite S (row_values S stored)))

  pub opposite_at : (s : ℕ) → s < S → value_at (opposite_row S stored) s ≡ neg (value_at stored s)
  opposite_at s h = sym (values_at S (opposite_row S stored) s h) ∙ ap (λ (vs : List ℕ). at vs s) opposite_values ∙ opposite_here S (row_values S stored) s h ∙ ap neg (values_at S stored s h)

-- what `opposite_row` was lent: no row, or a row that was read
pub opposite_refused : (S : ℕ) (stored before : List ℕ) → no_row S stored ≡ true → OppositeStored S stored before before false
opposite_refused S stored before e =
    record {
      is = ⊎_elim
          (λ (many : most_states < S). sym (and_fails _ _ (lt-leb S most_states many)))
          (λ (few : S ≤ most_states). sym (and_holds _ _ (le-leb S most_states few) ∙ and_fails _ _ (ap not (row_not_read S stored e few))))
          (lt_or_le most_states S);
      space = refl;
    }

module _ (S : ℕ) (stored : List ℕ) (r : Row) (k : RowTaken S stored r.values) where
  denied_is : (d denied : List ℕ) → Filled (λ (s : ℕ). neg (at r.values s)) S d denied → stored_row (take S denied) ≡ opposite_row S stored
  unfolding opposite_row opposite
  denied_is d denied f =
      ap stored_row
      (filled_front _ S d denied f
      ∙ tab_same (λ (s : ℕ). neg (at r.values s)) (λ (s : ℕ). neg (at (row_values S stored) s)) S (λ s h. ap neg (k.here s h ∙ sym (values_at S stored s h))))

  pub opposite_stored : (d denied before after : List ℕ) (ok : Bool) → Filled (λ (s : ℕ). neg (at r.values s)) S d denied → RowStored (take S denied) before after ok → OppositeStored S stored before after ok
  opposite_stored d denied before after ok f w =
      let is : stored_row (take S denied) ≡ opposite_row S stored = denied_is d denied f in
      let size : length (stored_row (take S denied)) ≡ row_size S = ap length is ∙ opposite_size S stored in
      record {
        is = w.answer ∙ ap (λ (n : ℕ). leb n (length before)) size ∙ sym (and_holds (not (bad_row S stored)) (leb (row_size S) (length before)) (ap not k.fine)) ∙ sym (and_holds (leb S most_states) _ (le-leb S most_states k.few));
        space = w.space ∙ ap₂ (λ (b : Bool) (xs : List ℕ). cond b (fill xs before) before) (sym w.answer) is;
      }

-- any two answers that it may give coincide, and so does what it leaves
pub opposite_one : (S : ℕ) (stored before after after' : List ℕ) (r r' : Bool) → OppositeStored S stored before after r → OppositeStored S stored before after' r' → (r ≡ r') × (after ≡ after')
opposite_one S stored before after after' r r' p p' =
    let e : r ≡ r' = equation_one _ r r' p.is p'.is in
    (e, p.space ∙ ap (λ (b : Bool). cond b (fill (opposite_row S stored) before) before) e ∙ sym p'.space)
