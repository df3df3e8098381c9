-- A row stored into a part of the verdict space that begins where the row does.
use mathlib.Core.Path.{◌≡◌, sym, ap, ◌∙◌}
use Prim.Native.Nat.{ℕ, ◌+◌, ◌*◌, ◌-◌, ◌≤◌}
use mathlib.Core.List.{List, [], ◌++◌, append_assoc, append-nil}
use mathlib.Core.Bool.{true}
use native.Mathlib.Omega.{arith}
use lib.ListN.{length, take, drop, drop_of_length-le, length-drop}
use lib.Seq.{take_all, drop-drop}
use lib.Dec.{leb}
use borrow.Author.Tests.{le-leb}
use Rattle.lists.specs.Rows.{fill_if, laid}
use Rattle.values.specs.Rows.{row_begin, row_size, stored_row}
use Rattle.values.proofs.StoredRows.{stored_size}

-- row i begins before the space ends
pub begins_within : (S i size n : ℕ) → size ≡ row_size S → row_begin S i + row_size S ≤ n → (i * size ≡ row_begin S i) × (i * size + row_size S ≤ n)
unfolding row_begin
begins_within S i size n e h = let q : i * size ≡ i * row_size S = ap (λ (z : ℕ). i * z) e in (q, omega arith)

pub put_part : (S i : ℕ) (row v after : List ℕ) (p : ℕ) → p ≡ row_begin S i → length row ≡ S → p + row_size S ≤ length v → after ≡ fill_if (stored_row row) (take (length v - p) (drop p v)) → take p v ++ (after ++ drop (length v - p) (drop p v)) ≡ laid (row_begin S i) (stored_row row) v
put_part S i row v after p b l h e =
    let size : length (stored_row row) ≡ row_size S = stored_size row ∙ ap row_size l in
    let whole : take (length v - p) (drop p v) ≡ drop p v = take_all (length v - p) (drop p v) (simp length-drop (omega arith)) in
    let none : drop (length v - p) (drop p v) ≡ [] = drop_of_length-le (drop p v) {i = length v - p} (simp length-drop (omega arith)) in
    let fits : leb (length (stored_row row)) (length (drop p v)) ≡ true = le-leb (length (stored_row row)) (length (drop p v)) (simp length-drop (omega arith)) in
    let stored : after ≡ stored_row row ++ drop (p + length (stored_row row)) v = e ∙ rw (whole, fits) (ap (λ (r : List ℕ). stored_row row ++ r) (drop-drop (length (stored_row row)) p v)) in
    ap (λ (r : List ℕ). take p v ++ r) (ap (λ (r : List ℕ). after ++ r) none ∙ append-nil after ∙ stored) ∙ sym (append_assoc (take p v) (stored_row row) (drop (p + length (stored_row row)) v)) ∙ ap (λ (n : ℕ). laid n (stored_row row) v) b
