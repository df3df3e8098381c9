-- Reading an operand's row out of the verdict space.
use Rattle.std.specs.Prelude.{Option, Some, None, is_some}
use mathlib.Core.Path.{◌≡◌, refl, sym, ap, ◌∙◌, subst}
use Prim.Native.Nat.{ℕ, zero, suc, ◌+◌, ◌*◌, ◌-◌, ◌≤◌, ◌<◌}
use mathlib.Core.List.{List, [], ◌∷◌, ◌++◌}
use mathlib.Core.Bool.{true, true≢false}
use native.Mathlib.Omega.{arith}
use native.Mathlib.Nat.{mul-le-mul_right}
use lib.ListN.{take, drop, replicate}
use borrow.Author.Tests.{lt-ltb, le-ltb}
use Rattle.ctl.specs.Inside.{OperandRead, RowsFit, operand_row}
use Rattle.values.specs.Answers.{RowRead}
use Rattle.values.specs.Limits.{most_states}
use Rattle.values.specs.Rows.{bad_row, row_begin, row_in, row_size, row_values, value_at}
use Rattle.values.specs.Values.{top}
use Rattle.lists.specs.Entries.{at}
use Rattle.values.proofs.StoredRows.{row_some, row_values_small}
use Rattle.lists.proofs.Entries.{same_at}
use Rattle.lists.proofs.Rows.{tab_at}
use Rattle.values.specs.declared.rows.Row.{Row}

-- zeros behind a row change no value
pub behind_zeros : (xs : List ℕ) (n s : ℕ) → at (xs ++ replicate n 0) s ≡ at xs s
behind_zeros [] n s = same_at 0 n s
behind_zeros (x ∷ xs) n zero = refl
behind_zeros (x ∷ xs) n (suc s) = behind_zeros xs n s

-- what is no earlier node has no row
pub operand_none : (S : ℕ) (space : List ℕ) (i k : ℕ) → i ≤ k → OperandRead S space i k (replicate most_states 0)
unfolding operand_row
operand_none S space i k h s = same_at 0 most_states s ∙ rw (le-ltb k i h)

pub operand_row_lem : (S : ℕ) (space : List ℕ) (i k : ℕ) → RowsFit S i space → k < i → (r : Row) (bytes : List ℕ) → bytes ≡ row_in S space k → RowRead S bytes (Some r) → OperandRead S space i k r.values
unfolding operand_row
operand_row_lem S space i k fit h r bytes b e s = ap (λ (x : List ℕ). at x s) e.1 ∙ behind_zeros (row_values S bytes) (most_states - S) s ∙ ap (λ (x : List ℕ). at (row_values S x) s) b ∙ rw (lt-ltb k i h)

-- there is one
pub operand_there : (S : ℕ) (space : List ℕ) (i k : ℕ) → RowsFit S i space → k < i → (o : Option Row) (bytes : List ℕ) → bytes ≡ row_in S space k → RowRead S bytes o → is_some o ≡ true
operand_there S space i k fit h (Some r) bytes b e = refl
operand_there S space i k fit h None bytes b e = absurd (true≢false (sym e ∙ row_some S bytes fit.few (ap (bad_row S) b ∙ fit.stand k h)))

-- the values of an earlier node's row are at most 2
pub operand_small : (S : ℕ) (space : List ℕ) (i k : ℕ) → RowsFit S i space → k < i → (values : List ℕ) → OperandRead S space i k values → (s : ℕ) → s < S → at values s ≤ top
unfolding operand_row row_values
operand_small S space i k fit h values read s l =
    let here : at values s ≡ value_at (row_in S space k) s = read s ∙ rw (lt-ltb k i h) (tab_at (value_at (row_in S space k)) S s l) in
    omega (arith, here, row_values_small S (row_in S space k) (fit.stand k h) s)

-- the part that is lent holds the row's bytes
pub operand_bytes : (S : ℕ) (space : List ℕ) (k size : ℕ) → size ≡ row_size S → take (k * size + size - k * size) (drop (k * size) space) ≡ row_in S space k
unfolding row_in row_begin
operand_bytes S space k size e =
    let q : k * size + size - k * size ≡ size = omega arith in
    ap (λ (n : ℕ). take n (drop (k * size) space)) q ∙ ap (λ (n : ℕ). take n (drop (k * n) space)) e

-- rows before i end before row i begins
pub operand_ends : (S k i size : ℕ) → size ≡ row_size S → k < i → k * size + size ≤ row_begin S i
unfolding row_begin
operand_ends S k i size e h = subst (λ (n : ℕ). k * size + size ≤ i * n) e (omega (arith, mul-le-mul_right size h))
