-- The lines that are due have at most `most_line` bytes, those of a path at most `most_path_line`, and a line of each kind has just so many.
use Prim.Native.Nat.{ℕ, zero, suc, ◌*◌, ◌≤◌}
use mathlib.Core.Path.{◌≡◌, refl, ◌∙◌}
use mathlib.Core.List.{List, ◌∷◌}
use mathlib.Core.Bool.{Bool, true, false, ◌&&◌}
use native.Mathlib.Omega.{arith}
use lib.ListN.{length, replicate, length-append}
use lib.Dec.{ltb, leb}
use borrow.Author.Tests.{leb-true}
use Rattle.lists.proofs.Tests.{and_parts}
use Rattle.values.specs.Limits.{most_states}
use Rattle.values.specs.Rows.{row_values}
use Rattle.values.specs.Signs.{decimal, stop_before, numbers_print}
use Rattle.values.proofs.Decimals.{decimal_short}
use Rattle.answer.specs.Answers.{line_if, number_due, row_due, model_due, path_due}
use Rattle.answer.specs.Answers.Due.{line}
use Rattle.answer.specs.Lines.{answer_line, row_line, model_line, path_line, most_line, most_path_line}
use Rattle.answer.proofs.Digits.{size_five}
use Rattle.answer.proofs.Entries.{entries_few}
use Rattle.answer.proofs.Sizes.{answer_size, row_size_lem, model_size, path_size}

-- a line that is due is short where each that may be due is
within : {n : ℕ} (valid : Bool) (bytes due : List ℕ) → (valid ≡ true → length bytes ≤ n) → line_if valid bytes ≡ line due → length due ≤ n
within true bytes due h e = let same : bytes ≡ due = cc in rw same at (h refl)
within false bytes due h e = let z : ◌≡◌ {A = ℕ} 0 1 = cc in omega arith

pub number_longest : (n : ℕ) (bytes : List ℕ) → number_due n ≡ line bytes → length bytes ≤ most_line
number_longest n bytes = within true (answer_line n) bytes (λ _. omega (arith, answer_size n, decimal_short n))

pub row_longest : (S : ℕ) (stored bytes : List ℕ) → row_due S stored ≡ line bytes → length bytes ≤ most_line
row_longest S stored bytes = within (leb S most_states && _) (row_line (row_values S stored)) bytes (λ e. omega (arith, row_size_lem S stored, leb-true S most_states (and_parts (leb S most_states) _ e).0))

pub model_longest : (v : ℕ) (bytes : List ℕ) → model_due v ≡ line bytes → length bytes ≤ most_line
model_longest v bytes = within (leb v _) (model_line v) bytes (λ _. omega (arith, model_size v))

pub path_longest : (path bytes : List ℕ) → path_due path ≡ line bytes → length bytes ≤ most_path_line
path_longest path bytes =
    let some = ltb 0 (length path) in
    within (some && _) (path_line path) bytes (λ e. omega (arith, path_size path, entries_few path, leb-true (length path) most_states (and_parts some _ e).1))

-- the line of a row of the most states is as long as that
pub row_reaches : (stored : List ℕ) → length (row_line (row_values most_states stored)) ≡ most_line
row_reaches stored = row_size_lem most_states stored

-- and so is that of the most states of five digits each
pub path_reaches : (n : ℕ) → 10000 ≤ n → n ≤ 65535 → length (path_line (replicate most_states n)) ≡ most_path_line
unfolding numbers_print
path_reaches n h l = path_size (replicate most_states n) ∙ omega (arith, entries most_states)
  where
    entries : (k : ℕ) → length (numbers_print (replicate k n)) ≡ 6 * k
    entries zero = refl
    entries (suc k) = omega (arith, entries k, size_five n h l, length-append (decimal n) (stop_before (length (replicate k n)) ∷ numbers_print (replicate k n)))
