-- The line of row k of a verdict space, by the tests on k, the states and the space.
use Prim.Native.Nat.{ℕ, zero, suc, ◌+◌, ◌*◌, ◌-◌, ◌≤◌, ◌<◌}
use mathlib.Core.Path.{◌≡◌, refl, ap, ◌∙◌}
use mathlib.Core.List.{List}
use mathlib.Core.Bool.{Bool, true, false, not, ◌&&◌}
use native.Mathlib.Omega.{arith}
use native.Mathlib.Nat.{mul-le-mul, mul-zero}
use lib.ListN.{length, take, drop, length-take, length-drop}
use lib.Dec.{leb}
use borrow.Author.Tests.{lt-ltb, le-ltb, lt-leb, ne_eqb}
use Rattle.values.specs.Limits.{most_states, most_nodes}
use Rattle.values.specs.Rows.{row_size, row_begin, row_in, bad_row, row_values}
use Rattle.values.proofs.StoredRows.{row_size_within}
use Rattle.lists.proofs.Tests.{and_fails, or_left}
use Rattle.answer.specs.Lines.{row_line}
use Rattle.answer.specs.Answers.{Due, line_if, row_due, LineWritten}
use Rattle.answer.specs.Answers.Due.{none}
use Rattle.std.specs.Prelude.{Err}
use Rattle.answer.specs.declared.Unwritten.TheVariants.{NoLine}
use Rattle.sheet.specs.Output.{row_at}

-- where row k begins and ends is within the largest verdict space
pub row_within : (S k size : ℕ) → S ≤ most_states → k < most_nodes → size ≡ row_size S → (k * size ≤ most_nodes * most_states) × (size ≤ most_states)
row_within S k size few row e =
    let small : size ≤ most_states = omega (arith, row_size_within S) in
    let before : k ≤ most_nodes = omega arith in
    (mul-le-mul before small, small)

pub row_past : (S : ℕ) (space : List ℕ) (k : ℕ) → most_nodes ≤ k → row_at S space k ≡ none
unfolding row_at
row_past S space k h = rw (le-ltb k most_nodes h)

no_row : (S : ℕ) (stored : List ℕ) → (leb S most_states && not (bad_row S stored)) ≡ false → row_due S stored ≡ none
no_row S stored e = ap (λ (b : Bool). line_if b (row_line (row_values S stored))) e

pub row_many : (S : ℕ) (space : List ℕ) (k : ℕ) → k < most_nodes → most_states < S → row_at S space k ≡ none
unfolding row_at
row_many S space k h m = rw (lt-ltb k most_nodes h) (no_row S _ (and_fails _ _ (lt-leb S most_states m)))

-- the part of the space that is lent as row k
pub row_here : (S : ℕ) (space : List ℕ) (k size : ℕ) → k < most_nodes → size ≡ row_size S → row_at S space k ≡ row_due S (take (k * size + size - k * size) (drop (k * size) space))
unfolding row_at row_in row_begin
row_here S space k size h e =
    let back : k * size + size - k * size ≡ row_size S = omega arith in
    rw (lt-ltb k most_nodes h, back, e)

-- a row that ends past a space has some bytes
some_bytes : (k size room : ℕ) → room < k * size + size → 0 < size
some_bytes k zero room h = absurd (omega (arith, mul-zero k))
some_bytes k (suc size) room h = omega arith

-- a part that is too short is no row
pub row_short : (S : ℕ) (space : List ℕ) (k size : ℕ) → k < most_nodes → size ≡ row_size S → length space < k * size + size → row_at S space k ≡ none
unfolding bad_row
row_short S space k size h e short =
    let part = take (k * size + size - k * size) (drop (k * size) space) in
    let some = some_bytes k size (length space) short in
    let differs : length part ≡ row_size S → ⊥ = λ q. omega (arith, q, length-take (k * size + size - k * size) (drop (k * size) space), length-drop (k * size) space) in
    let bad : bad_row S part ≡ true = or_left _ _ (ap not (ne_eqb _ _ differs)) in
    row_here S space k size h e ∙ no_row S part (never (leb S most_states) (bad_row S part) bad)
  where
    never : (a b : Bool) → b ≡ true → (a && not b) ≡ false
    never false b e = refl
    never true b e = ap not e

pub none_written : {due : Due} (before : List ℕ) → due ≡ none → LineWritten due before before (Err NoLine)
none_written before e = rw e (record { answers = refl; buffer = refl })
