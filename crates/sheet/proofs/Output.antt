-- Line k of the whole answer, by the tests on k, and that `write_line` permits one answer.
use Prim.Native.Nat.{ℕ, zero, suc, ◌+◌, ◌-◌, ◌≤◌, ◌<◌}
use mathlib.Core.Path.{◌≡◌, refl, ap, sym, ◌∙◌}
use mathlib.Core.List.{List, [], ◌∷◌, ◌++◌}
use mathlib.Core.Bool.{Bool, true, false, cond}
use native.Mathlib.Omega.{arith}
use native.Mathlib.Nat.{add-zero, zero-add}
use lib.ListN.{length}
use lib.Dec.{leb}
use borrow.Author.Tests.{eq-eqb, ne_eqb, leb-true}
use Rattle.answer.specs.Answers.{Due, number_due, model_due, LineWritten}
use Rattle.answer.specs.Answers.Due.{line, none}
use Rattle.std.specs.Prelude.{Option, Some, None, Result, Ok, Err, MatchResult, IsOkAnd}
use Rattle.answer.specs.declared.Unwritten.{Unwritten}
use Rattle.answer.specs.declared.Unwritten.TheVariants.{NoRoom}
use Rattle.sheet.specs.declared.Sheet.{Sheet}
use Rattle.sheet.specs.Output.{row_at, rows_from, output, Place, line_at}
use Rattle.sheet.specs.Answers.{line_of, LinePut}
use Rattle.sheet.specs.Output.Place.{here, past}

-- among the rows, at the line behind them, and past that
row_line_lem : (S : ℕ) (space : List ℕ) (j n i : ℕ) (rest : List Due) → i < n → line_at (rows_from S space j n ++ rest) i ≡ here (row_at S space (j + i))
unfolding rows_from line_at
row_line_lem S space j zero i rest h = absurd (omega arith)
row_line_lem S space j (suc n) zero rest h = ap (λ (k : ℕ). here (row_at S space k)) (sym (add-zero j))
row_line_lem S space j (suc n) (suc i) rest h =
    let e : suc j + i ≡ j + suc i = omega arith in
    row_line_lem S space (suc j) n i rest (omega arith) ∙ ap (λ (k : ℕ). here (row_at S space k)) e

last_line : (S : ℕ) (space : List ℕ) (j n : ℕ) (d : Due) → line_at (rows_from S space j n ++ (d ∷ [])) n ≡ here d
unfolding rows_from line_at
last_line S space j zero d = refl
last_line S space j (suc n) d = last_line S space (suc j) n d

no_line : (S : ℕ) (space : List ℕ) (j n i : ℕ) (d : Due) → n < i → line_at (rows_from S space j n ++ (d ∷ [])) i ≡ past
unfolding rows_from line_at
no_line S space j zero zero d h = absurd (omega arith)
no_line S space j zero (suc i) d h = refl
no_line S space j (suc n) zero d h = absurd (omega arith)
no_line S space j (suc n) (suc i) d h = no_line S space (suc j) n i d (omega arith)

-- a line after the first
pub later : {place : Place} (lines : List Due) (k : ℕ) → (k ≡ 0 → ⊥) → line_at lines (suc (k - 1)) ≡ place → line_at lines k ≡ place
later lines k h p = let e : k ≡ suc (k - 1) = omega arith in ap (line_at lines) e ∙ p

module _ (sheet : Sheet) (space : List ℕ) where
  pub at_number : (k : ℕ) → k ≡ 0 → line_at (output sheet space) k ≡ here (number_due sheet.number)
  unfolding output line_at
  at_number k e = rw e

  pub at_refusal : (i : ℕ) → (sheet.number ≡ 0 → ⊥) → line_at (output sheet space) (suc i) ≡ past
  unfolding output line_at
  at_refusal i h = rw (ne_eqb sheet.number 0 h)

  pub at_row : (i : ℕ) → sheet.number ≡ 0 → i < sheet.nodes → line_at (output sheet space) (suc i) ≡ here (row_at sheet.states space i)
  unfolding output line_at
  at_row i z h = rw (eq-eqb sheet.number 0 z) (row_line_lem sheet.states space 0 sheet.nodes i _ h ∙ ap (λ (k : ℕ). here (row_at sheet.states space k)) (zero-add i))

  pub at_model : (i : ℕ) → sheet.number ≡ 0 → i ≡ sheet.nodes → line_at (output sheet space) (suc i) ≡ here (model_due sheet.model.0)
  unfolding output line_at
  at_model i z e = rw (eq-eqb sheet.number 0 z, e) (last_line sheet.states space 0 sheet.nodes _)

  pub at_end : (i : ℕ) → sheet.number ≡ 0 → sheet.nodes < i → line_at (output sheet space) (suc i) ≡ past
  unfolding output line_at
  at_end i z h = rw (eq-eqb sheet.number 0 z) (no_line sheet.states space 0 sheet.nodes i _ h)

-- a writer's answer as that of the line, and the end
pub mapped : (r : Result ℕ Unwritten) (l : Result (Option ℕ) Unwritten) → MatchResult r (λ (n : ℕ). IsOkAnd l (λ (o : Option ℕ). o ≡ Some n)) (λ (e : Unwritten). l ≡ Err e) → l ≡ line_of r
mapped (Ok n) (Ok o) p = ap Ok p
mapped (Ok n) (Err e) p = elim p [ ]
mapped (Err e) l p = p

pub line_here : {place : Place} {d : Due} {before after : List ℕ} {r : Result ℕ Unwritten} {l : Result (Option ℕ) Unwritten} → place ≡ here d → l ≡ line_of r → LineWritten d before after r → LinePut place before after l
line_here e l p = rw e (record { answers = l ∙ ap line_of p.answers; buffer = p.buffer })

pub line_past : {place : Place} (before : List ℕ) → place ≡ past → LinePut place before before (Ok None)
line_past before e = rw e (record { answers = refl; buffer = refl })

-- any two permitted answers coincide, the buffer too
pub line_put_one : (place : Place) (before after after' : List ℕ) (r r' : Result (Option ℕ) Unwritten) → LinePut place before after r → LinePut place before after' r' → (r ≡ r') × (after ≡ after')
line_put_one place before after after' r r' p q = (p.answers ∙ sym q.answers, p.buffer ∙ sym q.buffer)

-- the bytes of a line lie within the buffer
bytes_within : (room size n : ℕ) (b : Bool) → leb size room ≡ b → line_of (cond b (Ok size) (Err NoRoom)) ≡ Ok (Some n) → n ≤ room
bytes_within room size n true t e = let same : size ≡ n = cc in omega (arith, leb-true size room t)
bytes_within room size n false t e = absurd (let z : ◌≡◌ {A = ℕ} 0 1 = cc in omega arith)

pub line_within : (place : Place) (before after : List ℕ) (l : Result (Option ℕ) Unwritten) (n : ℕ) → LinePut place before after l → l ≡ Ok (Some n) → n ≤ length before
line_within (here (line bytes)) before after l n p e = bytes_within (length before) (length bytes) n (leb (length bytes) (length before)) refl (sym p.answers ∙ e)
line_within (here none) before after l n p e = absurd (let q = p.answers in let z : ◌≡◌ {A = ℕ} 0 1 = cc in omega arith)
line_within past before after l n p e = absurd (let q = p.answers in let z : ◌≡◌ {A = ℕ} 0 1 = cc in omega arith)
