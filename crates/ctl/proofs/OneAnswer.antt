-- Any two answers that `judge` may give coincide, the verdict spaces with them; the answer's number is the refusal, which leaves the space.
use Rattle.std.specs.Prelude.{Result, Ok, Err}
use mathlib.Core.Path.{◌≡◌, sym, ap, ◌∙◌}
use Prim.Native.Nat.{ℕ}
use mathlib.Core.List.{List}
use borrow.Author.Tests.{ne_eqb}
use Rattle.lists.specs.Rows.{fill}
use Rattle.values.specs.declared.refusal.Refusal.{Refusal}
use Rattle.values.specs.declared.verdict.Verdict.{Verdict}
use Rattle.values.specs.Refusal.{answer_number}
use Rattle.values.proofs.Refusing.{answers_number, answers_one, number_some}
use Rattle.model.specs.Model.{Model}
use Rattle.ctl.specs.Answers.{Judged, Judging, number_due}
use native.Mathlib.Omega.{arith}
use Rattle.values.specs.Answers.{verdict}
use Rattle.ctl.specs.Rows.{model_verdict, rows_of, stored_rows}

pub judging_one : (m : Model) (before after after' : List ℕ) (r r' : Result Verdict Refusal) → Judging m before after r → Judging m before after' r' → (r ≡ r') × (after ≡ after')
judging_one m before after after' r r' p p' = (answers_one _ _ (λ a b e e'. e ∙ sym e') r r' p.answer p'.answer, p.space ∙ sym p'.space)

module _ (m : Model) (before after : List ℕ) (r : Result Verdict Refusal) (p : Judging m before after r) where
  -- the answer's number is the refusal
  pub judging_number : answer_number r ≡ number_due m before
  judging_number = answers_number _ _ r p.answer

  -- a refusal leaves the verdict space
  pub judging_keeps : (answer_number r ≡ 0 → ⊥) → after ≡ before
  judging_keeps h = p.space ∙ rw (ne_eqb (number_due m before) 0 (λ z. h (judging_number ∙ z)))

  -- and otherwise it holds the rows
  pub judging_rows : answer_number r ≡ 0 → after ≡ fill (stored_rows (rows_of m)) before
  judging_rows z = p.space ∙ rw (sym judging_number ∙ z)

-- where no cause refuses the model, the answer is its verdict
pub judged_verdict : (m : Model) (before after : List ℕ) (r : Judged) → Judging m before after r → number_due m before ≡ 0 → r ≡ Ok (verdict (model_verdict m))
judged_verdict m before after (Ok v) p z = ap Ok p.answer.1
judged_verdict m before after (Err e) p z = absurd (omega (arith, number_some e, p.answer, z))
