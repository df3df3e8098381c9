-- What judging answers, and the verdict space afterwards, for every input.
use Rattle.std.specs.Prelude.{◌≡◌, ℕ, List, Result, cond, length, eqb}
use Rattle.lists.specs.Rows.{fill}
use Rattle.values.specs.Answers.{verdict}
use Rattle.model.specs.Model.{Model}
use Rattle.model.specs.Refusals.{judge_refusal}
use Rattle.values.specs.Refusal.{Answers}
use Rattle.values.specs.declared.refusal.Refusal.{Refusal}
use Rattle.values.specs.declared.verdict.Verdict.{Verdict}
use Rattle.ctl.specs.Rows.{rows_of, stored_rows, model_verdict}

-- the model's verdict, or a refusal
abbrev pub Judged : Type 0
Judged = Result Verdict Refusal

-- the number that is due, by the verdict space that is lent
abbrev pub number_due : Model → List ℕ → ℕ
number_due m before = judge_refusal m (length before)

-- `judge`: the refusal or the model's verdict, and the rows in the space where nothing is refused
pub record Judging (m : Model) (before after : List ℕ) (r : Judged) : Type 0 where
  pub answer : Answers (number_due m before) r (λ v. v ≡ verdict (model_verdict m))
  pub space : after ≡ cond (eqb (number_due m before) 0) (fill (stored_rows (rows_of m)) before) before
