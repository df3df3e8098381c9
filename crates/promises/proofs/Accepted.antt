-- What a model has that `judge` accepted: no cause refuses it, its rows stand in the space, and each is read back.
use Rattle.std.specs.Prelude.{Ok, Err}
use Rattle.values.specs.Refusal as refusal
use Rattle.values.specs.declared.refusal.Refusal.{Refusal}
use native.Mathlib.Omega.{arith}
use Rattle.values.proofs.Refusing.{number_some, number_tells}
use mathlib.Core.Path.{◌≡◌, refl, sym, ap, ◌∙◌}
use Prim.Native.Nat.{ℕ}
use mathlib.Core.List.{List}
use lib.ListN.{length}
use borrow.Author.Tests.{ne_eqb}
use Rattle.lists.specs.Rows.{fill}
use Rattle.values.specs.Answers.{verdict}
use Rattle.values.specs.declared.verdict.Verdict.{Verdict}
use Rattle.kripke.specs.Transitions.{Graph}
use Rattle.model.specs.Model.{Model}
use Rattle.ctl.specs.Answers.{Judged, Judging, number_due}
use Rattle.ctl.specs.Rows.{model_verdict, rows_of, stored_rows, verdict_at}
use Rattle.promises.specs.Verdicts.{There, written}
use Rattle.ctl.proofs.Held.{held_value}
use Rattle.ctl.proofs.OneAnswer.{judged_verdict, judging_number, judging_rows}
use Rattle.kripke.proofs.Refusals.{accepted}
use Rattle.model.proofs.Fine.{judge_fine}

module _ (m : Model) (before after : List ℕ) (v : Verdict) (p : Judging m before after (Ok v)) where
  pub number_none : number_due m before ≡ 0
  number_none = p.answer.0

  pub rows_stand : after ≡ fill (stored_rows (rows_of m)) before
  rows_stand = judging_rows m before after (Ok v) p refl

  pub answered : v.0 ≡ model_verdict m
  answered = ap (λ (x : Verdict). x.0) p.answer.1

  pub written_value : (k s : ℕ) → There m k s → written m after k s ≡ verdict_at m k s
  written_value k s t = held_value m before number_none after rows_stand k s t.node t.state

  pub graph_there : Graph m.states m.transitions
  graph_there = (accepted m.states m.transitions (judge_fine m (length before) number_none).table).graph

-- where no cause refuses the model, the answer is a verdict
pub accepted_verdict : (m : Model) (before after : List ℕ) (r : Judged) → Judging m before after r → number_due m before ≡ 0 → r ≡ Ok (verdict (model_verdict m))
accepted_verdict m before after r p z = judged_verdict m before after r p z

-- and where a refusal's number is due, it is that refusal
pub refused_answer : (m : Model) (before after : List ℕ) (r : Judged) (e : Refusal) → Judging m before after r → number_due m before ≡ refusal.number_of e → r ≡ Err e
refused_answer m before after (Ok v) e p d = absurd (omega (arith, number_some e, d, p.answer.0))
refused_answer m before after (Err x) e p d = ap Err (number_tells x e (sym p.answer ∙ d))
