-- Judging: the refusal leaves the space, its number is the lowest that applies, and answers are one.
use Rattle.std.specs.Prelude.{Option, Some, None, Ok, Err}
use Rattle.values.specs.Refusal as refusal
use Rattle.values.specs.declared.refusal.Refusal.{Refusal}
use Rattle.values.specs.declared.refusal.Refusal.TheVariants.{UnnamedAtom}
use Rattle.values.proofs.Refusing.{number_some}
use mathlib.Core.Bool.{true, false}
use mathlib.Core.Path.{◌≡◌, sym, ap, ◌∙◌, subst}
use Prim.Native.Nat.{ℕ}
use mathlib.Core.List.{List}
use native.Mathlib.Omega.{arith}
use lib.ListN.{length}
use Rattle.lists.specs.Causes.{Applies, Lowest}
use Rattle.model.specs.Model.{Model}
use Rattle.model.specs.Refusals.{judge_causes}
use Rattle.ctl.specs.Answers.{Judging}
use Rattle.ctl.specs.Rows.{model_verdict}
use Rattle.promises.specs.Refusals.{JudgedNamed, OneAnswer, RefusalKeeps, RefusalLowest, UnnamedRefused}
use Rattle.model.proofs.Fine.{judge_fine}
use Rattle.model.proofs.Lowest.{judge_lowest, refused_unnamed}
use Rattle.model.proofs.Named.{named_nowhere, named_there}
use Rattle.ctl.proofs.OneAnswer.{judging_keeps, judging_number, judging_one}

pub refusal_keeps : RefusalKeeps
refusal_keeps m before after n p = judging_keeps m before after (Err n) p (λ z. omega (arith, number_some n, z))

pub refusal_lowest : RefusalLowest
refusal_lowest m before after r p = subst (Lowest (Applies (judge_causes m (length before)))) (sym (judging_number m before after r p)) (judge_lowest m (length before))

pub unnamed_refused : UnnamedRefused
unnamed_refused m before after p =
    let lost = refused_unnamed m (length before) (sym (judging_number m before after (Err UnnamedAtom) p)) in
    (lost.0, lost.1, λ n. named_nowhere m.nodes lost.0 lost.2 n.0 n.1 n.2 n.3)

pub judged_named : JudgedNamed
judged_named m before after v p a h = named_there m.nodes a ((judge_fine m (length before) (sym (judging_number m before after (Ok v) p))).named a h)

pub one_answer : OneAnswer
one_answer = judging_one
