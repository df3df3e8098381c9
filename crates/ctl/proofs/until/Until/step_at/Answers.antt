-- `step_at` meets its contract: right, or left and what comes next.
use mathlib.Core.Path.{ap, ◌∙◌}
use Prim.Native.Nat.{min, max}
use Rattle.ctl.specs.Inside.{stepped}
use Rattle.values.specs.Answers.{verdict}
use Rattle.lists.specs.Entries.{at}
use Rattle.values.specs.declared.verdict.Verdict.{Verdict}
use Rattle.ctl.proofs.until.Until.step_at.Goals as goal

pub returns : goal.returns
unfolding stepped
returns c =
    let x = c.args in
    let u = x.self.now in
    c.or.ensures ∙ ap (λ (v : Verdict). verdict (max (at u.right.now x.s) v.0)) c.and.ensures ∙ ap (λ (v : Verdict). verdict (max (at u.right.now x.s) (min (at u.left.now x.s) v.0))) c.next_at-next.ensures
