-- `round` meets its contract: a row filled from the front.
use mathlib.Core.Path.{ap, ◌∙◌}
use native.Mathlib.Omega.{arith}
use Rattle.lists.proofs.Rows.{filled_more, filled_none}
use Rattle.values.specs.declared.verdict.Verdict.{Verdict}
use Rattle.ctl.proofs.until.Until.round.Goals as goal

pub loop-s-init : goal.loop-s-init
loop-s-init c = filled_none _ _

pub loop-s-preserved : goal.loop-s-preserved
loop-s-preserved c = filled_more _ _ _ _ _ c.loop-s.invariant (omega arith) (c.number.ensures ∙ ap (λ (v : Verdict). v.0) c.step_at.ensures)
