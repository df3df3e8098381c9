-- `some_bad_operand` meets its contract: a search through the nodes.
use mathlib.Core.Path.{sym, ◌∙◌}
use mathlib.Core.Bool.{false}
use native.Mathlib.Omega.{arith}
use Rattle.lists.proofs.Search.{any_found, any_more, any_zero}
use Rattle.model.proofs.refusals.some_bad_operand.Goals as goal

pub loop-i-init : goal.loop-i-init
loop-i-init c = any_zero _

pub returns-then-bad_operand : goal.returns-then-bad_operand
returns-then-bad_operand c = sym (any_found _ _ _ (omega arith) (sym c.bad_operand.ensures ∙ c.if-bad_operand.true))

pub loop-i-preserved : goal.loop-i-preserved
loop-i-preserved c = any_more _ _ false false c.loop-i.invariant (sym c.bad_operand.ensures ∙ c.if-bad_operand.false)
