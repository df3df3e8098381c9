-- `is_witness` meets its contract: a search through the entries.
use mathlib.Core.Path.{sym, ◌∙◌}
use mathlib.Core.Bool.{false}
use Rattle.lists.proofs.Search.{any_more, any_zero}
use Rattle.paths.proofs.question.Question.is_witness.Goals as goal

pub loop-i-init : goal.loop-i-init
loop-i-init c = any_zero _

pub loop-i-preserved : goal.loop-i-preserved
loop-i-preserved c = any_more _ _ false false c.loop-i.invariant (sym c.is_fault.ensures ∙ c.if-is_fault.false)
