-- `is_fault` meets its contract: the tests, one after the other.
use mathlib.Core.Path.{sym, ◌∙◌}
use Rattle.paths.proofs.Breaks.{fault_left, fault_right, fault_state, fault_unjoined}
use Rattle.paths.proofs.question.Question.is_fault.Goals as goal

pub returns-then-self-s : goal.returns-then-self-s
returns-then-self-s c = sym (fault_state _ _ _ _ _ _ _ c.if-self-s.true)

pub returns-then-is_unjoined : goal.returns-then-is_unjoined
returns-then-is_unjoined c = sym (fault_unjoined _ _ _ _ _ _ _ c.if-self-s.false (sym c.is_unjoined.ensures ∙ c.if-is_unjoined.true))

pub returns-then-i-path : goal.returns-then-i-path
returns-then-i-path c = sym (fault_left _ _ _ _ _ _ _ c.if-self-s.false (sym c.is_unjoined.ensures ∙ c.if-is_unjoined.false) c.if-i-path.true)

pub returns : goal.returns
returns c = sym (fault_right _ _ _ _ _ _ _ c.if-self-s.false (sym c.is_unjoined.ensures ∙ c.if-is_unjoined.false) c.if-i-path.false)
