-- `check` meets its contract: a refusal, or whether an entry is at fault.
use mathlib.Core.Path.{sym, ◌∙◌}
use Rattle.kripke.proofs.Reading.{tables_taken}
use Rattle.paths.proofs.Promising.{check_level, check_tables, check_worked}
use Rattle.paths.proofs.check.Goals as goal

pub returns-in_err-t : goal.returns-in_err-t
returns-in_err-t c = check_tables _ _ _ _ _ _ c.in_err-t.ensures _ _ c.from_residual.ensures.1

pub returns-then-bad_level : goal.returns-then-bad_level
returns-then-bad_level c = check_level _ _ _ _ _ _ c.in_ok-t.ensures.0 c.in_ok-t.ensures.1 _ (sym c.bad_level.ensures ∙ c.if-bad_level.true)

pub of-question-requires : goal.of-question-requires
of-question-requires c = (tables_taken c.in_ok-t.ensures.0 c.in_ok-t.ensures.1).ready

pub returns : goal.returns
returns c = let q = c.of-question.ensures in check_worked _ _ _ _ _ _ c.in_ok-t.ensures.0 c.in_ok-t.ensures.1 (sym c.bad_level.ensures ∙ c.if-bad_level.false) _ _ (rw (q.states, q.transitions, q.left, q.right, q.level) at c.is_witness.ensures)
