-- `next` meets its contract: a refusal, or what `Question::next` found.
use mathlib.Core.Path.{sym, ◌∙◌}
use Rattle.kripke.proofs.Reading.{tables_taken}
use Rattle.paths.proofs.Promising.{next_level, next_tables, next_worked}
use Rattle.paths.proofs.next.Goals as goal

pub returns-in_err-t : goal.returns-in_err-t
returns-in_err-t c = next_tables _ _ _ _ _ _ c.in_err-t.ensures _ _ c.from_residual.ensures.1

pub returns-then-bad_level : goal.returns-then-bad_level
returns-then-bad_level c = next_level _ _ _ _ _ _ c.in_ok-t.ensures.0 c.in_ok-t.ensures.1 _ (sym c.bad_level.ensures ∙ c.if-bad_level.true)

pub returns : goal.returns
returns c = let q = c.of-question.ensures in next_worked _ _ _ _ _ _ c.in_ok-t.ensures.0 c.in_ok-t.ensures.1 (sym c.bad_level.ensures ∙ c.if-bad_level.false) _ _ _ (rw (q.states, q.transitions, q.left, q.right, q.level) at c.next.ensures)

pub of-question-requires : goal.of-question-requires
of-question-requires c = (tables_taken c.in_ok-t.ensures.0 c.in_ok-t.ensures.1).ready
