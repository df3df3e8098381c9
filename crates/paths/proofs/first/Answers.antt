-- `first` meets its contract: a refusal, or what `Question::first` found.
use mathlib.Core.Path.{sym, ◌∙◌}
use Rattle.kripke.proofs.Reading.{tables_taken}
use Rattle.paths.proofs.Promising.{first_level, first_start, first_tables, first_worked}
use Rattle.paths.proofs.first.Goals as goal

pub returns-in_err-t : goal.returns-in_err-t
returns-in_err-t c = first_tables _ _ _ _ _ _ c.in_err-t.ensures _ _ _ c.from_residual.ensures.1

pub returns-then-bad_level : goal.returns-then-bad_level
returns-then-bad_level c = first_level _ _ _ _ _ _ c.in_ok-t.ensures.0 c.in_ok-t.ensures.1 _ _ (sym c.bad_level.ensures ∙ c.if-bad_level.true)

pub returns-then-bad_start : goal.returns-then-bad_start
returns-then-bad_start c = first_start _ _ _ _ _ _ c.in_ok-t.ensures.0 c.in_ok-t.ensures.1 _ _ (sym c.bad_start.ensures ∙ c.if-bad_start.true)

pub returns : goal.returns
returns c = let q = c.of-question.ensures in first_worked _ _ _ _ _ _ c.in_ok-t.ensures.0 c.in_ok-t.ensures.1 (sym c.bad_level.ensures ∙ c.if-bad_level.false) _ _ _ _ (sym c.bad_start.ensures ∙ c.if-bad_start.false) (rw (q.states, q.transitions, q.left, q.right, q.level) at c.first.ensures)

pub of-question-requires : goal.of-question-requires
of-question-requires c = (tables_taken c.in_ok-t.ensures.0 c.in_ok-t.ensures.1).ready
