-- `bad_row` meets its contract: another length, or else a value above 2.
use mathlib.Core.Path.{sym, ap, ◌∙◌}
use mathlib.Core.Bool.{not}
use borrow.Author.Tests.{eq-eqb, ne_eqb}
use Rattle.values.specs.Rows.{bad_row}
use Rattle.lists.proofs.Tests.{or_fails, or_left}
use Rattle.values.proofs.rows.bad_row.Goals as goal

pub returns-then-stored-row_size : goal.returns-then-stored-row_size
unfolding bad_row
returns-then-stored-row_size c = sym (or_left _ _ (ap not (ne_eqb _ _ (λ e. c.if-stored-row_size.true (e ∙ sym c.row_size.ensures)))))

pub returns : goal.returns
unfolding bad_row
returns c = c.some_no_verdict.ensures ∙ sym (or_fails _ _ (ap not (eq-eqb _ _ (c.if-stored-row_size.false ∙ c.row_size.ensures))))
