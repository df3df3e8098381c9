-- `check_list` meets its contract: one cause, tested.
use mathlib.Core.Path.{sym, ◌∙◌}
use Rattle.lists.proofs.Causes.{none_refused, refused, skipped}
use Rattle.kripke.proofs.graph.check_list.Goals as goal

pub returns-then-bad_list : goal.returns-then-bad_list
returns-then-bad_list c = refused _ _ _ (sym c.bad_list.ensures ∙ c.if-bad_list.true)

pub returns : goal.returns
returns c = skipped _ _ _ (sym c.bad_list.ensures ∙ c.if-bad_list.false) ∙ none_refused
