-- `check_count` meets its contract: one cause, tested.
use mathlib.Core.Path.{sym, ◌∙◌}
use Rattle.lists.proofs.Causes.{none_refused, refused, skipped}
use Rattle.kripke.proofs.graph.check_count.Goals as goal

pub returns-then-bad_count : goal.returns-then-bad_count
returns-then-bad_count c = refused _ _ _ (sym c.bad_count.ensures ∙ c.if-bad_count.true)

pub returns : goal.returns
returns c = skipped _ _ _ (sym c.bad_count.ensures ∙ c.if-bad_count.false) ∙ none_refused
