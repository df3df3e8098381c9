-- `check_labels` meets its contract: each return names the test that held, and those before it that did not.
use mathlib.Core.Path.{sym, ap, ◌∙◌}
use mathlib.Core.Bool.{not}
use borrow.Author.Tests.{lt-ltb, le-ltb, eq-eqb, ne_eqb}
use Rattle.lists.proofs.Causes.{none_refused, refused, skipped}
use Rattle.model.proofs.refusals.check_labels.Goals as goal

pub returns-then-atoms-gt-MOST_ATOMS : goal.returns-then-atoms-gt-MOST_ATOMS
returns-then-atoms-gt-MOST_ATOMS c = refused _ _ _ (lt-ltb _ _ c.if-atoms-gt-MOST_ATOMS.true)

pub returns-then-labels-states : goal.returns-then-labels-states
returns-then-labels-states c = skipped _ _ _ (le-ltb _ _ c.if-atoms-gt-MOST_ATOMS.false) ∙ refused _ _ _ (ap not (ne_eqb _ _ c.if-labels-states.true))

pub returns-then-some_no_verdict : goal.returns-then-some_no_verdict
returns-then-some_no_verdict c = skipped _ _ _ (le-ltb _ _ c.if-atoms-gt-MOST_ATOMS.false) ∙ skipped _ _ _ (ap not (eq-eqb _ _ c.if-labels-states.false)) ∙ refused _ _ _ (sym c.some_no_verdict.ensures ∙ c.if-some_no_verdict.true)

pub returns-then-bad_initial : goal.returns-then-bad_initial
returns-then-bad_initial c = skipped _ _ _ (le-ltb _ _ c.if-atoms-gt-MOST_ATOMS.false) ∙ skipped _ _ _ (ap not (eq-eqb _ _ c.if-labels-states.false)) ∙ skipped _ _ _ (sym c.some_no_verdict.ensures ∙ c.if-some_no_verdict.false) ∙ refused _ _ _ (sym c.bad_initial.ensures ∙ c.if-bad_initial.true)

pub returns : goal.returns
returns c = skipped _ _ _ (le-ltb _ _ c.if-atoms-gt-MOST_ATOMS.false) ∙ skipped _ _ _ (ap not (eq-eqb _ _ c.if-labels-states.false)) ∙ skipped _ _ _ (sym c.some_no_verdict.ensures ∙ c.if-some_no_verdict.false) ∙ skipped _ _ _ (sym c.bad_initial.ensures ∙ c.if-bad_initial.false) ∙ none_refused
