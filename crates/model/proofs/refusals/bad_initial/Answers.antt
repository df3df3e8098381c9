-- `bad_initial` meets its contract: another length, an entry above 1, or no 1.
use mathlib.Core.Path.{sym, ap, ◌∙◌}
use Prim.Native.Nat.{ℕ}
use mathlib.Core.Bool.{not, true≢false}
use lib.Dec.{eqb}
use borrow.Author.Tests.{eq-eqb, ne_eqb}
use Rattle.model.specs.Refusals.{bad_initial}
use Rattle.lists.proofs.Tests.{or_fails, or_left}
use Rattle.lists.proofs.Search.{any_list}
use Rattle.model.proofs.refusals.bad_initial.Goals as goal
use Rattle.model.proofs.refusals.bad_initial.Goals.{then-initial-states, else-initial-states}

pub returns-then-some_above : goal.returns-then-some_above
unfolding bad_initial
returns-then-some_above c =
    elim c.if-initial-states.branch [
      | then-initial-states w ↦ c.if-some_above.true ∙ sym (or_left _ _ (ap not (ne_eqb _ _ w.if-initial-states.true)))
      | else-initial-states w ↦ c.if-some_above.true ∙ sym (or_fails _ _ (ap not (eq-eqb _ _ w.if-initial-states.false)) ∙ or_left _ _ (sym w.some_above.ensures ∙ sym w.value-is ∙ c.if-some_above.true))
    ]

pub returns-else-some_above : goal.returns-else-some_above
unfolding bad_initial
returns-else-some_above c =
    elim c.if-initial-states.branch [
      | then-initial-states w ↦ absurd (true≢false (sym (ap not (ne_eqb _ _ w.if-initial-states.true)) ∙ sym w.value-is ∙ c.if-some_above.false))
      | else-initial-states w ↦ ap not (c.contains.ensures.value ∙ sym (any_list (λ (x : ℕ). eqb x 1) 0 c.args.initial.now)) ∙ sym (or_fails _ _ (ap not (eq-eqb _ _ w.if-initial-states.false)) ∙ or_fails _ _ (sym w.some_above.ensures ∙ sym w.value-is ∙ c.if-some_above.false))
    ]
