-- `check_each` meets its contract: no end seen yet is no state, and whether an order was broken is remembered.
use mathlib.Core.Path.{sym, ◌∙◌}
use mathlib.Core.Bool.{false}
use mathlib.Core.Logic.{inl, inr}
use native.Mathlib.Omega.{arith}
use Rattle.kripke.specs.Refusals.{leaves}
use Rattle.lists.proofs.Causes.{none_refused, refused, skipped}
use Rattle.lists.proofs.Search.{any_all, any_found, any_more, any_zero}
use Rattle.lists.proofs.Tests.{remembered}
use Rattle.kripke.proofs.graph.check_each.Goals as goal
use Rattle.kripke.proofs.graph.check_each.Goals.{then-falls, else-falls}

pub loop-k-init : goal.loop-k-init
loop-k-init c = (any_zero _, any_zero _)

pub returns-then-leaves : goal.returns-then-leaves
returns-then-leaves c = refused _ _ _ (any_found (leaves c.args.states c.args.transitions.now) c.loop-k.k _ (omega arith) (rw (sym c.at.ensures.from, sym c.at.ensures.to) (sym c.leaves.ensures ∙ c.if-leaves.true)))

pub loop-k-preserved : goal.loop-k-preserved
loop-k-preserved c =
    let l = c.loop-k in
    let f = c.falls in
    (any_more _ _ false false l.invariant.0 (rw (sym c.at.ensures.from, sym c.at.ensures.to) (sym c.leaves.ensures ∙ c.if-leaves.false)), any_more _ _ _ _ l.invariant.1 (sym f.ensures) ∙ remembered _ _ _ (elim c.if-falls.branch [ then-falls w ↦ inl (w.if-falls.true, w.fell-is) | else-falls w ↦ inr (w.if-falls.false, w.fell-is) ]))

pub returns-then-fell : goal.returns-then-fell
returns-then-fell c =
    let l = c.loop-k in
    skipped _ _ _ (any_all _ _ _ _ l.invariant.0 (omega arith) (omega arith)) ∙ refused _ _ _ (any_all _ _ _ _ l.invariant.1 (omega arith) (omega arith) ∙ c.if-fell.true)

pub returns : goal.returns
returns c =
    let l = c.loop-k in
    skipped _ _ _ (any_all _ _ _ _ l.invariant.0 (omega arith) (omega arith)) ∙ skipped _ _ _ (any_all _ _ _ _ l.invariant.1 (omega arith) (omega arith) ∙ c.if-fell.false) ∙ none_refused
