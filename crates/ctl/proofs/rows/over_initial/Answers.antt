-- `over_initial` meets its contract: after s states it holds the smallest value at the initial ones among them.
use mathlib.Core.Path.{◌≡◌, sym, ap, ◌∙◌}
use native.Mathlib.Omega.{arith}
use Prim.Native.Nat.{ℕ, min}
use Rattle.lists.specs.Entries.{at}
use Rattle.values.specs.Answers.{verdict}
use Rattle.ctl.proofs.OverInitial.{smallest_more, smallest_none, smallest_other, smallest_whole, smallest_so_far}
use Rattle.ctl.proofs.rows.over_initial.Goals as goal
use Rattle.ctl.proofs.rows.over_initial.Goals.{then-initial-s-eq1, else-initial-s-eq1}

pub loop-s-init : goal.loop-s-init
loop-s-init c = ap verdict (sym (smallest_none _ _))

pub loop-s-preserved : goal.loop-s-preserved
loop-s-preserved c =
    let x = c.args in
    let l = c.loop-s in
    elim c.if-initial-s-eq1.branch [
      | then-initial-s-eq1 w ↦ w.found-is ∙ w.and-found.ensures ∙ ap verdict (ap (λ (v : ℕ). min v (at x.row.now l.s)) (λ i. (l.invariant i).0) ∙ smallest_more x.initial.now x.row.now l.s w.if-initial-s-eq1.true)
      | else-initial-s-eq1 w ↦ w.found-is ∙ l.invariant ∙ ap verdict (smallest_other x.initial.now x.row.now l.s w.if-initial-s-eq1.false)
    ]

pub returns : goal.returns
returns c =
    let l = c.loop-s in
    let x = c.args in
    let last : l.s ≡ x.states = omega arith in
    l.invariant ∙ ap verdict (ap (smallest_so_far x.initial.now x.row.now) last ∙ smallest_whole x.initial.now x.row.now x.states c.requires)
