-- `mark_named` meets its contract: the marks of the nodes before, and one more.
use mathlib.Core.Bool.{true}
use mathlib.Core.Path.{◌≡◌, sym, ap, ◌∙◌, subst}
use Prim.Native.Nat.{◌+◌, ◌<◌}
use native.Mathlib.Omega.{arith}
use lib.ListN.{length, length-set}
use Rattle.model.specs.Model.{kind_at, left_at}
use Rattle.model.specs.Inside.{Marked}
use Rattle.model.proofs.Marks.{mark_kept, mark_put, named_fits}
use Rattle.model.proofs.naming.mark_named.Goals as goal
use Rattle.model.proofs.naming.mark_named.Goals.{then-nodes-i, else-nodes-i}

pub bounds-marks-nodes : goal.bounds-marks-nodes
bounds-marks-nodes c =
    let l = c.loop-i in
    omega (arith, l.invariant.0, named_fits c.args.nodes.now _ l.i c.requires.1 (omega arith) (c.if-nodes-i.true ∙ c.number.ensures))

pub loop-i-preserved : goal.loop-i-preserved
loop-i-preserved c =
    let l = c.loop-i in
    let ns = c.args.nodes.now in
    let room : kind_at ns l.i ≡ 1 → left_at ns l.i < length l.marks = λ k. omega (arith, l.invariant.0, named_fits ns _ l.i c.requires.1 (omega arith) k) in (
      elim c.if-nodes-i.branch [ then-nodes-i w ↦ ap length w.marks-is ∙ length-set l.marks (left_at ns l.i) true ∙ l.invariant.0 | else-nodes-i w ↦ ap length w.marks-is ∙ l.invariant.0 ],
      elim c.if-nodes-i.branch [
        | then-nodes-i w ↦ subst (Marked ns (l.i + 1)) (sym w.marks-is) (mark_put ns l.i l.marks l.invariant.1 (w.if-nodes-i.true ∙ c.number.ensures) (room (w.if-nodes-i.true ∙ c.number.ensures)))
        | else-nodes-i w ↦ subst (Marked ns (l.i + 1)) (sym w.marks-is) (mark_kept ns l.i l.marks l.invariant.1 (λ e. w.if-nodes-i.false (e ∙ sym c.number.ensures)))
      ],
    )
