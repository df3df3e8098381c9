-- `next` meets its contract: no witness, or the distances that `measure` left are those that the descent goes by.
use mathlib.Core.Bool.{true}
use mathlib.Core.Path.{subst}
use native.Mathlib.Omega.{arith}
use lib.ListN.{drop, length-drop}
use Rattle.lists.specs.Entries.{at}
use Rattle.paths.specs.Inside.{Faultless}
use Rattle.paths.proofs.Breaks.{faultless, first_state}
use Rattle.paths.proofs.Rounding.{far_down, far_layers}
use Rattle.paths.proofs.question.Question.next.Goals as goal
use Rattle.paths.proofs.question.Question.next.Goals.{Else-not-is_witness}

fine : (c : Else-not-is_witness) → let q = c.args.self.now in Faultless q.graph.states q.graph.transitions.now (at q.left.now) (at q.right.now) q.level c.args.path.now true
fine c = let q = c.args.self.now in subst (Faultless q.graph.states q.graph.transitions.now (at q.left.now) (at q.right.now) q.level c.args.path.now) c.if-not-is_witness.false c.is_witness.ensures

pub measure-requires : goal.measure-requires
measure-requires c = first_state _ _ _ _ _ _ (fine (goal.at.measure-requires c).Else-not-is_witness)

pub invariant_of-descent : goal.invariant_of-descent
invariant_of-descent c =
    record { layers = far_layers c.args.self.now.graph.ready.accepted.graph (λ s h. h.0) (λ s h. h.0) c.measure.ensures }

pub next-requires : goal.next-requires
next-requires c =
    let path = c.args.path.now in
    let f = fine (goal.at.next-requires c).Else-not-is_witness in
    let w = faultless _ _ _ _ _ _ f.0 f.1 in
    record {
      starts = (f.0, first_state _ _ _ _ _ _ f);
      down = λ e. far_down c.measure.ensures (at path 0) (drop 1 path) w (omega (arith, length-drop 1 path, f.0, e));
    }
