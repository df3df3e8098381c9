-- `way` meets its contract: what is left of the successors, and the last with a mark so far.
use mathlib.Core.Path.{sym, ap, ◌∙◌, subst}
use native.Mathlib.Omega.{arith}
use Rattle.std.specs.Prelude.{None}
use Rattle.kripke.specs.Answers.{targets}
use Rattle.pictures.proofs.Marking.{Seeking, seeking_found, seeking_start, seeking_state}
use Rattle.pictures.proofs.question.Question.way.Goals as goal

pub loop-t-init : goal.loop-t-init
loop-t-init c =
    let g = c.args.self.now.graph in
    subst (Seeking g.states g.transitions.now c.args.marks.now c.args.s None) (sym (ap (λ r. targets r.pairs.now) c.into_iter-t-iterator.ensures.into_iter_gives ∙ c.successors-t-items.ensures)) (seeking_start _ _ _ _)

pub bounds-marks-t : goal.bounds-marks-t
bounds-marks-t c =
    let g = c.args.self.now.graph in
    omega (arith, g.ready.accepted.few, seeking_state _ _ _ _ g.ready.accepted.graph _ _ _ (subst (Seeking g.states g.transitions.now c.args.marks.now c.args.s c.loop-t.way) c.in-Some.ensures.steps c.loop-t.invariant))

pub loop-t-preserved-then-marks-t : goal.loop-t-preserved-then-marks-t
loop-t-preserved-then-marks-t c =
    let g = c.args.self.now.graph in
    seeking_found _ _ _ _ g.ready.accepted.graph _ _ _ (subst (Seeking g.states g.transitions.now c.args.marks.now c.args.s c.loop-t.way) c.in-Some.ensures.steps c.loop-t.invariant) c.if-marks-t.true
