-- `round` meets its contract: one state after the other.
use native.Mathlib.Omega.{arith}
use lib.ListN.{length-set}
use Rattle.pictures.proofs.Marking.{rounding_passed, rounding_stuck}
use Rattle.pictures.proofs.question.Question.round.Goals as goal
use Rattle.pictures.proofs.question.Question.round.Goals.{then-is_stuck, else-is_stuck}

pub loop-s-preserved : goal.loop-s-preserved
loop-s-preserved c =
    let q = c.args.self.now in
    let G = q.graph.ready.accepted.graph in
    let l = c.loop-s in
    elim c.if-is_stuck.branch [
      | then-is_stuck w ↦ rw (w.marks-is, w.some-is) (rounding_stuck _ _ G _ _ _ _ _ _ _ c.loop-s-test.true l.invariant (omega (arith, c.told-marks, q.graph.ready.accepted.few)) (rw w.if-is_stuck.true at c.is_stuck.ensures.stuck) c.is_stuck.ensures.led (length-set _ _ _))
      | else-is_stuck w ↦ rw (w.marks-is, w.some-is) (rounding_passed _ _ G _ _ _ _ _ _ _ c.loop-s-test.true l.invariant (rw w.if-is_stuck.false at c.is_stuck.ensures.stuck) c.is_stuck.ensures.noted c.is_stuck.ensures.led)
    ]

pub is_stuck-requires-clause-led : goal.is_stuck-requires-clause-led
is_stuck-requires-clause-led c = c.loop-s.invariant.leads

pub returns-clause-led : goal.returns-clause-led
returns-clause-led c = c.loop-s.invariant.leads
