-- `is_stuck` meets its contract: the tests, one after the other.
use native.Mathlib.Omega.{arith}
use Rattle.kripke.proofs.Successors.{edge_state}
use Rattle.pictures.proofs.Marking.{led_way, loose_way, noted_still, noted_way, stuck_way, way_stays}
use Rattle.pictures.proofs.question.Question.is_stuck.Goals as goal

pub bounds-marks-t : goal.bounds-marks-t
bounds-marks-t c =
    let g = c.args.self.now.graph in
    omega (arith, g.ready.accepted.few, edge_state _ _ g.ready.accepted.graph _ _ (c.requires.led.along _ _ c.in-Some.is))

pub returns-then-marks-t-clause-stuck : goal.returns-then-marks-t-clause-stuck
returns-then-marks-t-clause-stuck c =
    let x = c.requires.led.along _ _ c.in-Some.is in
    loose_way _ _ _ _ _ c.in-Some.t x (edge_state _ _ c.args.self.now.graph.ready.accepted.graph _ _ x) c.if-marks-t.true

pub returns-then-marks-t-clause-noted : goal.returns-then-marks-t-clause-noted
returns-then-marks-t-clause-noted c = noted_still _ _ _ _ _ _ (way_stays _ _ c.args.self.now.left.now _ _ c.args.self.now.graph.ready.accepted.graph _ _ c.requires.led c.in-Some.is c.if-marks-t.true)

pub returns : goal.returns
returns c =
    let G = c.args.self.now.graph.ready.accepted in
    record {
      stuck = stuck_way _ _ _ _ _ _ _ c.way-way.ensures c.is_none.ensures c.if-not-marks-s.false c.if-self-s-eq0.false;
      noted = noted_way _ _ _ _ _ _ _ (omega (arith, c.requires.state, c.told-ways, G.few)) c.way-way.ensures;
      led = led_way _ _ _ _ _ _ (omega (arith, c.requires.state, c.told-ways, G.few)) c.way-way.ensures c.requires.led;
    }
