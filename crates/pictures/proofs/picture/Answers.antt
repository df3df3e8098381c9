-- `picture` meets its contract: a refusal, or what `draw` found.
use native.Mathlib.Omega.{arith}
use Rattle.kripke.proofs.Reading.{tables_taken}
use Rattle.pictures.proofs.Promising.{picture_drawn, picture_start, picture_tables}
use Rattle.pictures.proofs.picture.Goals as goal

pub returns-in_err-t : goal.returns-in_err-t
returns-in_err-t c = picture_tables _ _ _ _ _ c.in_err-t.ensures _ _ _ c.from_residual.ensures.1

pub returns-then-states-start : goal.returns-then-states-start
returns-then-states-start c = picture_start _ _ _ _ _ c.in_ok-t.ensures.0 c.in_ok-t.ensures.1 _ _ c.if-states-start.true

pub invariant_of-graph : goal.invariant_of-graph
invariant_of-graph c = record { ready = (tables_taken c.in_ok-t.ensures.0 c.in_ok-t.ensures.1).ready }

pub returns : goal.returns
returns c = picture_drawn _ _ _ _ _ c.in_ok-t.ensures.0 c.in_ok-t.ensures.1 _ _ (omega (arith, c.if-states-start.false)) _ _ c.draw.ensures
