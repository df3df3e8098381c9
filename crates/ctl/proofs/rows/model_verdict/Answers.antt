-- `model_verdict` meets its contract: the last row is read as an operand of the node that would follow.
use mathlib.Core.Path.{ap, ◌∙◌}
use native.Mathlib.Omega.{arith}
use Rattle.values.specs.Answers.{verdict}
use Rattle.ctl.proofs.Operands.{operand_small}
use Rattle.ctl.proofs.OverInitial.{initial_same}
use Rattle.ctl.proofs.rows.model_verdict.Goals as goal

pub over_initial-requires : goal.over_initial-requires
over_initial-requires c =
    let ready = c.requires in
    let read = c.operand-last.ensures in
    record {
      listed = ready.listed;
      some = ready.some;
      room = omega (arith, ready.rows.few);
      small = operand_small _ _ _ _ ready.rows (omega (arith, ready.last)) _ read;
    }

pub returns : goal.returns
returns c = c.over_initial.ensures ∙ ap verdict (initial_same _ _ _ _ c.operand-last.ensures)
