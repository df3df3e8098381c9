-- `judge_formula` meets its contract: the nodes that were read are judged in the front of their table, and a refusal is handed on.
use Rattle.sheet.proofs.Asking.{asked_nodes}
use Rattle.sheet.proofs.judging.Held.judge_formula.Goals as goal

pub returns-in-Ok : goal.returns-in-Ok
returns-in-Ok c = asked_nodes c.args.self.now _ _ _ c.in-Ok.ensures _ _ _ c.judge.ensures
