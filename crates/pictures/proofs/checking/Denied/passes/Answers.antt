-- `passes` meets its contract: what the check answered; tables and a row that are fine are not refused.
use Rattle.pictures.proofs.Checks.{pass_refused}
use Rattle.pictures.proofs.checking.Denied.passes.Goals as goal

pub returns-in-Err : goal.returns-in-Err
returns-in-Err c = absurd (pass_refused _ _ _ _ _ c.args.self.now.readable c.in-Err.ensures)
