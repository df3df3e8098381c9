-- `advance` meets its contract: the round fills the scratch row, and its front is taken.
use Rattle.lists.proofs.Rows.{filled_via}
use Rattle.ctl.proofs.until.Until.advance.Goals as goal

pub returns : goal.returns
returns c = (filled_via _ _ _ _ _ _ c.round.ensures c.take_row.ensures.0, c.take_row.ensures.1)
