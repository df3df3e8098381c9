-- `eventually_row` meets its contract.
use Rattle.values.specs.Limits.{most_states}
use Rattle.ctl.proofs.TurnedRows.{eventually_filled}
use Rattle.ctl.proofs.nodes.eventually_row.Goals as goal

pub returns : goal.returns
returns c =
    eventually_filled _ _ _ _ most_states _ _ _ c.true_row.ensures c.until_row.ensures
