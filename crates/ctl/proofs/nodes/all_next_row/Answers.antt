-- `all_next_row` meets its contract.
use mathlib.Core.Bool.{false}
use Rattle.kripke.specs.Until.{next}
use Rattle.values.specs.Limits.{most_states}
use Rattle.ctl.proofs.TurnedRows.{next_same, turned_filled}
use Rattle.ctl.proofs.nodes.all_next_row.Goals as goal

pub returns : goal.returns
returns c =
    let es = c.args.graph.now.transitions.now in
    turned_filled (next false es) (next_same false es) _ _ most_states most_states _ _ _ _ c.deny_row.ensures c.next_row.ensures c.deny_row-2.ensures
