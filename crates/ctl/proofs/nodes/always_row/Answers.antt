-- `always_row` meets its contract.
use Prim.Native.Nat.{ℕ}
use mathlib.Core.List.{List}
use Rattle.kripke.specs.Until.{everywhere, until}
use Rattle.values.specs.Limits.{most_states}
use Rattle.ctl.proofs.TurnedRows.{eventually_same, turned_filled}
use Rattle.ctl.proofs.nodes.always_row.Goals as goal

pub returns : goal.returns
returns c =
    let x = c.args in
    turned_filled (λ (X : List ℕ). until x.all x.graph.now.transitions.now (everywhere x.graph.now.states) X x.graph.now.states) (eventually_same x.all x.graph.now.transitions.now x.graph.now.states) _ _ most_states most_states _ _ _ _ c.deny_row.ensures c.eventually_row.ensures c.deny_row-2.ensures
