-- The operators beside E and A, from the laws of judging.
use mathlib.Core.Path.{refl}
use mathlib.Core.Bool.{true, false}
use Rattle.model.specs.Model.{kind_at}
use Rattle.promises.specs.Operators.{Dualities, EndlessPaths, ImpliesOr, LeastAndGreatest, NextStates, PartsDecide, Unfoldings}
use Rattle.ctl.proofs.Held.{part_held, row_kept}
use Rattle.ctl.proofs.Operators.{af_says, ag_says, always_dual, always_is_greatest, always_unfold, and_dual, ax_dual, ax_says, ef_says, eg_says, eventually_dual, eventually_is_least, eventually_unfold, ex_dual, ex_says, implies_or_lem, or_dual}
use Rattle.promises.proofs.Accepted.{number_none, rows_stand}

pub parts_decide : PartsDecide
parts_decide m before after v p =
    let z = number_none m before after v p in
    let e = rows_stand m before after v p in
    (row_kept m before z after e, λ k s t u. (part_held m before z after e (kind_at m.nodes k) k s t.node t.state refl u).2)

pub next_states : NextStates
next_states = (ex_says, ax_says)

pub endless_paths : EndlessPaths
endless_paths = (ef_says, af_says, eg_says, ag_says)

pub dualities : Dualities
dualities = (ax_dual, ex_dual, always_dual false, eventually_dual false, always_dual true, eventually_dual true, or_dual, and_dual)

pub implies_or : ImpliesOr
implies_or = implies_or_lem

pub unfoldings : Unfoldings
unfoldings = (eventually_unfold false, eventually_unfold true, always_unfold true, always_unfold false)

pub least_and_greatest : LeastAndGreatest
least_and_greatest = (eventually_is_least false, eventually_is_least true, always_is_greatest true, always_is_greatest false)
