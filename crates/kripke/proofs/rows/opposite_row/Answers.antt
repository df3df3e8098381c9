-- `opposite_row` meets its contract: what is no row is left alone, and otherwise the denials are filled in and their front is stored.
use native.Mathlib.Omega.{arith}
use mathlib.Core.Path.{sym}
use lib.Seq.{length-take-le}
use Rattle.values.proofs.StoredRows.{row_read_lem}
use Rattle.kripke.proofs.Opposites.{opposite_refused, opposite_stored}
use Rattle.kripke.proofs.rows.opposite_row.Goals as goal

pub returns-in_default : goal.returns-in_default
returns-in_default c = opposite_refused _ _ _ c.in_default.ensures

pub deny-requires : goal.deny-requires
deny-requires c =
    let k = row_read_lem _ _ _ c.in-Some.ensures.0 c.in-Some.ensures.1 in
    (omega (arith, k.few, k.long), k.few)

pub slice_bounds-denied-end : goal.slice_bounds-denied-end
slice_bounds-denied-end c = omega (arith, (row_read_lem _ _ _ c.in-Some.ensures.0 c.in-Some.ensures.1).few, c.deny.auto.out)

pub slice_bounds-store_row-end : goal.slice_bounds-store_row-end
slice_bounds-store_row-end c =
    let k = row_read_lem _ _ _ c.in-Some.ensures.0 c.in-Some.ensures.1 in
    sym (length-take-le _ _ (omega (arith, k.few, c.deny.auto.out)))

pub returns : goal.returns
returns c = opposite_stored _ _ c.in-Some.row (row_read_lem _ _ _ c.in-Some.ensures.0 c.in-Some.ensures.1) _ _ _ _ _ c.deny.ensures c.store_row.ensures
