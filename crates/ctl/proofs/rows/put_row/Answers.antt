-- `put_row` meets its contract: the row is stored into the part of the space that begins where the row does.
use mathlib.Core.Path.{◌≡◌}
use Prim.Native.Nat.{◌+◌, ◌*◌, ◌≤◌}
use native.Mathlib.Omega.{arith}
use lib.ListN.{length, take}
use lib.Seq.{length-take-le}
use Rattle.values.specs.Rows.{row_begin, row_size}
use Rattle.ctl.proofs.PutRow.{begins_within, put_part}
use Rattle.ctl.proofs.rows.put_row.Goals as goal
use Rattle.ctl.proofs.rows.put_row.Goals.{After-row_size}

-- where the row begins
begins : (c : After-row_size) → (c.args.i * c.row_size.result ≡ row_begin c.args.states c.args.i) × (c.args.i * c.row_size.result + row_size c.args.states ≤ length c.args.verdicts.now)
begins c = begins_within c.args.states c.args.i c.row_size.result (length c.args.verdicts.now) c.row_size.ensures c.requires.1

pub overflow_mul-at : goal.overflow_mul-at
overflow_mul-at c = omega (arith, begins c)

pub slice_bounds-store_row-count : goal.slice_bounds-store_row-count
slice_bounds-store_row-count c = omega (arith, begins c)

pub slice_bounds-store_row-start : goal.slice_bounds-store_row-start
slice_bounds-store_row-start c = omega (arith, begins c)

pub returns : goal.returns
returns c =
    let x = c.args in
    put_part x.states x.i (take x.states x.row.now) x.verdicts.now _ _ (begins (goal.at.returns c).After-row_size).0 (length-take-le x.states x.row.now c.requires.0) (begins (goal.at.returns c).After-row_size).1 c.store_row.ensures.space
