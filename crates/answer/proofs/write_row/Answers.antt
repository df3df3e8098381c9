-- `write_row` meets its contract: a row that was read has its letters put between the key and the line feed.
use native.Mathlib.Omega.{arith}
use Rattle.values.proofs.StoredRows.{row_invalid, row_valid}
use Rattle.answer.specs.Lines.{row_line}
use Rattle.lists.proofs.Placed.{put_then}
use Rattle.answer.proofs.Promises.{line_put, line_short, line_none, line_some}
use lib.ListN.{length-take}
use Rattle.answer.proofs.Sizes.{row_size_lem, row_few, row_front, row_front_small}
use Rattle.answer.proofs.write_row.Goals as goal

pub returns-in_default : goal.returns-in_default
returns-in_default c = line_none _ _ _ (row_invalid _ _ c.in_default.ensures)

pub overflow_add-states : goal.overflow_add-states
overflow_add-states c = omega (arith, row_few _ _ _ c.in-Some.ensures.0 c.in-Some.ensures.1)

pub returns-then-buffer-states : goal.returns-then-buffer-states
returns-then-buffer-states c =
    let x = c.args in
    line_some _ (row_valid _ _ c.in-Some.ensures.0) (line_short _ _ (omega (arith, row_size_lem x.states x.stored.now)))

pub shared_ref_as_front-put_letters : goal.shared_ref_as_front-put_letters
shared_ref_as_front-put_letters c = omega (arith, row_few _ _ _ c.in-Some.ensures.0 c.in-Some.ensures.1)

pub put_letters-b-requires : goal.put_letters-b-requires
put_letters-b-requires c = (omega (arith, c.put_bytes-a.ensures.ends, length-take c.args.states c.in-Some.row.values), row_front_small _ _ _ c.in-Some.ensures.0 c.in-Some.ensures.1)

pub returns : goal.returns
unfolding row_line
returns c =
    let x = c.args in
    line_some _ (row_valid _ _ c.in-Some.ensures.0)
    (line_put
    (put_then c.put_bytes-a.ensures (put_then (rw (row_front _ _ _ c.in-Some.ensures.0 c.in-Some.ensures.1) at c.put_letters-b.ensures) c.put_byte-end.ensures))
    (omega (arith, row_size_lem x.states x.stored.now)))
