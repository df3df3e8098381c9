-- `check` meets its contract: a refusal, or whether the list passes with the row "not right" and ends so.
use mathlib.Core.Path.{◌≡◌, sym, subst}
use Prim.Native.Nat.{ℕ, ◌≤◌}
use mathlib.Core.List.{List}
use native.Mathlib.Omega.{arith}
use lib.ListN.{length, take}
use lib.Seq.{length-take-le}
use Rattle.lists.specs.Entries.{at}
use Rattle.values.proofs.StoredRows.{row_size_within}
use Rattle.values.specs.Limits.{most_states}
use Rattle.kripke.specs.Answers.{opposite_row}
use Rattle.kripke.proofs.Reading.{tables_taken}
use Rattle.pictures.specs.Inside.{Passing, Readable, Tells}
use Rattle.pictures.specs.Pictures.{EndsBy}
use Rattle.pictures.proofs.Checks.{drawn_told, opposite_front, opposite_readable}
use Rattle.pictures.proofs.Promising.{check_tables, check_told, readable}
use Rattle.pictures.proofs.check.Goals as goal
use Rattle.pictures.proofs.check.Goals.{After-row_size}

pub returns-in_err-t : goal.returns-in_err-t
returns-in_err-t c = check_tables _ _ _ _ _ c.in_err-t.ensures _ _ _ c.from_residual.ensures.1

-- the row "not right", at the front of its space
module _ (c : After-row_size) where
  few : c.args.states ≤ most_states
  few = (tables_taken c.in_ok-t.ensures.0 c.in_ok-t.ensures.1).ready.accepted.few

  fine : Readable c.args.states c.args.transitions.now c.args.right.now
  fine = readable _ _ _ _ _ c.in_ok-t.ensures.0 c.in_ok-t.ensures.1

  room : c.row_size.result ≤ length c.opposite_row.new.space
  room = omega (arith, c.row_size.ensures, row_size_within c.args.states, few, c.opposite_row.auto.space)

  front : take c.row_size.result c.opposite_row.new.space ≡ opposite_row c.args.states c.args.right.now
  front = opposite_front _ _ fine.valid _ _ _ few (omega (arith, few)) c.opposite_row.ensures _ c.row_size.ensures

  denied : Readable c.args.states c.args.transitions.now (take c.row_size.result c.opposite_row.new.space)
  denied = opposite_readable _ _ fine.valid _ _ _ few (omega (arith, few)) c.opposite_row.ensures _ fine.table _ c.row_size.ensures

pub slice_bounds-row-end : goal.slice_bounds-row-end
slice_bounds-row-end c = room (goal.at.slice_bounds-row-end c).After-row_size

pub slice_bounds-denied-end : goal.slice_bounds-denied-end
slice_bounds-denied-end c = sym (length-take-le _ _ (room (goal.at.slice_bounds-denied-end c).After-row_size))

pub invariant_of-denied : goal.invariant_of-denied
invariant_of-denied c = record { readable = denied (goal.at.invariant_of-denied c).After-row_size }

pub returns : goal.returns
returns c =
    let x = c.args in
    let before : After-row_size = (goal.at.returns c).After-row_size in
    let told = subst (λ (r : List ℕ). Tells (Passing x.states x.transitions.now r x.path.now × EndsBy x.transitions.now (at c.in_ok-t.t.left) x.path.now x.ending) c.ends.result) (front before) c.ends.ensures in
    check_told _ _ _ _ _ c.in_ok-t.ensures.0 c.in_ok-t.ensures.1 _ _ _ (drawn_told _ _ (fine before).valid _ _ _ _ _ told)
